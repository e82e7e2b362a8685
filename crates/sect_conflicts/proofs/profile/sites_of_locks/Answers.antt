use Rattle.std.proofs.Common.{◌<◌, ◌+◌, length, take, sym, subst, arith}
use Rattle.sect_lemmas.proofs.Places.{zip_more}
use Rattle.sect_conflicts.specs.steps.Profiles.{AreSitesOfLock, AreSitesOfLocks}
use Rattle.sect_conflicts.proofs.profile.sites_of_locks.Goals as goal

pub loop-lock-preserved : goal.loop-lock-preserved
loop-lock-preserved c =
    let s = c.args.scheme.now in
    let locks = c.args.locks.now in
    let i = c.loop-lock.lock-index in
    let within : i < length locks = omega arith in
    subst (AreSitesOfLocks s (take (i + 1) locks)) (sym c.in_ok-push.ensures.items)
    (zip_more (AreSitesOfLock s) locks i c.lock-item.result c.loop-lock.sites.items c.lock_sites.result within
    c.lock-item.is c.loop-lock.invariant c.lock_sites.ensures)
