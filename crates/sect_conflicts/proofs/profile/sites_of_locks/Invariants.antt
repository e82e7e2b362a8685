use Rattle.std.proofs.Common.{take}
use Rattle.sect_conflicts.specs.steps.Profiles.{AreSitesOfLocks}
use Rattle.sect_conflicts.proofs.profile.sites_of_locks.Given as goal

abbrev pub invariant-loop-lock : goal.invariant-loop-lock
invariant-loop-lock l = AreSitesOfLocks l.scheme (take l.lock-index l.locks) l.sites.items
