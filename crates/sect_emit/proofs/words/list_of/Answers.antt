use Rattle.std.proofs.Common.{◌<◌, length, arith, sym, subst}
use Rattle.std.specs.Map.Iter.{deref}
use Rattle.sect_lemmas.specs.Lists.{Has}
use Rattle.sect_lemmas.proofs.{Listing.{Has-map}, Membership.{Has-get_or}}
use Rattle.sect_emit.proofs.words.list_of.Goals as goal

pub next_lock-requires-clause-named : goal.next_lock-requires-clause-named
next_lock-requires-clause-named c =
    let locks = c.args.locks.now in
    let i = c.loop-lock.lock-index in
    let within : i < length locks = omega arith in
    c.requires.named (deref c.lock-item.result) (Has-map deref locks c.lock-item.result
    (subst (Has locks) (sym c.lock-item.is) (Has-get_or locks i c.lock-item.result within)))
