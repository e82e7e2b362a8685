use Rattle.std.proofs.Common.{sym, subst, arith}
use Rattle.sect_lemmas.specs.Lists.{Has}
use Rattle.sect_lemmas.proofs.Membership.{Has-get_or}
use Rattle.sect_json.specs.Locks.{lock_json}
use Rattle.sect_json.proofs.Rows.{map_all}
use Rattle.sect_json.proofs.locks.locks_value.Goals as goal

pub lock_value-requires : goal.lock_value-requires
lock_value-requires c =
    let locks = c.args.locks.now in
    let x = c.lock-item.result in
    c.requires x
    (subst (Has locks) (sym c.lock-item.is) (Has-get_or locks c.loop-lock.lock-index x c.loop-lock-test.true))

pub returns : goal.returns
returns c =
    map_all (lock_json c.args.program.now.source) c.args.locks.now c.loop-lock.lock-index c.loop-lock.values
    (omega arith) c.loop-lock.invariant
