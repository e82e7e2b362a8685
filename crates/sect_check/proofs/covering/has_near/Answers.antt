use Rattle.std.proofs.Common.{◌<◌, length, sym, ◌∙◌, subst, arith}
use Rattle.sect_lemmas.specs.Lists.{Has}
use Rattle.sect_names.proofs.shared.Telling.{lock_tells}
use Rattle.sect_check.proofs.Scanning.{item_has}
use Rattle.sect_check.proofs.covering.has_near.Goals as goal

pub returns-then-eq : goal.returns-then-eq
returns-then-eq c = λ t.
    let locks = c.args.locks.now in
    let x = c.index-locks-here.result in
    let within : c.loop-here.here < length locks = omega (arith, c.loop-here-test.true, c.min-end.ensures) in
    subst (Has locks) ((lock_tells x c.args.lock.now).0 (sym c.eq.ensures ∙ c.if-eq.true))
    (item_has locks c.loop-here.here x within c.index-locks-here.is)
