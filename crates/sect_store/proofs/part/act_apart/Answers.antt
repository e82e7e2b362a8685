use Rattle.std.proofs.Common.{◌∙◌, subst}
use Rattle.sect_store.specs.Parts.{ComesTo, left_paid, written}
use Rattle.sect_store.proofs.Parting.{once_paid}
use Rattle.sect_store.proofs.part.act_apart.Goals as goal

pub returns-in-Ok-Went-clause-comes : goal.returns-in-Ok-Went-clause-comes
returns-in-Ok-Went-clause-comes c = λ p t s part.
    let left = subst
    (ComesTo (left_paid c.args.action.now c.pay.new.self) c.pay.new.self c.run_apart.new.work c.args.part.now
    c.run_apart.new.part) c.in-Ok-Went.field-0-is c.in-Ok-Went.ensures.comes p t s part in
    let paid = c.if-not-pay.ensures in (
      left.0,
      left.1 ∙ once_paid c.args.action.now c.args.work.now c.pay.new.self paid.0 paid.1 paid.2 p t
          (written s c.args.part.now.writes.items),
    )

pub returns-in-Ok-Fell-clause-comes : goal.returns-in-Ok-Fell-clause-comes
returns-in-Ok-Fell-clause-comes c = λ p t s part.
    let left = subst
    (ComesTo (left_paid c.args.action.now c.pay.new.self) c.pay.new.self c.run_apart.new.work c.args.part.now
    c.run_apart.new.part) c.in-Ok-Fell.field-0-is c.in-Ok-Fell.ensures.comes p t s part in
    let paid = c.if-not-pay.ensures in (
      left.0,
      left.1 ∙ once_paid c.args.action.now c.args.work.now c.pay.new.self paid.0 paid.1 paid.2 p t
          (written s c.args.part.now.writes.items),
    )
