use Rattle.std.proofs.Common.{sym, subst, arith}
use Rattle.sect_points.specs.Partitions.{ClassesView}
use Rattle.sect_lemmas.specs.Lists.{Has}
use Rattle.sect_check.proofs.Resolving.{class_below}
use Rattle.sect_check.proofs.locks.class_of.Goals as goal

pub returns-else-number : goal.returns-else-number
returns-else-number c = λ h.
    let numbers = c.classes-else-number.result.now.numbers in
    let below = class_below numbers c.class_count-facts.result c.class_count-facts.ensures.below c.args.number
    (subst (λ (p : ClassesView). Has p.numbers c.args.number) (sym c.classes-else-number.ensures) h) in
    omega (arith, below, c.class_count-facts.ensures.few, c.if-number.false)
