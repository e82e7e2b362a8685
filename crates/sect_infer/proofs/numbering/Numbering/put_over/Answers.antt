use Rattle.std.proofs.Common.{◌∙◌, None, Some, ap, subst}
use Rattle.sect_infer.specs.steps.Putting.{IsPut}
use Rattle.sect_infer.proofs.Extending.{broad_classed, classed_put, count_put, counted_put, numbered_late}
use Rattle.sect_infer.proofs.Extending.{numbered_same}
use Rattle.sect_infer.proofs.numbering.Numbering.put_over.Goals as goal

pub tell_below-requires-clause-count : goal.tell_below-requires-clause-count
tell_below-requires-clause-count c = count_put c.requires.0 c.args.self.now c.add.new.self
    c.in_ok-try_clone.field-0 None c.args.above.items c.requires.1 (c.in_ok-number.ensures.new c.if-is_new.true)

pub tell_below-requires-clause-classes : goal.tell_below-requires-clause-classes
tell_below-requires-clause-classes c = counted_put c.requires.0 c.args.self.now c.add.new.self
    c.in_ok-try_clone.field-0 None c.args.above.items c.requires.1 (c.in_ok-number.ensures.new c.if-is_new.true)

pub returns-in_ok-tell_below : goal.returns-in_ok-tell_below
returns-in_ok-tell_below c = λ s is broad fresh.
    let t = c.args.self.now in
    let mid = c.add.new.self in
    let l = c.args.lock.now in
    let ns = c.args.above.items in
    let put = subst (λ x. IsPut t mid x None ns) c.in_ok-try_clone.ensures
    (c.in_ok-number.ensures.new c.if-is_new.true) in
    let class = broad_classed s l broad in
    numbered_late s t mid c.tell_below.new.self l None ns c.in_ok-number.field-0.number is put fresh class
    (c.in_ok-number.ensures.there ∙ ap (λ x. Some x) c.in_ok-try_clone.ensures)
    (c.in_ok-tell_below.ensures s broad (classed_put s t mid l None ns is put class))

pub returns-else-is_new : goal.returns-else-is_new
returns-else-is_new c = λ s is broad fresh.
    numbered_same s c.args.self.now c.add.new.self c.args.lock.now c.in_ok-number.field-0.number is
    (c.in_ok-number.ensures.old c.if-is_new.false)
    (c.in_ok-number.ensures.there ∙ ap (λ x. Some x) c.in_ok-try_clone.ensures)
