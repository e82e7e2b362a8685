use Rattle.std.proofs.Common.{arith, ◌∙◌, subst, ap, refl, length}
use Rattle.std.specs.Prelude.{replicate, false, []}
use Rattle.sect_lemmas.proofs.Changed.{get_there}
use Rattle.sect_types.specs.steps.Called.{Marks}
use Rattle.sect_types.proofs.Marking.{begun, searched, passed_by, all_searched, found_there}
use Rattle.sect_types.proofs.rules.called.Called.returning.Goals.{then-next-len+in_ok-mark_callers, else-next-len}
use Rattle.sect_types.proofs.rules.called.Called.returning.Goals as goal

pub loop-next-init : goal.loop-next-init
loop-next-init c = begun c.args.self.now c.args.number (length c.args.self.now) c.mark.new.marked.items
    c.mark.new.found.items refl
    (subst (λ xs. Marks c.args.number xs [] c.mark.new.marked.items c.mark.new.found.items)
    (c.in_ok-marked.ensures.items_if_clones_equal (λ y h. h) ∙ ap (λ ps. replicate (length ps) false) c.self.view_is)
    (subst (λ ys. Marks c.args.number c.in_ok-marked.marked.items ys c.mark.new.marked.items c.mark.new.found.items)
    c.new-found.ensures.items c.in_ok-mark.ensures))

pub mark_callers-requires-clause-there : goal.mark_callers-requires-clause-there
mark_callers-requires-clause-there c =
    found_there c.args.self.now c.args.number c.loop-next.next c.loop-next.marked.items c.loop-next.found.items
    c.index-reached.result.now (omega (arith, c.if-next-len.true, c.len.ensures)) c.index-reached.ensures
    c.loop-next.invariant

pub loop-next-preserved : goal.loop-next-preserved
loop-next-preserved c = elim c.if-next-len.branch [
  | then-next-len+in_ok-mark_callers w ↦ rw (w.marked-is, w.found-is) (searched c.args.self.now c.args.number
      c.loop-next.next w.index-reached.result.now c.loop-next.marked.items c.loop-next.found.items
      w.mark_callers.new.marked.items w.mark_callers.new.found.items
      (get_there c.loop-next.next w.index-reached.result.now c.loop-next.found.items
      (omega (arith, w.if-next-len.true, c.len.ensures)) w.index-reached.ensures) c.loop-next.invariant
      (w.in_ok-mark_callers.ensures.right c.args.number) w.in_ok-mark_callers.ensures.both
      w.in_ok-mark_callers.ensures.grows w.in_ok-mark_callers.ensures.callers)
  | else-next-len w ↦ rw (w.marked-is, w.found-is) (passed_by c.args.self.now c.args.number c.loop-next.next
      c.loop-next.marked.items c.loop-next.found.items (omega (arith, w.if-next-len.false, c.len.ensures))
      c.loop-next.invariant)
]

pub returns : goal.returns
returns c =
    all_searched c.args.self.now c.args.number c.loop-next.next c.loop-next.marked.items c.loop-next.found.items
    (omega (arith, ap length c.self.view_is)) c.loop-next.invariant
