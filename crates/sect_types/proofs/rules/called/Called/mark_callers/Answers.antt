use Rattle.std.proofs.{Common.{arith, ◌∙◌, subst, refl, []}, lemmas.List.{get_or_read}}
use Rattle.sect_types.specs.steps.Called.{AreCallers}
use Rattle.sect_types.proofs.Marking.{one_more, calls_it, caller_there, all_callers}
use Rattle.sect_types.proofs.rules.called.Called.mark_callers.Goals as goal

pub mark-requires : goal.mark-requires
mark-requires c =
    let all = subst (λ ps. AreCallers ps c.self.inside.callers.items) c.self.view_is c.self.invariant.1 in
    let row = c.as_slice-caller-items.ensures ∙ get_or_read c.self.inside.callers.items c.args.number c.index.result.now
    (omega (arith, all.as_many, c.requires.there)) c.index.ensures [] in
    omega (
      arith,
      c.loop-caller.invariant.grows.as_many,
      c.requires.many,
      caller_there c.args.self.now c.self.inside.callers.items c.args.number c.as_slice-caller-items.result.now
          c.loop-caller.caller-index all row (omega arith),
    )

pub loop-caller-preserved : goal.loop-caller-preserved
loop-caller-preserved c =
    let all = subst (λ ps. AreCallers ps c.self.inside.callers.items) c.self.view_is c.self.invariant.1 in
    let row = c.as_slice-caller-items.ensures ∙ get_or_read c.self.inside.callers.items c.args.number c.index.result.now
    (omega (arith, all.as_many, c.requires.there)) c.index.ensures [] in
    one_more c.args.self.now c.args.number c.as_slice-caller-items.result.now c.args.marked.now.items
    c.args.found.now.items c.loop-caller.caller-index _ c.loop-caller.marked.items c.loop-caller.found.items
    c.mark.new.marked.items c.mark.new.found.items (omega arith) refl
    (calls_it c.args.self.now c.self.inside.callers.items c.args.number c.as_slice-caller-items.result.now
    c.loop-caller.caller-index _ all row (omega arith) refl) c.loop-caller.invariant c.in_ok-mark.ensures

pub returns-clause-callers : goal.returns-clause-callers
returns-clause-callers c =
    let all = subst (λ ps. AreCallers ps c.self.inside.callers.items) c.self.view_is c.self.invariant.1 in
    let row = c.as_slice-caller-items.ensures ∙ get_or_read c.self.inside.callers.items c.args.number c.index.result.now
    (omega (arith, all.as_many, c.requires.there)) c.index.ensures [] in
    all_callers c.args.self.now c.self.inside.callers.items c.args.number c.as_slice-caller-items.result.now
    c.loop-caller.caller-index c.loop-caller.marked.items all row (omega arith) c.loop-caller.invariant.callers
