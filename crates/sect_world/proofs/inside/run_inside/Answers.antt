use Rattle.std.proofs.Common.{None, sym, ap, ◌∙◌, subst}
use Rattle.sect_types.specs.Store.{StoreView}
use Rattle.sect_graph.specs.declared.flow.Node.{Node}
use Rattle.sect_names.specs.Schemes.{SchemeView}
use Rattle.sect_store.specs.Undoing.{without_last}
use Rattle.sect_world.specs.steps.Moves.{GivesKey, object_by}
use Rattle.sect_world.proofs.FreshGrips.{if_ok, if_err, looked_up, new_goes, new_holds, others_hold}
use Rattle.sect_world.proofs.TakenBack.{taken_back}
use Rattle.sect_world.proofs.inside.run_inside.Goals as goal

pub returns-in_err-hold_made-in-Some-clause-refused : goal.returns-in_err-hold_made-in-Some-clause-refused
returns-in_err-hold_made-in-Some-clause-refused c =
    let t = c.args.step.thread in
    let refused = c.in_err-hold_made-in-Some.ensures.refused in
    if_err c.from_residual-in_err-hold_made-in-Some.result (
      refused.0,
      refused.1 ∙ ap (λ (s : StoreView). without_last s t) c.in_ok-make-in-Some.ensures.ok
          ∙ taken_back c.args.store.now t
          (object_by c.program-program.result.now c.in-Some.new.of c.in-Some.new.site),
      refused.2,
    )

pub returns-in_ok-hold_made-in-Some-clause-goes : goal.returns-in_ok-hold_made-in-Some-clause-goes
returns-in_ok-hold_made-in-Some-clause-goes c = λ rest k x at begins step.
    let label = looked_up (λ (y : Node). y.label) _ x _ at c.action.ensures ∙ c.in-Some.ensures.0 in
    let next = looked_up (λ (y : Node). y.next) _ x _ at c.succ.ensures in
    rw (c.in_ok-hold_made-in-Some.ensures.store, c.in_ok-make-in-Some.ensures.ok)
    (new_goes c.args.step.compiled.now _
    (c.program-program.ensures ∙ ap (λ (s : SchemeView). s.program) c.scheme.ensures) c.args.step.thread c.args.work.now
    c.hold_made.new.work c.args.store.now c.in-Some.new rest k x _ c.chosen.result
    label next c.chosen.ensures begins
    (c.in_ok-hold_made-in-Some.ensures.work c.program-program.result.now c.in-Some.new.of c.in-Some.new.site))

pub returns-in_ok-hold_made-in-Some-clause-table : goal.returns-in_ok-hold_made-in-Some-clause-table
returns-in_ok-hold_made-in-Some-clause-table c = λ rest k x at begins text.
    let label = looked_up (λ (y : Node). y.label) _ x _ at c.action.ensures ∙ c.in-Some.ensures.0 in
    new_holds c.args.step.compiled.now c.facts.ensures.compiled _
    (c.program-program.ensures ∙ ap (λ (s : SchemeView). s.program) c.scheme.ensures) c.args.step.thread c.args.work.now
    c.hold_made.new.work c.args.store.now c.in-Some.new rest k x _ _
    label c.in-Some.ensures.2 begins text
    (c.in_ok-hold_made-in-Some.ensures.work c.program-program.result.now c.in-Some.new.of c.in-Some.new.site)
    c.in_ok-hold_made-in-Some.ensures.table
    c.in_ok-hold_made-in-Some.ensures.kept

pub returns-in-None-clause-table : goal.returns-in-None-clause-table
returns-in-None-clause-table c = if_ok c.run_node.result (λ rest k x at begins text.
    let none = subst (λ l. GivesKey c.args.step.compiled.now.scheme.guards c.args.work.now.fuel l None)
    (sym (looked_up (λ (y : Node). y.label) _ x _ at c.action.ensures)) c.in-None.ensures in
    others_hold c.args.step.compiled.now c.facts.ensures.compiled c.args.step.thread c.args.work.now c.args.store.now
    rest k x c.args.table.now none begins text)
