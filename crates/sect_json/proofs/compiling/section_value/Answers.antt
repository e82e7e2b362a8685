use Rattle.std.proofs.{Common.{ap, ◌∙◌}, lemmas.Result.{IfOk-weaker}}
use Rattle.serde_json.specs.View.{view}
use Rattle.sect_json.specs.{Compiling.{section_with, set_json, plan_json}, Nodes.{nodes_json}}
use Rattle.sect_emit.specs.declared.graphs.GraphOf.TheVariants as graphed
use Rattle.sect_json.proofs.compiling.section_value.Goals as goal

pub returns : goal.returns
returns c =
    let v = c.args.compiled.now in
    let i = c.args.section in
    let thread = c.section_thread-thread.result in
    let nodes = nodes_json v (graphed.Section i) in
    IfOk-weaker c.told_section.result _ _
    (λ value h. h
    ∙ (ap (λ d. section_with d (view c.in_ok-nodes.nodes) (view c.in_ok-plan.plan) i thread) c.in_ok-locks.ensures
    ∙ (ap (λ d. section_with (set_json v i) d (view c.in_ok-plan.plan) i thread) c.in_ok-nodes.ensures
    ∙ (ap (λ d. section_with (set_json v i) nodes d i thread) c.in_ok-plan.ensures
    ∙ ap (λ t. section_with (set_json v i) nodes (plan_json v i) i t) c.section_thread-thread.ensures))))
    c.told_section.ensures
