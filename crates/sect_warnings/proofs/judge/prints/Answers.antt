use Rattle.std.proofs.Common.{◌≡◌, Some, length, ap, sym, ◌∙◌, subst, arith, slice_get, false, take, add-one}
use Rattle.std.proofs.lemmas.List.{take_all}
use Rattle.std.specs.{Prelude.{option_map}, List.{list_any}}
use Rattle.sect_lemmas.proofs.Places.{told_at}
use Rattle.sect_graph.specs.{declared.flow.Node.{Node}, Layout.{flow_nodes}}
use Rattle.sect_emit.specs.Explaining.{section_at}
use Rattle.sect_warnings.specs.Warnings.{is_print}
use Rattle.sect_warnings.proofs.Judging.{flow_is, any_found, none_more}
use Rattle.sect_warnings.proofs.judge.prints.Goals as goal

pub returns-then-is_print : goal.returns-then-is_print
returns-then-is_print c =
    let v = c.args.compiled.now in
    let i = c.args.section in
    let nodes = flow_nodes (section_at v i).body in
    let at : slice_get v.scheme.graphs.sections i ≡ Some c.section-flow.result.now =
    rw (c.graph.ensures, c.scheme.ensures) at c.section-flow.ensures in
    let is = flow_is v c.facts.ensures.compiled.scheme i c.requires c.section-flow.result.now at in
    let told = told_at (λ (n : Node). n.label) nodes c.loop-node.node c.action.result
    (subst (λ g. option_map (λ (n : Node). n.label) (slice_get g c.loop-node.node) ≡ Some c.action.result) is
    c.action.ensures) in
    sym (any_found (λ (n : Node). is_print n.label) nodes c.loop-node.node told.0 told.1
    (ap is_print told.2 ∙ sym c.is_print.ensures ∙ c.if-is_print.true))

pub loop-node-preserved : goal.loop-node-preserved
loop-node-preserved c =
    let v = c.args.compiled.now in
    let i = c.args.section in
    let nodes = flow_nodes (section_at v i).body in
    let at : slice_get v.scheme.graphs.sections i ≡ Some c.section-flow.result.now =
    rw (c.graph.ensures, c.scheme.ensures) at c.section-flow.ensures in
    let is = flow_is v c.facts.ensures.compiled.scheme i c.requires c.section-flow.result.now at in
    let told = told_at (λ (n : Node). n.label) nodes c.loop-node.node c.action.result
    (subst (λ g. option_map (λ (n : Node). n.label) (slice_get g c.loop-node.node) ≡ Some c.action.result) is
    c.action.ensures) in
    subst (λ j. list_any (λ (n : Node). is_print n.label) (take j nodes) ≡ false) (sym (add-one c.loop-node.node))
    (none_more (λ (n : Node). is_print n.label) nodes c.loop-node.node told.0 told.1 c.loop-node.invariant
    (ap is_print told.2 ∙ sym c.is_print.ensures ∙ c.if-is_print.false))

pub returns : goal.returns
returns c =
    let v = c.args.compiled.now in
    let i = c.args.section in
    let nodes = flow_nodes (section_at v i).body in
    let at : slice_get v.scheme.graphs.sections i ≡ Some c.section-flow.result.now =
    rw (c.graph.ensures, c.scheme.ensures) at c.section-flow.ensures in
    let many = ap length (flow_is v c.facts.ensures.compiled.scheme i c.requires c.section-flow.result.now at) in
    sym (ap (list_any (λ (n : Node). is_print n.label)) (sym (take_all c.loop-node.node nodes
    (omega (arith, many, c.exit-node-end.ensures.number, c.loop-node-test.false)))) ∙ c.loop-node.invariant)
