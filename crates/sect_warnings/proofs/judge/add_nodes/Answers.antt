use Rattle.std.proofs.{Common.{◌≡◌, Some, None, length, ap, subst, arith, slice_get}, lemmas.Option.{slice_get-get_or}}
use Rattle.std.specs.Prelude.{option_map}
use Rattle.sect_graph.specs.{declared.flow.Node.{Node}, Layout.{flow_nodes}}
use Rattle.sect_emit.specs.Explaining.{section_at}
use Rattle.sect_conflicts.specs.Selecting.{Adds}
use Rattle.sect_warnings.specs.Warnings.{IsDue, to_node}
use Rattle.sect_warnings.proofs.Judging.{flow_is, next_node}
use Rattle.sect_warnings.proofs.judge.add_nodes.Goals as goal

pub bounds-origins-node : goal.bounds-origins-node
bounds-origins-node c =
    let v = c.args.compiled.now in
    let at : slice_get v.scheme.graphs.sections c.args.section ≡ Some c.section-flow.result.now =
    rw (c.graph.ensures, c.scheme.ensures) at c.section-flow.ensures in
    let is = flow_is v c.facts.ensures.compiled.scheme c.args.section c.requires.section c.section-flow.result.now at in
    let many = ap length is in
    omega (arith, many, c.requires.origins, c.exit-node-end.ensures.number, c.loop-node-test.true)

pub loop-node-preserved : goal.loop-node-preserved
loop-node-preserved c =
    let v = c.args.compiled.now in
    let i = c.args.section in
    let node = c.loop-node.node in
    let origins = c.args.origins.now in
    let nodes = flow_nodes (section_at v i).body in
    let at : slice_get v.scheme.graphs.sections i ≡ Some c.section-flow.result.now =
    rw (c.graph.ensures, c.scheme.ensures) at c.section-flow.ensures in
    let is = flow_is v c.facts.ensures.compiled.scheme i c.requires.section c.section-flow.result.now at in
    let many = ap length is in
    let there = slice_get-get_or origins node (record { item = 0; call = None })
    (omega (arith, many, c.requires.origins, c.exit-node-end.ensures.number, c.loop-node-test.true)) in
    next_node v i nodes origins node c.action.result _ c.args.found.now.items c.loop-node.found.items
    c.add_node.new.found.items
    (subst (λ g. option_map (λ (n : Node). n.label) (slice_get g node) ≡ Some c.action.result) is c.action.ensures)
    there c.loop-node.invariant c.in_ok-add_node.ensures

pub returns : goal.returns
returns c =
    let v = c.args.compiled.now in
    let i = c.args.section in
    let at : slice_get v.scheme.graphs.sections i ≡ Some c.section-flow.result.now =
    rw (c.graph.ensures, c.scheme.ensures) at c.section-flow.ensures in
    let many = ap length
    (flow_is v c.facts.ensures.compiled.scheme i c.requires.section c.section-flow.result.now at) in
    let all : c.loop-node.node ≡ length c.args.origins.now =
    omega (arith, many, c.requires.origins, c.exit-node-end.ensures.number, c.loop-node-test.false) in
    subst (λ n. Adds (IsDue v) (to_node i (flow_nodes (section_at v i).body) c.args.origins.now n)
    c.args.found.now.items c.loop-node.found.items) all c.loop-node.invariant
