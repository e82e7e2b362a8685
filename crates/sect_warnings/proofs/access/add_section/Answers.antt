use Rattle.std.proofs.Common.{◌≡◌, Some, None, ◌++◌, length, ap, ◌∙◌, subst, arith, slice_get}
use Rattle.std.proofs.lemmas.Option.{slice_get-get_or}
use Rattle.std.specs.Prelude.{option_map, slice_index_or}
use Rattle.sect_places.specs.declared.origin.Origin.{Origin}
use Rattle.sect_graph.specs.{declared.flow.Node.{Node}, Layout.{flow_nodes}}
use Rattle.sect_emit.specs.Explaining.{section_at}
use Rattle.sect_warnings.specs.Lost.{to_node, found_at}
use Rattle.sect_warnings.proofs.Losing.{access_more}
use Rattle.sect_warnings.proofs.access.add_section.Goals as goal

pub loop-node-preserved : goal.loop-node-preserved
loop-node-preserved c =
    let i = c.args.section in
    let j = c.loop-node.node in
    let origins = c.args.origins.now in
    let nodes = flow_nodes (section_at c.args.compiled.now i).body in
    let many = ap length c.section_flow-flow.ensures in
    let d : Origin = record { item = 0; call = None } in
    let o = slice_index_or origins j d in
    let there = slice_get-get_or origins j d
    (omega (arith, many, c.requires.origins, c.exit-node-end.ensures.number, c.loop-node-test.true)) in
    access_more c.args.effect i nodes origins j c.action.result o c.args.list.now.items c.loop-node.list.items
    c.add_access.new.list.items
    (subst (λ g. option_map (λ (n : Node). n.label) (slice_get g j) ≡ Some c.action.result) c.section_flow-flow.ensures
    c.action.ensures) there c.loop-node.invariant
    (c.in_ok-add_access.ensures
    ∙ ap (λ x. c.loop-node.list.items ++ found_at i j o.item x) c.accessed.ensures)

pub returns : goal.returns
returns c =
    let i = c.args.section in
    let origins = c.args.origins.now in
    let nodes = flow_nodes (section_at c.args.compiled.now i).body in
    let many = ap length c.section_flow-flow.ensures in
    let all : c.loop-node.node ≡ length origins =
    omega (arith, many, c.requires.origins, c.exit-node-end.ensures.number, c.loop-node-test.false) in
    c.loop-node.invariant ∙ ap (λ n. c.args.list.now.items ++ to_node c.args.effect i nodes origins n) all
