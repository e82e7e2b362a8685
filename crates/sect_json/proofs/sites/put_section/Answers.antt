use Rattle.std.proofs.Common.{◌≡◌, ◌++◌, length, map, ap, ◌∙◌, arith}
use Rattle.std.specs.List.{flat_map, range_with_len}
use Rattle.serde_json.specs.View.{view}
use Rattle.sect_emit.specs.Graphed.{graphed_nodes}
use Rattle.sect_json.specs.Sites.{sites_at}
use Rattle.sect_json.proofs.Rows.{lists_more}
use Rattle.sect_emit.specs.declared.graphs.GraphOf.TheVariants as graphed
use Rattle.sect_json.proofs.sites.put_section.Goals as goal

pub loop-node-preserved : goal.loop-node-preserved
loop-node-preserved c =
    let of = c.args.of.now in
    lists_more (sites_at of.compiled.now of.source.now of.spans.now.sections c.args.section) c.loop-node.node
    (map view c.args.values.now.items) (map view c.loop-node.values.items) (map view c.put_node.new.values.items)
    c.loop-node.invariant c.in_ok-put_node.ensures

pub returns : goal.returns
returns c =
    let of = c.args.of.now in
    let i = c.args.section in
    let many = c.exit-node-end.ensures.number ∙ ap length c.graphed_flow.ensures in
    let all : c.loop-node.node ≡ length (graphed_nodes of.compiled.now (graphed.Section i)) =
    omega (arith, c.loop-node-test.false, c.loop-node.auto.node-end, many) in
    c.loop-node.invariant ∙ ap (λ n. map view c.args.values.now.items
    ++ flat_map (sites_at of.compiled.now of.source.now of.spans.now.sections i) (range_with_len 0 n)) all
