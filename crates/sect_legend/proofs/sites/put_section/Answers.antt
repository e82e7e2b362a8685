use Rattle.std.proofs.Common.{◌≡◌, ◌++◌, length, map, ap, ◌∙◌, arith}
use Rattle.std.specs.{List.{flat_map, range_with_len}, String.{string_bytes}}
use Rattle.sect_emit.specs.Graphed.{graphed_nodes}
use Rattle.sect_legend.specs.Legend.{mark_of, sites_at}
use Rattle.sect_legend.proofs.shared.Numbers.{more_given}
use Rattle.sect_emit.specs.declared.graphs.GraphOf.TheVariants as graphed
use Rattle.sect_legend.proofs.sites.put_section.Goals as goal

pub loop-node-preserved : goal.loop-node-preserved
loop-node-preserved c =
    let of = c.args.places.now in
    more_given (sites_at of.compiled.now (mark_of of) of.source.now of.spans.now.sections c.args.section)
    c.loop-node.node (map string_bytes c.args.names.now.items) (map string_bytes c.loop-node.names.items)
    (map string_bytes c.put_node.new.names.items) c.loop-node.invariant c.in_ok-put_node.ensures

pub returns : goal.returns
returns c =
    let of = c.args.places.now in
    let i = c.args.section in
    let many = c.exit-node-end.ensures.number ∙ ap length c.graphed_flow.ensures in
    let all : c.loop-node.node ≡ length (graphed_nodes of.compiled.now (graphed.Section i)) =
    omega (arith, c.loop-node-test.false, c.loop-node.auto.node-end, many) in
    c.loop-node.invariant ∙ ap (λ n. map string_bytes c.args.names.now.items
    ++ flat_map (sites_at of.compiled.now (mark_of of) of.source.now of.spans.now.sections i) (range_with_len 0 n)) all
