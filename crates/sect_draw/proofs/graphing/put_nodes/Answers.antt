use Rattle.std.proofs.Common.{◌<◌, length, ap, arith}
use Rattle.sect_draw.specs.Graphs.{node_text}
use Rattle.sect_draw.proofs.Pieces.{piece_more}
use Rattle.sect_draw.proofs.graphing.put_nodes.Goals as goal

pub loop-node-preserved : goal.loop-node-preserved
loop-node-preserved c =
    let d = c.args.of.now in
    let n = c.loop-node.node in
    let as_many = ap length c.section_flow.ensures in
    let within : n < length d.locks.now.at =
    omega (arith, c.loop-node-test.true, c.exit-node-end.ensures.number, as_many, c.requires.needed) in
    record {
      added = piece_more (node_text d.compiled.now d.section d.generated.now) d.locks.now.at n c.loop-node.text.items
          c.put_node.new.text.items _ within c.in_ok-put_node.ensures c.loop-node.invariant.added;
    }
