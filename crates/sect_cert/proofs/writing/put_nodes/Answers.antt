use Rattle.std.proofs.Common.{arith, ◌∙◌}
use Rattle.sect_cert.proofs.WriteLaws.{next_node_written}
use Rattle.sect_cert.proofs.writing.put_nodes.Goals as goal

pub loop-node-preserved : goal.loop-node-preserved
loop-node-preserved c = record {
  written =
      next_node_written c.args.nodes.now c.loop-node.node c.loop-node.out.items c.next_list.new.text.items
      c.put_node.new.out.items _ (omega (arith, c.len-node-end.ensures, c.loop-node-test.true))
      c.loop-node.invariant.written (λ locks e. c.in_ok-put_node.ensures locks (c.as_slice.ensures.value ∙ e))
      c.in_ok-next_list.ensures;
  list = c.in_ok-next_list.ensures;
}
