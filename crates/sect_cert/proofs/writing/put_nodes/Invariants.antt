use Rattle.std.proofs.Common.{◌≡◌, ◌++◌, drop}
use Rattle.sect_cert.specs.steps.Writes.{nodes_text, IsListBefore}
use Rattle.sect_cert.proofs.writing.put_nodes.Given as goal

abbrev pub invariant-loop-node : goal.invariant-loop-node
invariant-loop-node l = record {
  written : l.out.items ++ nodes_text l.node (drop l.node l.nodes) ≡ l.fn.out.items ++ nodes_text 0 l.nodes;
  list : IsListBefore l.nodes l.node l.list.items;
}
