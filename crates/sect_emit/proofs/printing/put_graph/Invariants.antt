use Rattle.std.proofs.Common.{◌≡◌, ◌++◌, drop}
use Rattle.std.specs.String.{string_bytes}
use Rattle.sect_emit.specs.Listing.{by_number, node_line}
use Rattle.sect_emit.proofs.printing.put_graph.Given as goal

abbrev pub invariant-loop-node : goal.invariant-loop-node
invariant-loop-node l = (let line = node_line l.program.source l.fn.thread l.word in string_bytes l.text
    ++ by_number line l.node (drop l.node l.flow) ≡ string_bytes l.fn.text ++ by_number line 0 l.flow)
