use Rattle.std.proofs.Common.{◌≡◌, ◌++◌, drop}
use Rattle.std.specs.String.{string_bytes}
use Rattle.sect_emit.specs.Listing.{by_number}
use Rattle.sect_c.specs.Statements.{node_c}
use Rattle.sect_c.proofs.statements.put_nodes.Given as goal

abbrev pub invariant-loop-node : goal.invariant-loop-node
invariant-loop-node l = (let line = node_c l.context.program.now l.context.looked.now l.standing in string_bytes l.text
    ++ by_number line l.node (drop l.node l.flow) ≡ string_bytes l.fn.text ++ by_number line 0 l.flow)
