use Rattle.std.proofs.Common.{take}
use Rattle.std.specs.List.{AllZip}
use Rattle.sect_check.specs.Names.{Denotes}
use Rattle.sect_check.proofs.claiming.lists_of.Given as goal

abbrev pub invariant-loop-node : goal.invariant-loop-node
invariant-loop-node l = AllZip (AllZip (Denotes l.naming.scheme l.naming.thread)) (take l.node l.nodes) l.lists
