use Rattle.std.proofs.Common.{◌≡◌, take, false}
use Rattle.std.specs.List.{list_any}
use Rattle.sect_lint.specs.Idle.{node_touches}
use Rattle.sect_lint.proofs.idle.is_touched_in.Given as goal

abbrev pub invariant-loop-node : goal.invariant-loop-node
invariant-loop-node l = list_any (node_touches l.of) (take l.node l.flow) ≡ false
