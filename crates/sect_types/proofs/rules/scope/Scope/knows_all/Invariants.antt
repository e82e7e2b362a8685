use Rattle.std.proofs.Common.{◌≡◌, drop}
use Rattle.sect_types.specs.Rules.{knows_operands}
use Rattle.sect_types.proofs.rules.scope.Scope.knows_all.Given as goal

abbrev pub invariant-loop-operand : goal.invariant-loop-operand
invariant-loop-operand l =
    knows_operands l.self l.operands ≡ knows_operands l.self (drop l.operand-index l.operands)
