use Rattle.std.proofs.Common.{◌≡◌, drop}
use Rattle.sect_types.specs.Rules.{all_accept}
use Rattle.sect_types.proofs.rules.scope.Scope.accepts_all.Given as goal

abbrev pub invariant-loop-place : goal.invariant-loop-place
invariant-loop-place l =
    all_accept l.self l.parameters l.operands ≡ all_accept l.self (drop l.place l.parameters) (drop l.place l.operands)
