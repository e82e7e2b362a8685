use Rattle.std.proofs.Common.{drop}
use Rattle.sect_emit.specs.Plan.{IsFixedPart}
use Rattle.sect_emit.proofs.fixed.fixed_part.Given as goal

abbrev pub invariant-loop-place : goal.invariant-loop-place
invariant-loop-place l = IsFixedPart l.scheme (drop l.place l.locks) l.part.items
