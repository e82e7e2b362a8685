use Rattle.std.proofs.Common.{map, take}
use Rattle.sect_emit.specs.steps.Inferred.{entries_of, AreFixedParts}
use Rattle.sect_emit.proofs.compiling.all_parts.Given as goal

abbrev pub invariant-loop-locks : goal.invariant-loop-locks
invariant-loop-locks l = AreFixedParts l.scheme (entries_of (take l.locks-index l.all))
    (map (λ v. v.items) l.parts.items)
