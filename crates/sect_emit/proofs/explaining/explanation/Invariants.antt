use Rattle.std.proofs.Common.{map}
use Rattle.std.specs.String.{string_bytes}
use Rattle.sect_emit.specs.Explaining.{IsExplained}
use Rattle.sect_emit.proofs.explaining.explanation.Given as goal

abbrev pub invariant-loop-section : goal.invariant-loop-section
invariant-loop-section l = IsExplained l.compiled (map (λ v. v.items) l.lines) l.section (string_bytes l.text)
