use Rattle.std.proofs.Common.{◌≡◌}
use Rattle.sect_warnings.specs.Lost.{to_section}
use Rattle.sect_warnings.proofs.access.accesses.Given as goal

abbrev pub invariant-loop-section : goal.invariant-loop-section
invariant-loop-section l = l.list.items ≡ to_section l.effect l.compiled l.section
