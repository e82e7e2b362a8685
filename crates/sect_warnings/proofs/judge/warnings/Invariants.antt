use Rattle.std.proofs.Common.{[]}
use Rattle.sect_conflicts.specs.Selecting.{Adds}
use Rattle.sect_warnings.specs.Warnings.{IsDue, to_section}
use Rattle.sect_warnings.proofs.judge.warnings.Given as goal

abbrev pub invariant-loop-section : goal.invariant-loop-section
invariant-loop-section l = Adds (IsDue l.compiled) (to_section l.compiled l.section) [] l.found.items
