use Rattle.std.proofs.Common.{◌≡◌, drop}
use Rattle.sect_emit.specs.Plan.{gathered}
use Rattle.sect_conflicts.specs.steps.Steady.{global_wishes}
use Rattle.sect_conflicts.proofs.always.globals_of.Given as goal

abbrev pub invariant-loop-place : goal.invariant-loop-place
invariant-loop-place l = l.globals.items ≡ gathered (global_wishes (drop l.place l.locks))
