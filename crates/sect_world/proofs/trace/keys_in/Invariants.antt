-- What the loop keeps.
use Rattle.std.proofs.Common.{◌≡◌, ◌+◌, ◌≤◌, drop}
use Rattle.sect_world.specs.steps.Tracing.{count_in}
use Rattle.sect_world.proofs.trace.keys_in.Given as goal

abbrev pub invariant-loop-note : goal.invariant-loop-note
invariant-loop-note l =
    (l.count + count_in (drop l.note-index l.notes) ≡ count_in l.notes) × (l.count ≤ l.note-index)
