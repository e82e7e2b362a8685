-- What the loop keeps.
use Rattle.std.proofs.Common.{◌≡◌, ◌+◌, ◌-◌, ◌≤◌, ◌++◌, drop, length, vec_len, vec_capacity}
use Rattle.sect_world.specs.steps.Tracing.{count_in, events_of}
use Rattle.sect_world.proofs.trace.events_from.Given as goal

abbrev pub invariant-loop-note : goal.invariant-loop-note
invariant-loop-note l =
    (l.events.items ++ events_of (drop l.note-index l.notes) (drop l.next l.taken) ≡ events_of l.notes l.taken)
    × (count_in (drop l.note-index l.notes) + l.next ≡ length l.taken)
    × (vec_len l.events + (length l.notes - l.note-index) ≤ vec_capacity l.events)
