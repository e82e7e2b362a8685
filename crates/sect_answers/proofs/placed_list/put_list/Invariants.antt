use Rattle.std.proofs.Common.{◌≡◌, ℕ, List, ◌++◌, take}
use Rattle.std.specs.String.{string_bytes}
use Rattle.sect_answers.specs.Placed.{AreListed, shown_of}
use Rattle.sect_answers.proofs.placed_list.put_list.Given as goal

abbrev pub invariant-loop-number : goal.invariant-loop-number
invariant-loop-number l =
    (lines : List ℕ)
    × AreListed l.replayed.compiled.now l.replayed.fuel (shown_of l.replayed) 0
    (take l.number l.outcomes.found) lines
    × (string_bytes l.text ≡ string_bytes l.initial.text ++ lines)
