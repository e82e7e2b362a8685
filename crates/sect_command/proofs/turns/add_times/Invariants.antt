use Rattle.std.proofs.Common.{◌≡◌, ◌++◌, ◌-◌}
use Rattle.std.specs.Prelude.{replicate}
use Rattle.sect_command.proofs.turns.add_times.Given as goal

abbrev pub invariant-loop-turn : goal.invariant-loop-turn
invariant-loop-turn l =
    l.turns.items ++ replicate (l.count - l._turn) l.thread ≡ l.fn.turns.items ++ replicate l.count l.thread
