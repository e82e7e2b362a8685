use Rattle.std.proofs.Common.{take, []}
use Rattle.sect_conflicts.specs.{Selecting.{Adds}, Taken.{IsKeyMet}}
use Rattle.sect_conflicts.proofs.taken.taken_part.Given as goal

abbrev pub invariant-loop-grip : goal.invariant-loop-grip
invariant-loop-grip l =
    Adds (IsKeyMet l.others.compiled.now l.others.thread) (take l.grip-index l.keys) [] l.part.items
