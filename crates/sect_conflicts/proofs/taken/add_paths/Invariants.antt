use Rattle.std.proofs.Common.{take}
use Rattle.sect_conflicts.specs.{Selecting.{Adds}, Taken.{IsPathMet}}
use Rattle.sect_conflicts.proofs.taken.add_paths.Given as goal

abbrev pub invariant-loop-place : goal.invariant-loop-place
invariant-loop-place l =
    Adds (IsPathMet l.others.compiled.now l.others.thread) (take l.place l.locks) l.initial.paths.items l.paths.items
