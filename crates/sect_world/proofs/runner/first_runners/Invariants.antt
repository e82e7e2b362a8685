-- What the loop keeps.
use Rattle.std.proofs.Common.{◌≡◌, length}
use Rattle.sect_emit.specs.Compiled.{program_of}
use Rattle.sect_world.specs.Viewing.{AreFirst}
use Rattle.sect_world.proofs.runner.first_runners.Given as goal

abbrev pub invariant-loop-thread : goal.invariant-loop-thread
invariant-loop-thread l =
    (length l.all.items ≡ l.thread) × (l.thread-end ≡ length (program_of l.compiled).texts)
    × AreFirst l.compiled l.fuel l.all.items
