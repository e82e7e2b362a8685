use Rattle.std.proofs.Common.{◌≡◌, drop}
use Rattle.sect_table.specs.Contents.{held_by}
use Rattle.sect_emit.specs.Plan.{meets, object_wishes}
use Rattle.sect_world.specs.Waiting.{grips}
use Rattle.sect_world.proofs.outside.has_objects.Given as goal

abbrev pub invariant-loop-lock : goal.invariant-loop-lock
invariant-loop-lock l =
    meets (grips (held_by l.table l.thread)) (object_wishes l.store l.work.locals l.locks)
    ≡ meets (grips (held_by l.table l.thread)) (object_wishes l.store l.work.locals (drop l.lock-index l.locks))
