use Rattle.std.proofs.Common.{◌≡◌, drop}
use Rattle.sect_table.specs.Contents.{held_by}
use Rattle.sect_emit.specs.Plan.{meets}
use Rattle.sect_world.specs.Waiting.{grips}
use Rattle.sect_world.proofs.outside.meets.Given as goal

abbrev pub invariant-loop-grip : goal.invariant-loop-grip
invariant-loop-grip l =
    meets (grips (held_by l.table l.thread)) l.plan
    ≡ meets (grips (held_by l.table l.thread)) (drop l.grip-index l.plan)
