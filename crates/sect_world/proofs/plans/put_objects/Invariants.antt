use Rattle.std.proofs.Common.{◌≡◌, drop}
use Rattle.sect_emit.specs.Plan.{gathered, object_wishes}
use Rattle.sect_world.proofs.plans.put_objects.Given as goal

abbrev pub invariant-loop-place : goal.invariant-loop-place
invariant-loop-place l = l.objects.items ≡ gathered (object_wishes l.store l.work.locals (drop l.place l.locks))
