use Rattle.std.proofs.Common.{◌≡◌, take}
use Rattle.sect_points.specs.Paths.{path_of, base_of}
use Rattle.sect_emit.specs.Plan.{path_datum as denoted}
use Rattle.sect_world.proofs.lookup.path_datum.Given as goal

abbrev pub invariant-loop-field : goal.invariant-loop-field
invariant-loop-field l = l.datum ≡ denoted l.store l.work.locals
    (path_of (base_of l.path) (take l.field-index l.field-items))
