use Rattle.std.proofs.Common.{take}
use Rattle.sect_points.specs.steps.Readers.{AreFiled}
use Rattle.sect_points.proofs.readers.file_all.Given as goal

abbrev pub invariant-loop-placed : goal.invariant-loop-placed
invariant-loop-placed l = AreFiled l.locals (take l.placed-index l.all) l.rows.items
