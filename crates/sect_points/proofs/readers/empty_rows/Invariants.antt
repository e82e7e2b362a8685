use Rattle.sect_points.specs.steps.Readers.{AreNoRows}
use Rattle.sect_points.proofs.readers.empty_rows.Given as goal

abbrev pub invariant-loop-count : goal.invariant-loop-count
invariant-loop-count l = AreNoRows l.count l.rows.items
