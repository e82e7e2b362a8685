use Rattle.std.proofs.Common.{◌≡◌, drop}
use Rattle.std.specs.Prelude.{max}
use Rattle.sect_draw.specs.Table.{widest}
use Rattle.sect_draw.specs.steps.CellTexts.{rows_of}
use Rattle.sect_draw.proofs.tables.width_of.Given as goal

abbrev pub invariant-loop-row : goal.invariant-loop-row
invariant-loop-row l =
    max l.width (widest l.column (rows_of (drop l.row-index l.rows))) ≡ widest l.column (rows_of l.rows)
