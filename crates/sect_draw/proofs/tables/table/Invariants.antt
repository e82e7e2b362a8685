use Rattle.std.proofs.Common.{◌≡◌, ◌++◌, drop}
use Rattle.std.specs.{String.{string_bytes}, List.{flat_map}}
use Rattle.sect_draw.specs.Table.{row_line, table_text}
use Rattle.sect_draw.specs.steps.CellTexts.{rows_of}
use Rattle.sect_draw.proofs.tables.table.Given as goal

abbrev pub invariant-loop-row : goal.invariant-loop-row
invariant-loop-row l =
    string_bytes l.text ++ flat_map (row_line (rows_of l.rows)) (rows_of (drop l.row-index l.rows))
    ≡ table_text (rows_of l.rows)
