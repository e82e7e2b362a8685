use Rattle.std.proofs.Common.{◌≡◌, ◌++◌, List, ℕ, drop}
use Rattle.std.specs.String.{string_bytes}
use Rattle.sect_draw.specs.Table.{cells_text}
use Rattle.sect_draw.specs.steps.CellTexts.{texts, HaveWidths}
use Rattle.sect_draw.proofs.tables.put_row.Given as goal

abbrev pub invariant-loop-column : goal.invariant-loop-column
invariant-loop-column l = record {
  added : (rows : List (List (List ℕ))) → HaveWidths rows l.widths
      → string_bytes l.text ++ cells_text rows l.column (texts (drop l.column l.row))
      ≡ string_bytes l.fn.text ++ cells_text rows 0 (texts l.row);
}
