use Rattle.std.proofs.Common.{◌≡◌, vec_len}
use Rattle.sect_draw.specs.steps.CellTexts.{rows_of, HaveWidths}
use Rattle.sect_draw.proofs.tables.widths_of.Given as goal

abbrev pub invariant-loop-column : goal.invariant-loop-column
invariant-loop-column l = record {
  widths : HaveWidths (rows_of l.rows) l.widths.items;
  count : vec_len l.widths ≡ l.column;
}
