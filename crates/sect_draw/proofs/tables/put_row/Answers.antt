use Rattle.std.proofs.Common.{◌≡◌, ◌+◌, ◌++◌, ◌-◌, ◌<◌, length, drop, sym, ap, ◌∙◌, arith}
use Rattle.std.proofs.lemmas.List.{take_rest}
use Rattle.std.specs.String.{string_bytes}
use Rattle.sect_draw.specs.Table.{widest, cells_text}
use Rattle.sect_draw.specs.steps.CellTexts.{texts}
use Rattle.sect_draw.proofs.RowCells.{are_empty, last_cell, next_cell, put_cell}
use Rattle.sect_draw.proofs.tables.put_row.Goals as goal

pub returns-then-are_empty : goal.returns-then-are_empty
returns-then-are_empty c = λ rows widths.
    let row = c.args.row.now in
    let j = c.loop-column.column in
    let cell = c.index-row-column.result in
    let old = string_bytes c.loop-column.text in
    c.in_ok-push_str.ensures.bytes
    ∙ (ap (λ t. old ++ t) (c.as_str.ensures.value
    ∙ sym (last_cell rows row j cell c.loop-column-test.true c.index-row-column.is
    (ap are_empty (sym (take_rest row (j + 1))) ∙ (sym c.are_empty.ensures ∙ c.if-are_empty.true))))
    ∙ c.loop-column.invariant.added rows widths)

pub loop-column-preserved : goal.loop-column-preserved
loop-column-preserved c =
    record {
      added = λ rows widths.
          let row = c.args.row.now in
          let j = c.loop-column.column in
          let cell = c.index-row-column.result in
          let old = string_bytes c.loop-column.text in
          let wide : c.len.result ≡ length (string_bytes cell) = omega (arith, c.len.ensures, cell.bytes.ok) in
          let within : j < length c.args.widths.now = omega (arith, c.loop-column-test.true, c.requires.count) in
          put_cell old (string_bytes cell) (cells_text rows (j + 1) (texts (drop (j + 1) row))) _
          (string_bytes c.push_str.new.self) (string_bytes c.put_blanks.new.text)
          (string_bytes c.push_str-in-loop-column.new.self) _ c.saturating_sub.result
          (c.in_ok-push_str.ensures.bytes ∙ ap (λ t. old ++ t) c.as_str.ensures.value) c.in_ok-put_blanks.ensures
          c.in_ok-push_str-2.ensures.bytes
          (c.saturating_sub.ensures ∙ (ap (λ w. w - c.len.result) (widths j within)
          ∙ ap (λ n. widest j rows - n) wide))
          (ap (λ t. old ++ t)
          (sym (next_cell rows row j cell c.loop-column-test.true c.index-row-column.is
          (ap are_empty (sym (take_rest row (j + 1))) ∙ (sym c.are_empty.ensures ∙ c.if-are_empty.false))))
          ∙ c.loop-column.invariant.added rows widths);
    }
