-- Cells in columns. `table` cites it.
use Rattle.std.specs.Prelude.{ℕ, ◌+◌, List, [], ◌∷◌, ◌++◌, length, max, codes, slice_index_or, ◌==◌, if◌then◌else◌}
use Rattle.std.specs.List.{flat_map, list_all}
use Rattle.sect_emit.specs.Explaining.{column}

-- the width of column j: that of its widest cell
abbrev pub widest : ℕ → List (List (List ℕ)) → ℕ
widest j [] = 0
widest j (row ∷ rows) = max (length (slice_index_or row j [])) (widest j rows)

-- the cells of a row from column j on, two blanks between columns; nothing stands behind the last that isn't empty
abbrev pub cells_text : List (List (List ℕ)) → ℕ → List (List ℕ) → List ℕ
cells_text rows j [] = []
cells_text rows j (cell ∷ cells) =
    if list_all (λ c. length c == 0) cells then cell else
    column (widest j rows) cell ++ codes "  " ++ cells_text rows (j + 1) cells

abbrev pub row_line : List (List (List ℕ)) → List (List ℕ) → List ℕ
row_line rows row = cells_text rows 0 row ++ codes "\n"

-- a line for each row
abbrev pub table_text : List (List (List ℕ)) → List ℕ
table_text rows = flat_map (row_line rows) rows
