-- The texts of cells, row by row. `table` cites it.
use Rattle.std.specs.{Prelude.{◌≡◌, ◌<◌, ℕ, List, String, Vec, length, map, slice_index_or}, String.{string_bytes}}
use Rattle.std.specs.declared.alloc.Global.{Global}
use Rattle.sect_lemmas.specs.Lists.{Has}
use Rattle.sect_draw.specs.Table.{widest}

abbrev pub texts : List (String Global) → List (List ℕ)
texts cells = map string_bytes cells

abbrev pub rows_of : List (Vec (String Global) Global) → List (List (List ℕ))
rows_of rows = map (λ (row : Vec (String Global) Global). texts row.items) rows

-- each row has so many cells
abbrev pub HaveCells : ℕ → List (Vec (String Global) Global) → Type 0
HaveCells columns rows = (row : Vec (String Global) Global) → Has rows row → length row.items ≡ columns

-- the columns of the rows have these widths, as far as they go
abbrev pub HaveWidths : List (List (List ℕ)) → List ℕ → Type 0
HaveWidths rows widths = (j : ℕ) → j < length widths → slice_index_or widths j 0 ≡ widest j rows
