-- The cells of a row from a place on.
use Rattle.std.proofs.Common.{◌≡◌, ℕ, ◌+◌, ◌-◌, ◌<◌, List, [], ◌∷◌, ◌++◌, length, drop, get_or, true, false, refl, ap}
use Rattle.std.proofs.Common.{◌∙◌, append_assoc, Bool}
use Rattle.std.specs.{Prelude.{String, codes, replicate, ◌==◌, ◌&&◌, if◌then◌else◌}, List.{list_all}}
use Rattle.std.specs.{String.{string_bytes}, declared.alloc.Global.{Global}}
use Rattle.sect_lemmas.proofs.Elements.{drop_next}
use Rattle.sect_emit.specs.Explaining.{column}
use Rattle.sect_draw.specs.Table.{widest, cells_text}
use Rattle.sect_draw.specs.steps.CellTexts.{texts}

abbrev pub are_empty : List (String Global) → Bool
are_empty cells = list_all (λ (c : String Global). length (string_bytes c) == 0) cells

-- whether cells are empty shows in their texts
empty_texts : (cells : List (String Global)) → are_empty cells
    ≡ list_all (λ (t : List ℕ). length t == 0) (texts cells)
empty_texts [] = refl
empty_texts (c ∷ cells) = ap (λ b. (length (string_bytes c) == 0) && b) (empty_texts cells)

module _ (rows : List (List (List ℕ))) (row : List (String Global)) (j : ℕ) (cell : String Global)
    (within : j < length row) (is : cell ≡ get_or row j cell) where
  here : cells_text rows j (texts (drop j row)) ≡ cells_text rows j (string_bytes cell ∷ texts (drop (j + 1) row))
  here = ap (λ cs. cells_text rows j (texts cs)) (drop_next row j cell within is)

  -- nothing stands behind the last
  pub last_cell : are_empty (drop (j + 1) row) ≡ true
      → cells_text rows j (texts (drop j row)) ≡ string_bytes cell
  last_cell empty =
      here ∙ ap (λ b. if b then string_bytes cell else column (widest j rows) (string_bytes cell) ++ codes "  "
      ++ cells_text rows (j + 1) (texts (drop (j + 1) row)))
      (let e : list_all (λ (t : List ℕ). length t == 0) (texts (drop (j + 1) row)) ≡ true = cc (
        empty_texts
            (drop (j + 1) row),
        empty,
      ) in e)

  -- behind another stand blanks, and then the rest
  pub next_cell : are_empty (drop (j + 1) row) ≡ false
      → cells_text rows j (texts (drop j row)) ≡ column (widest j rows) (string_bytes cell) ++ codes "  "
      ++ cells_text rows (j + 1) (texts (drop (j + 1) row))
  next_cell filled =
      here ∙ ap (λ b. if b then string_bytes cell else column (widest j rows) (string_bytes cell) ++ codes "  "
      ++ cells_text rows (j + 1) (texts (drop (j + 1) row)))
      (let e : list_all (λ (t : List ℕ). length t == 0) (texts (drop (j + 1) row)) ≡ false = cc (
        empty_texts
            (drop (j + 1) row),
        filled,
      ) in e)

-- a cell is put, with the blanks that belong to its column
pub put_cell : (old cell rest all one two new : List ℕ) (width n : ℕ) → one ≡ old ++ cell → two ≡ one ++ replicate n 32
    → new ≡ two ++ codes "  " → n ≡ width - length cell → old ++ (column width cell ++ codes "  " ++ rest) ≡ all
    → new ++ rest ≡ all
put_cell old cell rest all one two new width n first blanks gap is had =
    let put : new ≡ ((old ++ cell) ++ replicate (width - length cell) 32) ++ codes "  " =
    gap ∙ ap (λ t. t ++ codes "  ")
    (blanks ∙ (ap (λ t. t ++ replicate n 32) first ∙ ap (λ m. (old ++ cell) ++ replicate m 32) is)) in
    let apart : (((old ++ cell) ++ replicate (width - length cell) 32) ++ codes "  ") ++ rest
    ≡ old ++ (column width cell ++ codes "  " ++ rest) = simp append_assoc in
    ap (λ t. t ++ rest) put ∙ (apart ∙ had)
