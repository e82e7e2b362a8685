-- A cell for each thread.
use Rattle.std.proofs.Common.{◌≡◌, ℕ, ◌+◌, ◌<◌, List, [], ◌∷◌, ◌++◌, length, drop, sym, ap, ◌∙◌, append_assoc}
use Rattle.std.proofs.{lemmas.List.{map-append}, lemmas.Option.{get_or_from_slice_get}}
use Rattle.std.specs.{Prelude.{String}, String.{string_bytes}, declared.alloc.Global.{Global}}
use Rattle.sect_lemmas.proofs.{Elements.{drop_next}, Places.{at_of}}
use Rattle.sect_types.specs.Statements.{TextView}
use Rattle.sect_draw.specs.Chart.{by_thread}
use Rattle.sect_draw.specs.steps.CellTexts.{texts}

-- one cell more
pub cell_more : (cell : ℕ → List ℕ) (threads : List TextView) (u : ℕ) (cells more : List (String Global))
    (x : String Global) (all : List (List ℕ)) → u < length threads → more ≡ cells ++ x ∷ [] → string_bytes x ≡ cell u
    → texts cells ++ by_thread cell u (drop u threads) ≡ all
    → texts more ++ by_thread cell (u + 1) (drop (u + 1) threads) ≡ all
cell_more cell threads u cells more x all within pushed is had =
    let here = at_of threads u within in
    let rest = by_thread cell (u + 1) (drop (u + 1) threads) in
    let next : by_thread cell u (drop u threads) ≡ cell u ∷ rest = ap (by_thread cell u)
    (drop_next threads u here.0 within (sym (get_or_from_slice_get threads u here.0 here.0 here.1))) in
    let put : texts more ≡ texts cells ++ cell u ∷ [] = ap texts pushed
    ∙ (map-append string_bytes cells (x ∷ []) ∙ ap (λ t. texts cells ++ t ∷ []) is) in
    ap (λ ts. ts ++ rest) put
    ∙ (append_assoc (texts cells) (cell u ∷ []) rest ∙ (ap (λ ts. texts cells ++ ts) (sym next) ∙ had))
