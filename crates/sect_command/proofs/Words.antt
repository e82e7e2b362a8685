-- Words of a command line, one after another.
use Rattle.std.proofs.Common.{◌≡◌, ◌∙◌, ℕ, ◌+◌, ◌<◌, List, [], ◌∷◌, ◌++◌, length, take, map, get_or, sym, ap, subst}
use Rattle.std.proofs.{lemmas.List.{map-append, take_more, append_assoc}, lemmas.Slice.Zip.{all_zipped_more}}
use Rattle.std.specs.List.{AllZip}

-- one word more
pub words_more : {X Y : Type 0} (R : List ℕ → Y → Type 0) (f : X → List ℕ) (xs : List X) (i : ℕ) (d : X) (ts : List Y)
    (t : Y) → i < length xs → AllZip R (map f (take i xs)) ts → R (f (get_or xs i d)) t
    → AllZip R (map f (take (i + 1) xs)) (ts ++ t ∷ [])
words_more R f xs i d ts t within before here =
    let next : map f (take (i + 1) xs) ≡ map f (take i xs) ++ f (get_or xs i d) ∷ [] =
    ap (map f) (take_more xs i d within)
    ∙ map-append f (take i xs) (get_or xs i d ∷ []) in
    subst (λ ws. AllZip R ws (ts ++ t ∷ [])) (sym next)
    (all_zipped_more R (map f (take i xs)) ts (f (get_or xs i d)) t before here)

-- one word more behind others
pub words_more_behind : {X Y : Type 0} (R : List ℕ → Y → Type 0) (f : X → List ℕ) (first : List (List ℕ)) (xs : List X)
    (i : ℕ) (d : X) (ts : List Y) (t : Y) → i < length xs → AllZip R (first ++ map f (take i xs)) ts
    → R (f (get_or xs i d)) t → AllZip R (first ++ map f (take (i + 1) xs)) (ts ++ t ∷ [])
words_more_behind R f first xs i d ts t within before here =
    let next : first ++ map f (take (i + 1) xs) ≡ (first ++ map f (take i xs)) ++ f (get_or xs i d) ∷ [] =
    ap (λ ws. first ++ map f ws) (take_more xs i d within)
    ∙ ap (λ ws. first ++ ws) (map-append f (take i xs) (get_or xs i d ∷ []))
    ∙ sym (append_assoc first (map f (take i xs)) (f (get_or xs i d) ∷ [])) in
    subst (λ ws. AllZip R ws (ts ++ t ∷ [])) (sym next)
    (all_zipped_more R (first ++ map f (take i xs)) ts (f (get_or xs i d)) t before here)
