-- Blocks that were joined are cut at the same places.
use Rattle.std.proofs.Common.{◌≡◌, ◌≤◌, List, [], ◌∷◌, ◌++◌, map, length, drop, refl, sym, ap, subst, ◌∙◌, take_at}
use Rattle.std.proofs.Common.{drop_at, length-append, arith}
use Rattle.std.specs.List.{flat_map}
use Rattle.sect_lemmas.specs.Blocks.{blocks_of, AreEnough}

-- what is joined, cut by the lengths of its blocks, is these blocks
pub cut_gives_back : {A : Type 0} (blocks : List (List A))
    → blocks_of (map length blocks) (flat_map (λ b. b) blocks) ≡ blocks
cut_gives_back [] = refl
cut_gives_back (b ∷ bs) =
    let rest = flat_map (λ c. c) bs in
    ap (λ h. h ∷ blocks_of (map length bs) (drop (length b) (b ++ rest))) (take_at b rest (length b) refl)
    ∙ ap (λ t. b ∷ t) (ap (blocks_of (map length bs)) (drop_at b rest (length b) refl) ∙ cut_gives_back bs)

-- and is long enough for them
pub joined_are_enough : {A : Type 0} (blocks : List (List A))
    → AreEnough (map length blocks) (flat_map (λ b. b) blocks)
joined_are_enough [] = tt
joined_are_enough (b ∷ bs) =
    let rest = flat_map (λ c. c) bs in
    (long b rest, subst (AreEnough (map length bs)) (sym (drop_at b rest (length b) refl)) (joined_are_enough bs))
  where
    long : {A : Type 0} (xs ys : List A) → length xs ≤ length (xs ++ ys)
    long xs ys = subst (λ n. length xs ≤ n) (sym (length-append xs ys)) (omega arith)
