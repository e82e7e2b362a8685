-- A text that spells a tree has the names of the tree.
use Rattle.std.proofs.{Common.{◌≡◌, ℕ, List, [], ◌∷◌, length, map, refl, ap, arith}, lemmas.List.{length-map}}
use Rattle.sect_front.specs.{TreeView.{TreeView}, Front.{IsSpelled}, FaultPlaces.{token_span}}
use Rattle.sect_front.specs.declared.span.Span.{Span}
use Rattle.sect_places.specs.{declared.name_use.NameUse.{NameUse}, declared.name_use.NameSpan.{NameSpan}}
use Rattle.sect_places.specs.{NameUses.{name_uses}, NameSpans.{names_among, AreNameSpans}}
use Rattle.sect_places.proofs.NameTokens.{as_many_names, are_name_spans}

-- of each what it does and its bytes
abbrev pub joined : List NameUse → List Span → List NameSpan
joined [] ss = []
joined (u ∷ us) [] = []
joined (u ∷ us) (s ∷ ss) = record { used = u; span = s } ∷ joined us ss

pub joined_used : (us : List NameUse) (ss : List Span) → length us ≡ length ss
    → map (λ (n : NameSpan). n.used) (joined us ss) ≡ us
joined_used [] ss e = refl
joined_used (u ∷ us) [] e = absurd (omega (arith, e))
joined_used (u ∷ us) (s ∷ ss) e = ap (λ l. u ∷ l) (joined_used us ss (omega (arith, e)))

pub joined_spans : (us : List NameUse) (ss : List Span) → length us ≡ length ss
    → map (λ (n : NameSpan). n.span) (joined us ss) ≡ ss
joined_spans [] [] e = refl
joined_spans [] (s ∷ ss) e = absurd (omega (arith, e))
joined_spans (u ∷ us) [] e = absurd (omega (arith, e))
joined_spans (u ∷ us) (s ∷ ss) e = ap (λ l. s ∷ l) (joined_spans us ss (omega (arith, e)))

pub all_names : (bytes : List ℕ) (tree : TreeView) → IsSpelled bytes tree
    → (names : List NameSpan) × AreNameSpans bytes tree names
all_names bytes tree s =
    let us : List NameUse = name_uses tree in
    let ss : List Span = map token_span (names_among s.places) in
    let count : length us ≡ length ss =
    omega (arith, as_many_names bytes tree s, length-map (names_among s.places) token_span) in
    (joined us ss, are_name_spans bytes tree s (joined us ss) (joined_used us ss count) (joined_spans us ss count))
