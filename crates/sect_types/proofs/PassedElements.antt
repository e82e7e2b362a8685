-- One element more of a list has been passed, whatever its elements are.
use Rattle.std.proofs.Common.{◌≡◌, ◌≤◌, ℕ, List, [], ◌∷◌, ◌++◌, Bool, true, ◌&&◌, length, drop, sym, ap, ◌∙◌, subst}
use Rattle.std.proofs.{Common.{append_assoc}, lemmas.List.{drop_all}}
use Rattle.sect_types.specs.{Items.{Item}, Rules.{Declared, Counts}}
use Rattle.sect_types.specs.steps.Judging.{judge}

-- its items have been judged, and those of the rest are left
pub judged_on : {X : Type 0} (d : Declared) (items : List (List ℕ) → List X → List Item → List Item)
    (whole : List Item → List Item) (x : X) (rest left : List X) (names more new : List (List ℕ))
    (old now then : Counts)
    → ((w : List Item) → judge d old (whole w) ≡ judge d now (items names left w))
    → ((w : List Item) → judge d now (items names (x ∷ rest) w) ≡ judge d then (items more rest w))
    → left ≡ x ∷ rest → new ≡ more
    → (w : List Item) → judge d old (whole w) ≡ judge d then (items new rest w)
judged_on d items whole x rest left names more new old now then so_far step at named w =
    so_far w
    ∙ (ap (λ l. judge d now (items names l w)) at
    ∙ (step w ∙ ap (λ n. judge d then (items n rest w)) (sym named)))

-- what it adds stands behind what those before it add
pub joined_on : {X Y : Type 0} (added : List X → List Y) (x : X) (rest left all : List X) (y : Y) (ys new : List Y)
    → new ≡ ys ++ y ∷ [] → y ∷ added rest ≡ added (x ∷ rest) → left ≡ x ∷ rest → ys ++ added left ≡ added all
    → new ++ added rest ≡ added all
joined_on added x rest left all y ys new more is at so_far =
    ap (λ n. n ++ added rest) more
    ∙ (append_assoc ys (y ∷ []) (added rest)
    ∙ (ap (λ l. ys ++ l) is ∙ (ap (λ l. ys ++ added l) (sym at) ∙ so_far)))

-- what holds of it need be tested of the rest alone
pub tested_on : {X : Type 0} (test : List X → Bool) (x : X) (rest left all : List X) (b : Bool)
    → test (x ∷ rest) ≡ (b && test rest) → b ≡ true → left ≡ x ∷ rest → test all ≡ test left
    → test all ≡ test rest
tested_on test x rest left all b is holds at so_far = so_far ∙ (ap test at ∙ (is ∙ ap (λ c. c && test rest) holds))

-- none is left
pub none_left : {X : Type 0} (P : List X → Type 0) (xs : List X) (i : ℕ) → length xs ≤ i → P (drop i xs) → P []
none_left P xs i h = subst P (drop_all i xs h)
