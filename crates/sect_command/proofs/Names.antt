-- The names of the texts of which a request is asked.
use Rattle.std.proofs.Common.{◌≡◌, ◌∙◌, ℕ, ◌+◌, ◌<◌, List, [], ◌∷◌, length, drop, map, get_or, refl, ap, sym}
use Rattle.std.proofs.lemmas.List.{drop_more}
use Rattle.sect_command.specs.Reporting.{or_input}

-- where there are names, they are the texts'
pub or_input_is : (names : List (List ℕ)) → (names ≡ [] → ⊥) → or_input names ≡ names
or_input_is [] some = absurd (some refl)
or_input_is (name ∷ names) some = refl

-- the first of the names that are left
pub names_left : {X : Type 0} (f : X → List ℕ) (xs : List X) (i : ℕ) (x : X) → i < length xs → x ≡ get_or xs i x
    → map f (drop i xs) ≡ f x ∷ map f (drop (i + 1) xs)
names_left f xs i x within is =
    ap (map f) (drop_more xs i x within) ∙ ap (λ y. f y ∷ map f (drop (i + 1) xs)) (sym is)

-- names that stand for nothing are none
pub none_named : {X : Type 0} (f : X → List ℕ) (xs : List X) → map f xs ≡ [] → xs ≡ []
none_named f [] e = refl
none_named f (x ∷ xs) e = absurd cc
