-- The first element that passes a test.
use Rattle.std.proofs.Common.{◌≡◌, ℕ, Bool, true, false, List, [], ◌∷◌, Option, Some, None, refl, sym}
use Rattle.std.proofs.{Common.{ap, ◌∙◌, cond, length, true≢false}, lemmas.Bool.{ltb-false, ltb-true}}
use Rattle.std.proofs.{lemmas.List.Folds.{find_at}, lemmas.Option.{slice_get_past}}
use Rattle.std.specs.{Prelude.{nat_lt, position, slice_get, filter, find, is_some, MatchOption}, List.{position_or_len}}
use Rattle.std.specs.Option.{option_or}
use Rattle.sect_lemmas.proofs.Places.{at_of}

-- what fails isn't found
passed_by : {X : Type 0} (x : X) (b : Bool) → (b ≡ true → false ≡ true) → (rest : Option X)
    → rest ≡ cond b (Some x) rest
passed_by x true fails rest = absurd (true≢false (sym (fails refl)))
passed_by x false fails rest = refl

-- the first that passes a test is the first among those that pass a weaker one
pub find_kept : {X : Type 0} (p q : X → Bool) → ((x : X) → p x ≡ true → q x ≡ true) → (xs : List X)
    → find p (filter q xs) ≡ find p xs
find_kept p q weaker [] = refl
find_kept {X} p q weaker (x ∷ xs) = by (q x) (weaker x) (find_kept p q weaker xs)
  where
    by : (c : Bool) → (p x ≡ true → c ≡ true) → find p (filter q xs) ≡ find p xs
        → find p (cond c (x ∷ filter q xs) (filter q xs)) ≡ cond (p x) (Some x) (find p xs)
    by true passes rest = ap (cond (p x) (Some x)) rest
    by false passes rest = rest ∙ passed_by x (p x) passes (find p xs)

-- the first that passes stands at this place, or none is given and none passes
abbrev pub Finds : {X : Type 0} → (X → Bool) → List X → Option ℕ → Type 0
Finds {X} p xs o = MatchOption o (find p xs ≡ None) (λ i. (x : X) × (find p xs ≡ Some x) × (slice_get xs i ≡ Some x))

pub position_finds : {X : Type 0} (p : X → Bool) (xs : List X) → Finds p xs (position p xs)
position_finds p xs = by (nat_lt (position_or_len p xs) (length xs)) refl
  where
    by : (b : Bool) → nat_lt (position_or_len p xs) (length xs) ≡ b
        → Finds p xs (cond b (Some (position_or_len p xs)) None)
    by true less =
        let here = at_of xs (position_or_len p xs) (ltb-true (position_or_len p xs) (length xs) less) in
        (here.0, find_at p xs ∙ here.1, here.1)
    by false less =
        find_at p xs ∙ slice_get_past xs (position_or_len p xs) (ltb-false (position_or_len p xs) (length xs) less)

-- a place is given where something is found
pub position_there : {X : Type 0} (p : X → Bool) (xs : List X) → is_some (position p xs) ≡ is_some (find p xs)
position_there p xs = by (position p xs) (position_finds p xs)
  where
    by : (o : Option ℕ) → Finds p xs o → is_some o ≡ is_some (find p xs)
    by None e = ap is_some (sym e)
    by (Some i) h = ap is_some (sym h.1)

-- and so of the place of one that passes either of two tests
pub either_there : {X : Type 0} (p q : X → Bool) (xs : List X)
    → is_some (option_or (position p xs) (position q xs)) ≡ is_some (option_or (find p xs) (find q xs))
either_there p q xs = by (position p xs) (position_finds p xs)
  where
    by : (o : Option ℕ) → Finds p xs o
        → is_some (option_or o (position q xs)) ≡ is_some (option_or (find p xs) (find q xs))
    by None e = position_there q xs ∙ ap (λ r. is_some (option_or r (find q xs))) (sym e)
    by (Some i) h = ap (λ r. is_some (option_or r (find q xs))) (sym h.1)
