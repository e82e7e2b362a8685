-- The greatest number that is told above a lock.
use Rattle.std.proofs.Common.{◌≡◌, ℕ, zero, suc, List, [], ◌∷◌, ◌++◌, Bool, true, false, not, Option, set, refl}
use Rattle.std.proofs.Common.{sym, ap, ◌∙◌, inl, inr}
use Rattle.std.specs.{Prelude.{cond, ◌||◌}, List.{list_any}}
use Rattle.sect_lemmas.specs.Lists.{Has}
use Rattle.sect_infer.specs.{Numbers.{has_number}, Numberings.{is_under, fresh_from}}
use Rattle.sect_infer.specs.steps.Putting.{IsWithin, AreWithin}
use Rattle.sect_infer.proofs.shared.Apart.{number_tells}

-- with the numbers of one more
pub within_behind : (k : Option ℕ) (above : List (List ℕ)) (ns : List ℕ) → AreWithin k above
    → ((n : ℕ) → Has ns n → IsWithin k n) → AreWithin k (above ++ ns ∷ [])
within_behind k [] ns is new zero n h = new n h
within_behind k [] ns is new (suc m) n h = absurd h
within_behind k (a ∷ above) ns is new zero n h = is zero n h
within_behind k (a ∷ above) ns is new (suc m) n h = within_behind k above ns (λ i. is (suc i)) new m n h

-- with other numbers of one
pub within_set : (k : Option ℕ) (above : List (List ℕ)) (i : ℕ) (ns : List ℕ) → AreWithin k above
    → ((n : ℕ) → Has ns n → IsWithin k n) → AreWithin k (set above i ns)
within_set k [] i ns is new m n h = is m n h
within_set k (a ∷ above) zero ns is new zero n h = new n h
within_set k (a ∷ above) zero ns is new (suc m) n h = is (suc m) n h
within_set k (a ∷ above) (suc i) ns is new zero n h = is zero n h
within_set k (a ∷ above) (suc i) ns is new (suc m) n h = within_set k above i ns (λ j. is (suc j)) new m n h

-- where each test of an element is off, that for any of them is
any_none : (p : ℕ → Bool) (xs : List ℕ) → ((x : ℕ) → Has xs x → p x ≡ false) → list_any p xs ≡ false
any_none p [] none = refl
any_none p (x ∷ xs) none = ap (λ b. b || list_any p xs) (none x (inl refl)) ∙ any_none p xs (λ y h. none y (inr h))

-- a number that is beyond all isn't there
beyond : (found : List ℕ) (highest : Option ℕ) (n : ℕ) → ((m : ℕ) → Has found m → IsWithin highest m → ⊥)
    → IsWithin highest n → has_number found n ≡ false
beyond found highest n all within = off (has_number found n) (λ t. all n ((number_tells found n).0 t) within)
  where
    off : (b : Bool) → (b ≡ true → ⊥) → b ≡ false
    off true no_true = absurd (no_true refl)
    off false no_true = refl

-- where all that was found is beyond what is told of any lock, none is above another
pub none_under : (above : List (List ℕ)) (found : List ℕ) (highest : Option ℕ) → AreWithin highest above
    → ((m : ℕ) → Has found m → IsWithin highest m → ⊥) → (n : ℕ) → is_under above found n ≡ false
none_under above found highest within all n =
    any_none (has_number found) _ (λ m h. beyond found highest m all (within n m h))

-- and all numbers are fresh
pub fresh_all : (above : List (List ℕ)) (found ns : List ℕ) → ((n : ℕ) → is_under above found n ≡ false)
    → ns ≡ fresh_from above found ns
fresh_all above found [] none = refl
fresh_all above found (n ∷ ns) none = ap (λ ms. n ∷ ms) (fresh_all above found ns none)
    ∙ ap (λ b. cond (not b) (n ∷ fresh_from above found ns) (fresh_from above found ns)) (sym (none n))
