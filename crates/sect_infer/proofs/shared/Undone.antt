-- Numbers of locks that others cover.
use Rattle.std.proofs.Common.{◌≡◌, inl, inr, ℕ, List, [], ◌∷◌, Some, Bool, true, false, refl, sym, ap, ◌∙◌, subst}
use Rattle.std.proofs.Common.{true≢false}
use Rattle.std.specs.{Prelude.{slice_get, slice_index_or, ◌||◌}, List.{list_any}}
use Rattle.sect_lemmas.specs.Lists.{Has}
use Rattle.sect_lemmas.proofs.Membership.{Has-slice_get}
use Rattle.sect_names.specs.{declared.lock.Lock.{Lock}, Schemes.{SchemeView}, Locks.{IsOutdone}}
use Rattle.sect_infer.specs.{Numbers.{has_number}, Numberings.{NumberingView, HasLock, IsNumbering, is_under}}
use Rattle.sect_infer.proofs.shared.Apart.{apart_one, number_tells}

-- what passes a test that some element passes
pub any_has : {X : Type 0} (p : X → Bool) (xs : List X) → list_any p xs ≡ true → (x : X) × Has xs x × (p x ≡ true)
any_has p [] e = absurd (true≢false (sym e))
any_has {X} p (x ∷ xs) e = go (p x) refl e (any_has p xs)
  where
    go : (b : Bool) → p x ≡ b → (b || list_any p xs) ≡ true → (list_any p xs ≡ true → (y : X) × Has xs y × (p y ≡ true))
        → (y : X) × Has (x ∷ xs) y × (p y ≡ true)
    go true is e rest = (x, inl refl, is)
    go false is e rest = (let r = rest e in (r.0, inr r.1, r.2))

-- a test that an element passes
any_is : {X : Type 0} (p : X → Bool) (xs : List X) (x : X) → Has xs x → p x ≡ true → list_any p xs ≡ true
any_is p [] x h e = absurd h
any_is {X} p (y ∷ ys) x h e = elim h [
  | inl same ↦ ap (λ b. b || list_any p ys) (ap p same ∙ e)
  | inr k ↦ go (p y) (any_is p ys x k e)
]
  where
    go : (b : Bool) → list_any p ys ≡ true → (b || list_any p ys) ≡ true
    go true rest = refl
    go false rest = rest

module _ (s : SchemeView) (t : NumberingView) (is : IsNumbering s t) (ns : List ℕ) (n : ℕ) (l : Lock)
    (at : slice_get t.keys n ≡ Some l) where
  -- a number that is above that of a lock is that of one that outdoes it
  pub under_is : is_under t.above ns n ≡ true → IsOutdone s (HasLock t.keys ns) l
  under_is e =
      let m = any_has (has_number ns) (slice_index_or t.above n []) e in
      let big = (is.told n l at).cover m.0 m.1 in
      (big.0, (m.0, (number_tells ns m.0).0 m.2, big.1), big.2.0, big.2.1)

  -- one that is outdone is under another
  pub is_under_is : IsOutdone s (HasLock t.keys ns) l → is_under t.above ns n ≡ true
  is_under_is out =
      let m : HasLock t.keys (slice_index_or t.above n []) out.0 = elim ((is.told n l at).all out.0 (out.2, out.3)) [
        | inl one ↦ one
        | inr absent ↦ absurd (absent (Has-slice_get t.keys out.1.0 out.0 out.1.2))
      ] in
      let same = apart_one t.keys m.0 out.1.0 out.0 is.apart m.2 out.1.2 in
      any_is (has_number ns) (slice_index_or t.above n []) m.0 m.1
      ((number_tells ns m.0).1 (subst (Has ns) (sym same) out.1.1))
