-- Keys that are kept once, each with a value, in order.
use Rattle.std.proofs.Common.{true≢false, ◌≡◌, ◌⊎◌, inl, inr, Bool, true, false, List, [], ◌∷◌, ◌++◌, Some, cond, refl}
use Rattle.std.proofs.{Common.{sym, ap, ◌∙◌, map, is_some, slice_get, subst, option_map}, lemmas.List.{map-append}}
use Rattle.std.proofs.lemmas.Option.{slice_get-map}
use Rattle.std.specs.{Bool.{Decides}, Map.{lookup}}
use Rattle.sect_lemmas.specs.{Lists.{Has}, Distinct.{AreDistinct}}
use Rattle.sect_lemmas.proofs.{Distinct.{distinct_push}, Membership.{Has-left, Has-right}}
use Rattle.sect_lemmas.proofs.{Options.{some_injective}, Places.{Has-index}}

-- keys that are told apart by what g makes of them
module _ {K L X : Type 0} (g : K → L) where
  abbrev told : K × X → L
  told e = g e.0

  -- a key that is there stays where more are added
  pub key_left : (es fs : List (K × X)) (k : L) → Has (map told es) k → Has (map told (es ++ fs)) k
  key_left es fs k h = subst (λ ks. Has ks k) (sym (map-append told es fs)) (Has-left (map told es) (map told fs) k h)

  -- the one that is added is there
  pub key_last : (es : List (K × X)) (k : K) (x : X) → Has (map told (es ++ (k, x) ∷ [])) (g k)
  key_last es k x = subst (λ ks. Has ks (g k)) (sym (map-append told es ((k, x) ∷ [])))
      (Has-right (map told es) (g k ∷ []) (g k) (inl refl))

  -- a key that is new is added
  pub keys_push : (es : List (K × X)) (k : K) (x : X) → AreDistinct (map told es) → (Has (map told es) (g k) → ⊥)
      → AreDistinct (map told (es ++ (k, x) ∷ []))
  keys_push es k x distinct new =
      subst AreDistinct (sym (map-append told es ((k, x) ∷ []))) (distinct_push (map told es) (g k) distinct new)

  -- what a look-up by a test that tells keys apart finds
  module _ (eq : K → K → Bool) (tells : (a b : K) → Decides (eq a b) (g a ≡ g b)) where
    pub lookup_has : (es : List (K × X)) (k : K) → is_some (lookup (eq k) es) ≡ true → Has (map told es) (g k)
    lookup_has [] k h = absurd (true≢false (sym h))
    lookup_has (e ∷ es) k h = by (eq k e.0) refl h (lookup_has es k) where
      by : (b : Bool) → eq k e.0 ≡ b → is_some (cond b (Some e.1) (lookup (eq k) es)) ≡ true
          → (is_some (lookup (eq k) es) ≡ true → Has (map told es) (g k)) → Has (map told (e ∷ es)) (g k)
      by true same h later = inl (sym ((tells k e.0).0 same))
      by false other h later = inr (later h)

    pub lookup_none : (es : List (K × X)) (k : K) → is_some (lookup (eq k) es) ≡ false → Has (map told es) (g k) → ⊥
    lookup_none [] k h at = at
    lookup_none (e ∷ es) k h at = by (eq k e.0) refl h (lookup_none es k) at where
      by : (b : Bool) → eq k e.0 ≡ b → is_some (cond b (Some e.1) (lookup (eq k) es)) ≡ false
          → (is_some (lookup (eq k) es) ≡ false → Has (map told es) (g k) → ⊥)
          → (g e.0 ≡ g k) ⊎ Has (map told es) (g k) → ⊥
      by true same h later at = true≢false h
      by false other h later (inl own) = true≢false (sym ((tells k e.0).1 (sym own)) ∙ other)
      by false other h later (inr there) = later h there

-- where what g makes of the elements is apart, so are they
pub one_of_distinct : {X L : Type 0} (g : X → L) (xs : List X) (x y : X) → AreDistinct (map g xs) → Has xs x → Has xs y
    → g x ≡ g y → x ≡ y
one_of_distinct g xs x y distinct hx hy same =
    let i = Has-index xs x hx in
    let j = Has-index xs y hy in
    let one = slice_get-map g xs i.0 ∙ ap (option_map g) i.1 in
    let other = slice_get-map g xs j.0 ∙ ap (option_map g) j.1 in
    let place = distinct i.0 j.0 (g x) one (other ∙ ap Some (sym same)) in
    some_injective x y (sym i.1 ∙ ap (slice_get xs) place ∙ j.1)
