-- Keys are ordered, and tested for equality.
use Rattle.std.proofs.Common.{◌≡◌, ℕ, ◌<◌, Bool, true, false, refl, sym, inl, inr, true≢false, arith, lt-ltb, eqb-true}
use Rattle.std.specs.Prelude.{◌&&◌, ◌||◌, ◌==◌, nat_lt}
use Rattle.sect_modes.specs.{declared.key.Key.{Key}, declared.key.Key.TheVariants.{All, Class, Global, Made}}
use Rattle.sect_modes.specs.Key.{is_same_key, is_key_below}
use Rattle.sect_emit.proofs.shared.Keys.{below_made}

number_above : (a b : ℕ) → (a == b) ≡ false → nat_lt a b ≡ false → b < a
number_above a b e f = grind (arith, e, f)

-- of two keys one is below the other
pub other_above : (a b : Key) → is_same_key a b ≡ false → is_key_below a b ≡ false → is_key_below b a ≡ true
other_above All All e f = absurd (true≢false e)
other_above All (Class b) e f = absurd (true≢false f)
other_above All (Global b) e f = absurd (true≢false f)
other_above All (Made t n) e f = absurd (true≢false f)
other_above (Class a) All e f = refl
other_above (Global a) All e f = refl
other_above (Made t n) All e f = refl
other_above (Class a) (Class b) e f = lt-ltb b a (number_above a b e f)
other_above (Class a) (Global b) e f = absurd (true≢false f)
other_above (Class a) (Made t n) e f = absurd (true≢false f)
other_above (Global a) (Class b) e f = refl
other_above (Global a) (Global b) e f = lt-ltb b a (number_above a b e f)
other_above (Global a) (Made t n) e f = absurd (true≢false f)
other_above (Made t n) (Class b) e f = refl
other_above (Made t n) (Global b) e f = refl
other_above (Made t n) (Made u m) e f = by (t == u) refl (nat_lt t u) refl e f where
  by : (x : Bool) → (t == u) ≡ x → (y : Bool) → nat_lt t u ≡ y → (x && (n == m)) ≡ false
      → (y || (x && nat_lt n m)) ≡ false → is_key_below (Made u m) (Made t n) ≡ true
  by x xe true ye e' f' = absurd (true≢false f')
  by true xe false ye e' f' = below_made u m t n (inr (sym (eqb-true t u xe), number_above n m e' f'))
  by false xe false ye e' f' = below_made u m t n (inl (number_above t u xe ye))
