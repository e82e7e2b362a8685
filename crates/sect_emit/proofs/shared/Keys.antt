-- Keys are ordered.
use Rattle.std.proofs.Common.{◌≡◌, ℕ, ◌<◌, true, refl, ◌∙◌, ◌⊎◌, inl, inr, arith, ltb-true, lt-ltb, eqb-true}
use Rattle.std.proofs.{Common.{eq-eqb}, lemmas.Bool.{and_parts, and_from, or_cases, false≢true, or_left, or_right}}
use Rattle.std.specs.Prelude.{◌&&◌, ◌==◌, nat_lt}
use Rattle.sect_modes.specs.{declared.key.Key.{Key}, declared.key.Key.TheVariants.{All, Class, Global, Made}}
use Rattle.sect_modes.specs.Key.{is_key_below}

-- no key is below itself
pub not_below_itself : (a : Key) → is_key_below a a ≡ true → ⊥
not_below_itself All e = false≢true e
not_below_itself (Class a) e = omega (arith, ltb-true a a e)
not_below_itself (Global a) e = omega (arith, ltb-true a a e)
not_below_itself (Made t n) e = by (or_cases (nat_lt t t) ((t == t) && nat_lt n n) e) where
  by : (nat_lt t t ≡ true) ⊎ (((t == t) && nat_lt n n) ≡ true) → ⊥
  by (inl h) = omega (arith, ltb-true t t h)
  by (inr h) = omega (arith, ltb-true n n (and_parts (t == t) (nat_lt n n) h).1)

made_below : (t n u m : ℕ) → is_key_below (Made t n) (Made u m) ≡ true → (t < u) ⊎ ((t ≡ u) × (n < m))
made_below t n u m e = by (or_cases (nat_lt t u) ((t == u) && nat_lt n m) e) where
  by : (nat_lt t u ≡ true) ⊎ (((t == u) && nat_lt n m) ≡ true) → (t < u) ⊎ ((t ≡ u) × (n < m))
  by (inl h) = inl (ltb-true t u h)
  by (inr h) = let p = and_parts (t == u) (nat_lt n m) h in inr (eqb-true t u p.0, ltb-true n m p.1)

pub below_made : (t n u m : ℕ) → (t < u) ⊎ ((t ≡ u) × (n < m)) → is_key_below (Made t n) (Made u m) ≡ true
below_made t n u m (inl h) = or_left (nat_lt t u) ((t == u) && nat_lt n m) (lt-ltb t u h)
below_made t n u m (inr h) = or_right (nat_lt t u) ((t == u) && nat_lt n m)
    (and_from (t == u) (nat_lt n m) (eq-eqb t u h.0) (lt-ltb n m h.1))

-- no key is below that of all objects
pub nothing_below_all : (a : Key) → is_key_below a All ≡ true → ⊥
nothing_below_all All e = false≢true e
nothing_below_all (Class a) e = false≢true e
nothing_below_all (Global a) e = false≢true e
nothing_below_all (Made t n) e = false≢true e

-- keys below one another are below
pub below_along : (a b c : Key) → is_key_below a b ≡ true → is_key_below b c ≡ true → is_key_below a c ≡ true
below_along a b All e f = absurd (nothing_below_all b f)
below_along a All c e f = absurd (nothing_below_all a e)
below_along All b (Class c) e f = refl
below_along All b (Global c) e f = refl
below_along All b (Made t n) e f = refl
below_along (Class a) (Class b) (Class c) e f = lt-ltb a c (omega (arith, ltb-true a b e, ltb-true b c f))
below_along (Class a) b (Global c) e f = refl
below_along (Class a) b (Made u m) e f = refl
below_along (Class a) (Global b) (Class c) e f = absurd (false≢true f)
below_along (Class a) (Made t n) (Class c) e f = absurd (false≢true f)
below_along (Global a) (Class b) c e f = absurd (false≢true e)
below_along (Global a) (Global b) (Class c) e f = absurd (false≢true f)
below_along (Global a) (Global b) (Global c) e f = lt-ltb a c (omega (arith, ltb-true a b e, ltb-true b c f))
below_along (Global a) b (Made u m) e f = refl
below_along (Global a) (Made t n) (Class c) e f = absurd (false≢true f)
below_along (Global a) (Made t n) (Global c) e f = absurd (false≢true f)
below_along (Made t n) (Class b) c e f = absurd (false≢true e)
below_along (Made t n) (Global b) c e f = absurd (false≢true e)
below_along (Made t n) (Made u m) (Class c) e f = absurd (false≢true f)
below_along (Made t n) (Made u m) (Global c) e f = absurd (false≢true f)
below_along (Made t n) (Made u m) (Made v k) e f =
    below_made t n v k (by (made_below t n u m e) (made_below u m v k f)) where
      by : (t < u) ⊎ ((t ≡ u) × (n < m)) → (u < v) ⊎ ((u ≡ v) × (m < k)) → (t < v) ⊎ ((t ≡ v) × (n < k))
      by (inl h) (inl g) = inl (omega (arith, h, g))
      by (inl h) (inr g) = inl (omega (arith, h, g.0))
      by (inr h) (inl g) = inl (omega (arith, h.0, g))
      by (inr h) (inr g) = inr (h.0 ∙ g.0, omega (arith, h.1, g.1))
