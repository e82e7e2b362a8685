-- The first key of an ascending list.
use Rattle.std.proofs.Common.{◌≡◌, ℕ, ◌+◌, ◌<◌, ◌++◌, List, ◌∷◌, length, take, drop, get_or, Bool, true, false, refl}
use Rattle.std.proofs.Common.{sym, ap, ◌∙◌, subst, inl, inr}
use Rattle.std.proofs.{lemmas.List.{take-append-drop}, lemmas.Bool.{not-true, and_parts, and_from, not_from_false}}
use Rattle.std.specs.Prelude.{◌&&◌, not}
use Rattle.sect_lemmas.specs.Lists.{Has}
use Rattle.sect_lemmas.proofs.{Elements.{drop_next}, Membership.{Has-cases}}
use Rattle.sect_modes.specs.{Mode.{are_compatible}, Key.{is_key_below, is_same_key}}
use Rattle.sect_modes.proofs.shared.Keys.{same_key, key_itself}
use Rattle.sect_emit.specs.{declared.plan.Grip.{Grip}, Plan.{Ascends}}
use Rattle.sect_emit.proofs.shared.{Keys.{not_below_itself, below_along}, Plans.{ascends_right}}

-- an element of the list stands before place i, at it, or above it
before_or_above : (xs : List Grip) → Ascends xs → (i : ℕ) (g : Grip) → i < length xs → g ≡ get_or xs i g → (x : Grip)
    → Has xs x → is_key_below x.key g.key ≡ true → Has (take i xs) x
before_or_above xs up i g within is x h below =
    elim (Has-cases (take i xs) (g ∷ drop (i + 1) xs) x (subst (λ ys. Has ys x) split h)) [
      | inl a ↦ a
      | inr (inl e) ↦ absurd (not_below_itself g.key
          (subst (λ (y : Grip). is_key_below y.key g.key ≡ true) (sym e) below))
      | inr (inr a) ↦ absurd (not_below_itself x.key
          (below_along x.key g.key x.key below (above.0 x a)))
    ]
  where
    split : xs ≡ take i xs ++ g ∷ drop (i + 1) xs
    split = sym (take-append-drop i xs) ∙ ap (λ ys. take i xs ++ ys) (drop_next xs i g within is)

    above : Ascends (g ∷ drop (i + 1) xs)
    above = ascends_right (take i xs) (g ∷ drop (i + 1) xs) (subst Ascends split up)

-- so a key below that at place i, where none before it clashes, doesn't clash
pub none_below : (xs ys : List Grip) → Ascends xs → (i : ℕ) (g : Grip) → i < length xs → g ≡ get_or xs i g
    → ((x : Grip) → Has (take i xs) x → (y : Grip) → Has ys y → x.key ≡ y.key
    → are_compatible x.mode y.mode ≡ false → ⊥)
    → (x y : Grip) → Has xs x → Has ys y → x.key ≡ y.key → are_compatible x.mode y.mode ≡ false
    → is_key_below x.key g.key ≡ false
none_below xs ys up i g within is none x y hx hy same apart = by (is_key_below x.key g.key) refl where
  by : (b : Bool) → is_key_below x.key g.key ≡ b → is_key_below x.key g.key ≡ false
  by true e = absurd (none x (before_or_above xs up i g within is x hx e) y hy same apart)
  by false e = e

-- what the test of two wishes tells
pub clash_tells : (g h : Grip) → (is_same_key g.key h.key && not (are_compatible g.mode h.mode)) ≡ true
    → (g.key ≡ h.key) × (are_compatible g.mode h.mode ≡ false)
clash_tells g h e =
    let b = and_parts (is_same_key g.key h.key) (not (are_compatible g.mode h.mode)) e in
    (same_key g.key h.key b.0, not-true (are_compatible g.mode h.mode) b.1)

pub tells_clash : (g h : Grip) → g.key ≡ h.key → are_compatible g.mode h.mode ≡ false
    → (is_same_key g.key h.key && not (are_compatible g.mode h.mode)) ≡ true
tells_clash g h e apart = and_from (is_same_key g.key h.key) (not (are_compatible g.mode h.mode))
    (subst (λ k. is_same_key g.key k ≡ true) e (key_itself g.key)) (not_from_false (are_compatible g.mode h.mode) apart)
