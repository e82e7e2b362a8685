-- What the tables of the modes say of joins.
use Rattle.std.proofs.{Common.{◌≡◌, ◌⊎◌, Bool, false, refl, inl, inr}, lemmas.Bool.{or_cases, not_from_false, not-true}}
use Rattle.std.specs.Prelude.{◌||◌, not}
use Rattle.sect_modes.specs.{declared.mode.Mode.{Mode}, Mode.{are_compatible, join_of}}
use Rattle.sect_emit.proofs.shared.Modes.{all_modes, each_mode, if_then, holds}

abbrev parts_apart : Mode → Mode → Mode → Bool
parts_apart m n b = if_then (not (are_compatible (join_of m n) b))
    (not (are_compatible m b) || not (are_compatible n b))

-- what isn't compatible with a join isn't with one of both
pub join_apart : (m n b : Mode) → are_compatible (join_of m n) b ≡ false
    → (are_compatible m b ≡ false) ⊎ (are_compatible n b ≡ false)
join_apart m n b e =
    elim (or_cases (not (are_compatible m b)) (not (are_compatible n b)) (holds _ _
    (each_mode (parts_apart m n) (each_mode (λ n. all_modes (parts_apart m n))
    (each_mode (λ m. all_modes (λ n. all_modes (parts_apart m n))) refl m) n) b)
    (not_from_false (are_compatible (join_of m n) b) e))) [
      | inl h ↦ inl (not-true (are_compatible m b) h)
      | inr h ↦ inr (not-true (are_compatible n b) h)
    ]
