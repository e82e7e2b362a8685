-- A stronger mode is compatible with no more.
use Rattle.std.proofs.{Common.{◌≡◌, Bool, true, false, refl, ◌∙◌}, lemmas.Bool.{not_from_false, not-true}}
use Rattle.std.specs.Prelude.{not}
use Rattle.sect_modes.specs.{declared.mode.Mode.{Mode}, Mode.{are_compatible, is_at_least}}
use Rattle.sect_emit.proofs.shared.Modes.{all_modes, each_mode, if_then, holds, sharing_turned}

abbrev stays_apart : Mode → Mode → Mode → Bool
stays_apart a m n = if_then (is_at_least a m) (if_then (not (are_compatible m n)) (not (are_compatible a n)))

stronger_apart : (a m n : Mode) → is_at_least a m ≡ true → are_compatible m n ≡ false → are_compatible a n ≡ false
stronger_apart a m n e f =
    not-true (are_compatible a n) (holds _ _
    (holds _ _ (each_mode (stays_apart a m) (each_mode (λ m. all_modes (stays_apart a m))
    (each_mode (λ a. all_modes (λ m. all_modes (stays_apart a m))) refl a) m) n) e)
    (not_from_false (are_compatible m n) f))

-- nor are two stronger ones
pub both_stronger : (a b m n : Mode) → is_at_least a m ≡ true → is_at_least b n ≡ true → are_compatible m n ≡ false
    → are_compatible a b ≡ false
both_stronger a b m n e f apart =
    sharing_turned a b
    ∙ stronger_apart b n a f (sharing_turned n a ∙ stronger_apart a m n e apart)
