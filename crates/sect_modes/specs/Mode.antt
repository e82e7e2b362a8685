-- The tables of the five modes. Cited by `compatible`, `at_least`, `join`, `intention` and the laws of modes.
use Rattle.std.specs.Prelude.{◌≡◌, ℕ, Bool, true, false, List, codes}
use Rattle.sect_modes.specs.declared.mode.Mode.{Mode}
use Rattle.sect_modes.specs.declared.mode.Mode.TheVariants.{IntentionShared, IntentionExclusive, Shared}
use Rattle.sect_modes.specs.declared.mode.Mode.TheVariants.{SharedIntentionExclusive, Exclusive}

-- a mode is called by its letters
abbrev pub mode_text : Mode → List ℕ
mode_text IntentionShared = codes "IS"
mode_text IntentionExclusive = codes "IX"
mode_text Shared = codes "S"
mode_text SharedIntentionExclusive = codes "SIX"
mode_text Exclusive = codes "X"

-- two threads may hold one key in these modes
abbrev pub are_compatible : Mode → Mode → Bool
are_compatible IntentionShared Exclusive = false
are_compatible IntentionShared _ = true
are_compatible IntentionExclusive IntentionShared = true
are_compatible IntentionExclusive IntentionExclusive = true
are_compatible IntentionExclusive _ = false
are_compatible Shared IntentionShared = true
are_compatible Shared Shared = true
are_compatible Shared _ = false
are_compatible SharedIntentionExclusive IntentionShared = true
are_compatible SharedIntentionExclusive _ = false
are_compatible Exclusive _ = false

-- the first mode gives every right of the second
abbrev pub is_at_least : Mode → Mode → Bool
is_at_least IntentionShared IntentionShared = true
is_at_least IntentionShared _ = false
is_at_least IntentionExclusive IntentionShared = true
is_at_least IntentionExclusive IntentionExclusive = true
is_at_least IntentionExclusive _ = false
is_at_least Shared IntentionShared = true
is_at_least Shared Shared = true
is_at_least Shared _ = false
is_at_least SharedIntentionExclusive Exclusive = false
is_at_least SharedIntentionExclusive _ = true
is_at_least Exclusive _ = true

abbrev pub join_of : Mode → Mode → Mode
join_of IntentionShared m = m
join_of IntentionExclusive IntentionShared = IntentionExclusive
join_of IntentionExclusive IntentionExclusive = IntentionExclusive
join_of IntentionExclusive Shared = SharedIntentionExclusive
join_of IntentionExclusive m = m
join_of Shared IntentionShared = Shared
join_of Shared IntentionExclusive = SharedIntentionExclusive
join_of Shared m = m
join_of SharedIntentionExclusive Exclusive = Exclusive
join_of SharedIntentionExclusive _ = SharedIntentionExclusive
join_of Exclusive _ = Exclusive

-- the mode that is due on the whole before a part is held in this mode
abbrev pub intention_of : Mode → Mode
intention_of IntentionShared = IntentionShared
intention_of Shared = IntentionShared
intention_of _ = IntentionExclusive

-- who holds all in this mode may read every part
abbrev pub is_reading : Mode → Bool
is_reading m = is_at_least m Shared

-- who holds all in this mode may make new parts
abbrev pub is_making : Mode → Bool
is_making m = is_at_least m IntentionExclusive

-- at least as strong as both, and no stronger than any mode that is
pub record IsLeastUpperBound (least left right : Mode) : Type 0 where
  pub above_left : is_at_least least left ≡ true
  pub above_right : is_at_least least right ≡ true
  pub below_others : (m : Mode) → is_at_least m left ≡ true → is_at_least m right ≡ true → is_at_least m least ≡ true

-- `is_at_least` is a partial order
pub record IsPartialOrder (a b c : Mode) : Type 0 where
  pub reflexive : is_at_least a a ≡ true
  pub antisymmetric : is_at_least a b ≡ true → is_at_least b a ≡ true → a ≡ b
  pub transitive : is_at_least a b ≡ true → is_at_least b c ≡ true → is_at_least a c ≡ true

-- sharing has no side, and what shares with a mode shares with each weaker one
pub record SharesDownwards (a b c : Mode) : Type 0 where
  pub symmetric : are_compatible a b ≡ are_compatible b a
  pub downwards : is_at_least a b ≡ true → are_compatible a c ≡ true → are_compatible b c ≡ true

-- the exclusive mode shares with none, and a reading mode with no making one
pub record KeepsApart (a b : Mode) : Type 0 where
  pub exclusive : are_compatible Exclusive a ≡ false
  pub readers_makers : is_reading a ≡ true → is_making b ≡ true → are_compatible a b ≡ false
