-- Numbers of locks that others cover.
use Rattle.std.proofs.Common.{◌≡◌, ◌⊎◌, inl, inr, Bool, true, false, not, refl}

-- a test tells one of two
pub told_by : (b : Bool) → (b ≡ true) ⊎ (not b ≡ true)
told_by true = inl refl
told_by false = inr refl
