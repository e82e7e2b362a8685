-- Tests, and how they are joined.
use Rattle.std.proofs.Common.{◌≡◌, Bool, true, false, refl, if◌then◌else◌, ◌||◌}

-- a choice between equals
pub either_way : {A : Type 0} → (b : Bool) (x : A) → x ≡ if b then x else x
either_way true x = refl
either_way false x = refl

-- a test or none is the test
pub or_false : (b : Bool) → (b || false) ≡ b
or_false true = refl
or_false false = refl
