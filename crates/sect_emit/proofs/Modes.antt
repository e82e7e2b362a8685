-- The tables of the modes, and what they say of locks.
use Rattle.std.proofs.Common.{◌≡◌, true, refl}
use Rattle.sect_modes.specs.{declared.mode.Mode.{Mode}, Mode.{is_at_least, join_of, intention_of}}
use Rattle.sect_names.specs.declared.lock.Effect.{Effect}
use Rattle.sect_emit.specs.{Plan.{intended, object_mode}, ModeTests.{is_reading_object}}
use Rattle.sect_emit.proofs.shared.Modes.{all_modes, each_mode, if_then, holds, at_least_along, join_least}
use Rattle.sect_names.specs.declared.lock.Effect.TheVariants as effect

same_mode_of_intentions : (a b : Mode)
    → is_at_least (join_of (intention_of a) (intention_of b)) (intention_of (join_of a b)) ≡ true
same_mode_of_intentions a =
    each_mode (λ b. is_at_least (join_of (intention_of a) (intention_of b)) (intention_of (join_of a b)))
    (each_mode
    (λ a. all_modes (λ b. is_at_least (join_of (intention_of a) (intention_of b)) (intention_of (join_of a b))))
    refl a)

-- what is at least the intentions of both is at least that of their join
pub intention_join : (n a b : Mode) → is_at_least n (intention_of a) ≡ true → is_at_least n (intention_of b) ≡ true
    → is_at_least n (intention_of (join_of a b)) ≡ true
intention_join n a b e f =
    at_least_along n (join_of (intention_of a) (intention_of b)) (intention_of (join_of a b))
    (join_least (intention_of a) (intention_of b) n e f) (same_mode_of_intentions a b)

-- the intention due before an access
pub intended_is : (e : Effect) → intention_of (object_mode e) ≡ intended e
intended_is effect.Read = refl
intended_is effect.Write = refl

-- S or X, on an object
pub join_reading_object : (a b : Mode) → is_reading_object a ≡ true → is_reading_object b ≡ true
    → is_reading_object (join_of a b) ≡ true
join_reading_object a b e f =
    holds _ _
    (holds _ _
    (each_mode (λ b. if_then (is_reading_object a)
    (if_then (is_reading_object b) (is_reading_object (join_of a b))))
    (each_mode
    (λ a. all_modes (λ b. if_then (is_reading_object a)
    (if_then (is_reading_object b) (is_reading_object (join_of a b))))) refl a) b) e) f

-- the mode of an object allows to read it
pub object_mode_reads : (e : Effect) → is_reading_object (object_mode e) ≡ true
object_mode_reads effect.Read = refl
object_mode_reads effect.Write = refl
