-- The tables of the modes, and what they say of locks.
use Rattle.std.proofs.Common.{◌≡◌, Bool, true, false, refl, sym, ◌∙◌, Option, Some, None}
use Rattle.std.proofs.lemmas.Bool.{and_parts, false≢true}
use Rattle.std.specs.Prelude.{◌&&◌, not}
use Rattle.sect_modes.specs.declared.mode.Mode.{Mode}
use Rattle.sect_modes.specs.declared.mode.Mode.TheVariants.{IntentionShared, IntentionExclusive, Shared}
use Rattle.sect_modes.specs.declared.mode.Mode.TheVariants.{SharedIntentionExclusive, Exclusive}
use Rattle.sect_modes.specs.Mode.{are_compatible, is_at_least, is_reading, is_making, join_of}
use Rattle.sect_names.specs.{declared.lock.Effect.{Effect}, declared.lock.Right.{Right}}
use Rattle.sect_names.specs.Locks.{Allows, Grants, Includes}
use Rattle.sect_emit.specs.{Plan.{object_mode, is_met, class_mode}, ModeTests.{is_writing}}
use Rattle.sect_names.specs.declared.lock.Effect.TheVariants as effect
use Rattle.sect_names.specs.declared.lock.Right.TheVariants as right

-- the test holds of all five
abbrev pub all_modes : (Mode → Bool) → Bool
all_modes test = test IntentionShared &&
    (test IntentionExclusive && (test Shared && (test SharedIntentionExclusive && test Exclusive)))

pub each_mode : (test : Mode → Bool) → all_modes test ≡ true → (m : Mode) → test m ≡ true
each_mode test e m =
    let a = and_parts (test IntentionShared)
    (test IntentionExclusive && (test Shared && (test SharedIntentionExclusive && test Exclusive))) e in
    let b = and_parts (test IntentionExclusive) (test Shared && (test SharedIntentionExclusive && test Exclusive))
    a.1 in
    let d = and_parts (test Shared) (test SharedIntentionExclusive && test Exclusive) b.1 in
    let f = and_parts (test SharedIntentionExclusive) (test Exclusive) d.1 in
    by m a.0 b.0 d.0 f.0 f.1 where
      by : (m : Mode) → test IntentionShared ≡ true → test IntentionExclusive ≡ true → test Shared ≡ true
          → test SharedIntentionExclusive ≡ true → test Exclusive ≡ true → test m ≡ true
      by IntentionShared a b d f g = a
      by IntentionExclusive a b d f g = b
      by Shared a b d f g = d
      by SharedIntentionExclusive a b d f g = f
      by Exclusive a b d f g = g

abbrev pub if_then : Bool → Bool → Bool
if_then true b = b
if_then false b = true

pub holds : (a b : Bool) → if_then a b ≡ true → a ≡ true → b ≡ true
holds true b e h = e
holds false b e h = absurd (false≢true h)

-- at least what is at least a third is at least that
pub at_least_along : (a b c : Mode) → is_at_least a b ≡ true → is_at_least b c ≡ true → is_at_least a c ≡ true
at_least_along a b c e f =
    holds _ _
    (holds _ _ (each_mode (λ c. if_then (is_at_least a b) (if_then (is_at_least b c) (is_at_least a c))) (table a b)
    c) e) f where
      table : (a b : Mode) → all_modes (λ c. if_then (is_at_least a b) (if_then (is_at_least b c) (is_at_least a c)))
          ≡ true
      table a = each_mode (λ b. all_modes
          (λ c. if_then (is_at_least a b) (if_then (is_at_least b c) (is_at_least a c))))
          (each_mode
          (λ a. all_modes (λ b. all_modes
          (λ c. if_then (is_at_least a b) (if_then (is_at_least b c) (is_at_least a c))))) refl a)

-- a mode is at least itself
pub at_least_itself : (m : Mode) → is_at_least m m ≡ true
at_least_itself = each_mode (λ m. is_at_least m m) refl

-- a join is at least the first
pub join_left : (a b : Mode) → is_at_least (join_of a b) a ≡ true
join_left a = each_mode (λ b. is_at_least (join_of a b) a)
    (each_mode (λ a. all_modes (λ b. is_at_least (join_of a b) a)) refl a)

-- and the second
pub join_right : (a b : Mode) → is_at_least (join_of a b) b ≡ true
join_right a = each_mode (λ b. is_at_least (join_of a b) b)
    (each_mode (λ a. all_modes (λ b. is_at_least (join_of a b) b)) refl a)

-- and no more than it must be
pub join_least : (a b c : Mode) → is_at_least c a ≡ true → is_at_least c b ≡ true → is_at_least c (join_of a b) ≡ true
join_least a b c e f = holds _ _
    (holds _ _ (each_mode (λ c. if_then (is_at_least c a) (if_then (is_at_least c b) (is_at_least c (join_of a b))))
    (table a b) c) e) f where
      table : (a b : Mode) → all_modes
          (λ c. if_then (is_at_least c a) (if_then (is_at_least c b) (is_at_least c (join_of a b)))) ≡ true
      table a = each_mode (λ b. all_modes
          (λ c. if_then (is_at_least c a) (if_then (is_at_least c b) (is_at_least c (join_of a b)))))
          (each_mode
          (λ a. all_modes (λ b. all_modes
          (λ c. if_then (is_at_least c a) (if_then (is_at_least c b) (is_at_least c (join_of a b)))))) refl a)

-- modes are compatible both ways
pub sharing_turned : (a b : Mode) → are_compatible a b ≡ are_compatible b a
sharing_turned a b = by (are_compatible a b) refl (are_compatible b a) refl where
  one_way : (a b : Mode) → if_then (are_compatible a b) (are_compatible b a) ≡ true
  one_way a = each_mode (λ b. if_then (are_compatible a b) (are_compatible b a))
      (each_mode (λ a. all_modes (λ b. if_then (are_compatible a b) (are_compatible b a))) refl a)

  by : (x : Bool) → are_compatible a b ≡ x → (y : Bool) → are_compatible b a ≡ y
      → are_compatible a b ≡ are_compatible b a
  by true e y f = e ∙ sym (holds (are_compatible a b) (are_compatible b a) (one_way a b) e)
  by false e true f = holds (are_compatible b a) (are_compatible a b) (one_way b a) f ∙ sym f
  by false e false f = e ∙ sym f

-- who writes is alone
pub writing_alone : (a b : Mode) → is_writing a ≡ true → are_compatible a b ≡ false
writing_alone Exclusive b e = refl
writing_alone IntentionShared b e = absurd (false≢true e)
writing_alone IntentionExclusive b e = absurd (false≢true e)
writing_alone Shared b e = absurd (false≢true e)
writing_alone SharedIntentionExclusive b e = absurd (false≢true e)

not_both : (a b : Bool) → if_then a (not b) ≡ true → a ≡ true → b ≡ false
not_both true true e h = absurd (false≢true e)
not_both true false e h = refl
not_both false b e h = absurd (false≢true h)

-- who reads all of a class has nobody beside that makes parts of it
pub readers_and_makers : (a b : Mode) → is_reading a ≡ true → is_making b ≡ true → are_compatible a b ≡ false
readers_and_makers a b e f =
    not_both (is_making b) (are_compatible a b)
    (holds _ _ (each_mode (λ b. if_then (is_reading a) (if_then (is_making b) (not (are_compatible a b))))
    (each_mode (λ a. all_modes (λ b. if_then (is_reading a) (if_then (is_making b) (not (are_compatible a b)))))
    refl a) b) e) f

-- a mode that is met meets what it is at least
pub met_less : (o : Option Mode) (a b : Mode) → is_met o a ≡ true → is_at_least a b ≡ true → is_met o b ≡ true
met_less None a b h k = absurd (false≢true h)
met_less (Some n) a b h k = at_least_along n a b h k

-- what is met is held in a mode that is at least it
pub met_mode : (o : Option Mode) (m : Mode) → is_met o m ≡ true → (n : Mode) × (o ≡ Some n) × (is_at_least n m ≡ true)
met_mode None m h = absurd (false≢true h)
met_mode (Some n) m h = (n, refl, h)

-- one mode alone allows to write
pub writing_is : (n : Mode) → is_writing n ≡ true → n ≡ Exclusive
writing_is Exclusive h = refl
writing_is IntentionShared h = absurd (false≢true h)
writing_is IntentionExclusive h = absurd (false≢true h)
writing_is Shared h = absurd (false≢true h)
writing_is SharedIntentionExclusive h = absurd (false≢true h)

-- the exclusive mode shares with none
pub apart_from_writing : (m n : Mode) → is_writing n ≡ true → are_compatible m n ≡ true → ⊥
apart_from_writing m n h k = false≢true (sym (writing_alone n m h) ∙ sharing_turned n m ∙ k)

-- who may read all shares with none who may make parts
pub apart_from_making : (m n : Mode) → is_reading m ≡ true → is_making n ≡ true → are_compatible m n ≡ true → ⊥
apart_from_making m n h k e = false≢true (sym (readers_and_makers m n h k) ∙ e)

-- a lock that allows an effect asks for as strong a mode of the object
pub allows_mode : (e f : Effect) → Allows e f → is_at_least (object_mode e) (object_mode f) ≡ true
allows_mode effect.Read effect.Read h = refl
allows_mode effect.Read effect.Write h = absurd h
allows_mode effect.Write effect.Read h = refl
allows_mode effect.Write effect.Write h = refl

-- a right that grants an effect asks for as strong a mode of the class
pub grants_mode : (r : Right) (f : Effect) → Grants r f → is_at_least (class_mode r) (object_mode f) ≡ true
grants_mode right.Read effect.Read h = refl
grants_mode right.Read effect.Write h = absurd h
grants_mode right.Write effect.Read h = refl
grants_mode right.Write effect.Write h = refl
grants_mode right.Make effect.Read h = absurd h
grants_mode right.Make effect.Write h = absurd h

-- a right that takes in another asks for as strong a mode
pub includes_mode : (r q : Right) → Includes r q → is_at_least (class_mode r) (class_mode q) ≡ true
includes_mode right.Write q h = refl
includes_mode right.Read right.Read h = refl
includes_mode right.Read right.Write h = absurd h
includes_mode right.Read right.Make h = absurd h
includes_mode right.Make right.Make h = refl
includes_mode right.Make right.Read h = absurd h
includes_mode right.Make right.Write h = absurd h
