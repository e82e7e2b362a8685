-- What is there is made of what is there.
use Rattle.std.proofs.Common.{◌≡◌, Option, Some, None, refl}
use Rattle.sect_lemmas.proofs.Options.{none_or_some, some_injective}
use Rattle.sect_types.specs.Numbered.{of_both, of_all}

pub both_parts : {A B C : Type 0} (f : A → B → C) (x : Option A) (y : Option B) (z : C) → of_both f x y ≡ Some z
    → (a : A) × (b : B) × (x ≡ Some a) × (y ≡ Some b) × (f a b ≡ z)
both_parts f (Some a) (Some b) z h = (a, b, refl, refl, some_injective (f a b) z h)
both_parts f (Some a) None z h = absurd (none_or_some z h)
both_parts f None (Some b) z h = absurd (none_or_some z h)
both_parts f None None z h = absurd (none_or_some z h)

pub all_parts : {A B C D : Type 0} (f : A → B → C → D) (x : Option A) (y : Option B) (u : Option C) (z : D)
    → of_all f x y u ≡ Some z
    → (a : A) × (b : B) × (c : C) × (x ≡ Some a) × (y ≡ Some b) × (u ≡ Some c) × (f a b c ≡ z)
all_parts f (Some a) (Some b) (Some c) z h = (a, b, c, refl, refl, refl, some_injective (f a b c) z h)
all_parts f (Some a) (Some b) None z h = absurd (none_or_some z h)
all_parts f (Some a) None (Some c) z h = absurd (none_or_some z h)
all_parts f (Some a) None None z h = absurd (none_or_some z h)
all_parts f None (Some b) (Some c) z h = absurd (none_or_some z h)
all_parts f None (Some b) None z h = absurd (none_or_some z h)
all_parts f None None (Some c) z h = absurd (none_or_some z h)
all_parts f None None None z h = absurd (none_or_some z h)
