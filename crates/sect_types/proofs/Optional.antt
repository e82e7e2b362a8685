-- What is made of things that may be there or not.
use Rattle.std.proofs.Common.{◌≡◌, Option, Some, None, is_some, refl, sym, ap, true≢false}
use Rattle.std.specs.Prelude.{option_map, IsSome}
use Rattle.sect_lemmas.proofs.Options.{some_injective, none_or_some}
use Rattle.sect_types.specs.Numbered.{of_both, of_all}

-- the parts of what is made of two things
pub record Both (A B C : Type 0) (f : A → B → C) (a : Option A) (b : Option B) (x : C) : Type 0 where
  pub first : A
  pub second : B
  pub first_is : a ≡ Some first
  pub second_is : b ≡ Some second
  pub is : f first second ≡ x

pub both_parts : {A B C : Type 0} → (f : A → B → C) (a : Option A) (b : Option B) (x : C) → of_both f a b ≡ Some x
    → Both A B C f a b x
both_parts f (Some a) (Some b) x e = record {
  first = a;
  second = b;
  first_is = refl;
  second_is = refl;
  is = some_injective (f a b) x e;
}
both_parts f (Some a) None x e = absurd (none_or_some x e)
both_parts f None b x e = absurd (none_or_some x e)

-- and of three
pub record Three (A B C D : Type 0) (f : A → B → C → D) (a : Option A) (b : Option B) (c : Option C) (x : D) :
    Type 0 where
  pub first : A
  pub second : B
  pub third : C
  pub first_is : a ≡ Some first
  pub second_is : b ≡ Some second
  pub third_is : c ≡ Some third
  pub is : f first second third ≡ x

pub three_parts : {A B C D : Type 0} → (f : A → B → C → D) (a : Option A) (b : Option B) (c : Option C) (x : D)
    → of_all f a b c ≡ Some x → Three A B C D f a b c x
three_parts f (Some a) (Some b) (Some c) x e = record {
  first = a;
  second = b;
  third = c;
  first_is = refl;
  second_is = refl;
  third_is = refl;
  is = some_injective (f a b c) x e;
}
three_parts f (Some a) (Some b) None x e = absurd (none_or_some x e)
three_parts f (Some a) None c x e = absurd (none_or_some x e)
three_parts f None b c x e = absurd (none_or_some x e)

-- where the parts are there, it is there
pub both_there : {A B C : Type 0} → (f : A → B → C) (a : Option A) (b : Option B) → IsSome a → IsSome b
    → IsSome (of_both f a b)
both_there f (Some a) (Some b) h g = refl
both_there f (Some a) None h g = absurd (true≢false (sym g))
both_there f None b h g = absurd (true≢false (sym h))

pub all_there : {A B C D : Type 0} → (f : A → B → C → D) (a : Option A) (b : Option B) (c : Option C) → IsSome a
    → IsSome b → IsSome c → IsSome (of_all f a b c)
all_there f (Some a) (Some b) (Some c) h g i = refl
all_there f (Some a) (Some b) None h g i = absurd (true≢false (sym i))
all_there f (Some a) None c h g i = absurd (true≢false (sym g))
all_there f None b c h g i = absurd (true≢false (sym h))

pub map_there : {A B : Type 0} → (f : A → B) (a : Option A) → IsSome a → IsSome (option_map f a)
map_there f (Some a) h = refl
map_there f None h = absurd (true≢false (sym h))

-- and the other way
pub first_there : {A B C : Type 0} → (f : A → B → C) (a : Option A) (b : Option B) → IsSome (of_both f a b) → IsSome a
first_there f (Some a) b h = refl
first_there f None b h = absurd (true≢false (sym h))

pub second_there : {A B C : Type 0} → (f : A → B → C) (a : Option A) (b : Option B) → IsSome (of_both f a b) → IsSome b
second_there f (Some a) (Some b) h = refl
second_there f (Some a) None h = absurd (true≢false (sym h))
second_there f None b h = absurd (true≢false (sym h))

pub one_there : {A B : Type 0} → (f : A → B) (a : Option A) → IsSome (option_map f a) → IsSome a
one_there f (Some a) h = refl
one_there f None h = absurd (true≢false (sym h))

-- what is there
pub the : {A : Type 0} → (o : Option A) → IsSome o → (x : A) × (o ≡ Some x)
the (Some x) h = (x, refl)
the None h = absurd (true≢false (sym h))

pub is_there : {A : Type 0} → (o : Option A) (x : A) → o ≡ Some x → IsSome o
is_there o x e = ap is_some e
