-- What may be there or not.
use Rattle.std.proofs.Common.{◌≡◌, sym, ap, subst, Option, Some, None, refl, false, true≢false}
use Rattle.std.specs.Prelude.{⊤, option_map, is_some}

-- something is there
abbrev pub IsThere : {A : Type 0} → Option A → Type 0
IsThere None = ⊥
IsThere (Some x) = ⊤

-- what is there, or the default
abbrev value_or_else : {A : Type 0} → A → Option A → A
value_or_else d None = d
value_or_else d (Some x) = x

-- what is wrapped is equal where the wrapped are
pub some_injective : {A : Type 0} → (x y : A) → Some x ≡ Some y → x ≡ y
some_injective x y e = ap (value_or_else x) e

-- nothing is not something
pub none_or_some : {A : Type 0} → (x : A) → None ≡ Some x → ⊥
none_or_some x e = subst IsThere (sym e) tt

-- the function applied, if there is something
abbrev pub mapped : {A B : Type 0} → (A → B) → Option A → Option B
mapped g None = None
mapped g (Some x) = Some (g x)

-- what is made of a value that may be there is made of one that is there
pub map_part : {A B : Type 0} (g : A → B) (o : Option A) (y : B) → option_map g o ≡ Some y
    → (x : A) × (o ≡ Some x) × (g x ≡ y)
map_part g (Some x) y e = (x, refl, some_injective (g x) y e)
map_part g None y e = absurd (none_or_some y e)

-- what is not there is none
pub not_some : {A : Type 0} (o : Option A) → is_some o ≡ false → o ≡ None
not_some None e = refl
not_some (Some x) e = absurd (true≢false e)
