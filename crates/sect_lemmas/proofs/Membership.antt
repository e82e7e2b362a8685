-- What stands in a list.
use Rattle.std.proofs.Common.{◌≡◌, ℕ, zero, suc, ◌<◌, ◌⊎◌, List, [], ◌∷◌, ◌++◌, map, length, get_or, refl, inl, inr}
use Rattle.std.proofs.Common.{arith, Some}
use Rattle.std.specs.Prelude.{slice_get}
use Rattle.sect_lemmas.specs.Lists.{Has}

pub Has-left : {X : Type 0} (xs ys : List X) (x : X) → Has xs x → Has (xs ++ ys) x
Has-left [] ys x h = absurd h
Has-left (y ∷ xs) ys x h = elim h [ inl e ↦ inl e | inr h ↦ inr (Has-left xs ys x h) ]

pub Has-right : {X : Type 0} (xs ys : List X) (x : X) → Has ys x → Has (xs ++ ys) x
Has-right [] ys x h = h
Has-right (y ∷ xs) ys x h = inr (Has-right xs ys x h)

pub Has-cases : {X : Type 0} (xs ys : List X) (x : X) → Has (xs ++ ys) x → Has xs x ⊎ Has ys x
Has-cases [] ys x h = inr h
Has-cases (y ∷ xs) ys x h = elim h
    [ inl e ↦ inl (inl e) | inr h ↦ elim (Has-cases xs ys x h) [ inl a ↦ inl (inr a) | inr b ↦ inr b ] ]

pub Has-get_or : {X : Type 0} (xs : List X) (i : ℕ) (d : X) → i < length xs → Has xs (get_or xs i d)
Has-get_or [] i d h = absurd (omega arith)
Has-get_or (x ∷ xs) zero d h = inl refl
Has-get_or (x ∷ xs) (suc i) d h = inr (Has-get_or xs i d (omega arith))

pub Has-slice_get : {X : Type 0} (xs : List X) (i : ℕ) (x : X) → slice_get xs i ≡ Some x → Has xs x
Has-slice_get [] i x e = absurd cc
Has-slice_get (y ∷ xs) zero x e = inl cc
Has-slice_get (y ∷ xs) (suc i) x e = inr (Has-slice_get xs i x e)

pub Has-unmap : {X Y : Type 0} (f : X → Y) (xs : List X) (y : Y) → Has (map f xs) y → (x : X) × Has xs x × (f x ≡ y)
Has-unmap f [] y h = absurd h
Has-unmap f (z ∷ xs) y h = elim h
    [ inl e ↦ (z, inl refl, e) | inr h ↦ (let r = Has-unmap f xs y h in (r.0, inr r.1, r.2)) ]
