-- Least sets in canonical order are one.
use Rattle.std.proofs.Common.{◌≡◌, ◌⊎◌, ℕ, ◌<◌, List, [], ◌∷◌, inl, inr, refl, sym, ap, ◌∙◌, subst, arith}
use Rattle.sect_lemmas.specs.Lists.{Has}
use Rattle.sect_types.specs.declared.expansion.action.Field.{Field}
use Rattle.sect_points.specs.declared.holders.Variable.{Variable}
use Rattle.sect_points.specs.declared.holders.Variable.TheVariants.{Global, Local}
use Rattle.sect_points.specs.Paths.{PathView, base_of, fields_of}
use Rattle.sect_names.specs.{declared.lock.Effect.{Effect}, declared.lock.Right.{Right}, declared.lock.Lock.{Lock}}
use Rattle.sect_names.specs.Order.{VariableBefore, FieldBefore, FieldsBefore, PathBefore, EffectBefore, RightBefore}
use Rattle.sect_names.specs.Order.{LockBefore, AreInOrder}
use Rattle.sect_names.specs.declared.lock.Effect.TheVariants as effect
use Rattle.sect_names.specs.declared.lock.Right.TheVariants as right
use Rattle.sect_names.specs.declared.lock.Lock.TheVariants as lock

-- the order of pairs of numbers goes one way
pair_once : (a b c d : ℕ) → (a < b) ⊎ ((a ≡ b) × (c < d)) → (b < a) ⊎ ((b ≡ a) × (d < c)) → ⊥
pair_once a b c d (inl x) (inl y) = omega (arith, x, y)
pair_once a b c d (inl x) (inr y) = omega (arith, x, y.0)
pair_once a b c d (inr x) (inl y) = omega (arith, x.0, y)
pair_once a b c d (inr x) (inr y) = omega (arith, x.1, y.1)

variable_once : (v w : Variable) → VariableBefore v w → VariableBefore w v → ⊥
variable_once (Global g) (Global h) a b = omega (arith, a, b)
variable_once (Global g) (Local t x) a b = b
variable_once (Local t x) (Global g) a b = a
variable_once (Local t x) (Local u y) a b = pair_once t u x y a b

field_once : (f g : Field) → FieldBefore f g → FieldBefore g f → ⊥
field_once f g a b = pair_once f.of g.of f.number g.number a b

fields_once : (fs gs : List Field) → FieldsBefore fs gs → FieldsBefore gs fs → ⊥
fields_once [] [] a b = a
fields_once [] (g ∷ gs) a b = b
fields_once (f ∷ fs) [] a b = a
fields_once (f ∷ fs) (g ∷ gs) (inl a) (inl b) = field_once f g a b
fields_once (f ∷ fs) (g ∷ gs) (inl a) (inr b) = let c = subst (FieldBefore f) b.0 a in field_once f f c c
fields_once (f ∷ fs) (g ∷ gs) (inr a) (inl b) = let c = subst (FieldBefore g) a.0 b in field_once g g c c
fields_once (f ∷ fs) (g ∷ gs) (inr a) (inr b) = fields_once fs gs a.1 b.1

path_once : (p q : PathView) → PathBefore p q → PathBefore q p → ⊥
path_once p q (inl a) (inl b) = variable_once (base_of p) (base_of q) a b
path_once p q (inl a) (inr b) = let c = subst (VariableBefore (base_of p)) b.0 a in
    variable_once (base_of p) (base_of p) c c
path_once p q (inr a) (inl b) = let c = subst (VariableBefore (base_of q)) a.0 b in
    variable_once (base_of q) (base_of q) c c
path_once p q (inr a) (inr b) = fields_once (fields_of p) (fields_of q) a.1 b.1

effect_once : (e f : Effect) → EffectBefore e f → EffectBefore f e → ⊥
effect_once effect.Read effect.Read a b = a
effect_once effect.Read effect.Write a b = b
effect_once effect.Write f a b = a

right_once : (r q : Right) → RightBefore r q → RightBefore q r → ⊥
right_once right.Read right.Read a b = a
right_once right.Read right.Write a b = b
right_once right.Read right.Make a b = b
right_once right.Write right.Read a b = a
right_once right.Write right.Write a b = a
right_once right.Write right.Make a b = b
right_once right.Make q a b = a

pub lock_once : (l m : Lock) → LockBefore l m → LockBefore m l → ⊥
lock_once lock.All lock.All a b = a
lock_once lock.All (lock.Class d q) a b = b
lock_once lock.All (lock.Path q f) a b = b
lock_once (lock.Class c r) lock.All a b = a
lock_once (lock.Path p e) lock.All a b = a
lock_once (lock.Class c r) (lock.Class d q) (inl a) (inl b) = omega (arith, a, b)
lock_once (lock.Class c r) (lock.Class d q) (inl a) (inr b) = omega (arith, a, b.0)
lock_once (lock.Class c r) (lock.Class d q) (inr a) (inl b) = omega (arith, a.0, b)
lock_once (lock.Class c r) (lock.Class d q) (inr a) (inr b) = right_once r q a.1 b.1
lock_once (lock.Class c r) (lock.Path q f) a b = b
lock_once (lock.Path p e) (lock.Class d q) a b = a
lock_once (lock.Path p e) (lock.Path q f) (inl a) (inl b) = path_once p q a b
lock_once (lock.Path p e) (lock.Path q f) (inl a) (inr b) = let c = subst (PathBefore p) b.0 a in path_once p p c c
lock_once (lock.Path p e) (lock.Path q f) (inr a) (inl b) = let c = subst (PathBefore q) a.0 b in path_once q q c c
lock_once (lock.Path p e) (lock.Path q f) (inr a) (inr b) = effect_once e f a.1 b.1

-- lists in canonical order that have the same locks are one
pub same_lists : (xs ys : List Lock) → AreInOrder xs → AreInOrder ys → ((l : Lock) → Has xs l → Has ys l)
    → ((l : Lock) → Has ys l → Has xs l) → xs ≡ ys
same_lists [] [] a b to from = refl
same_lists [] (y ∷ ys) a b to from = absurd (from y (inl refl))
same_lists (x ∷ xs) [] a b to from = absurd (to x (inl refl))
same_lists (x ∷ xs) (y ∷ ys) a b to from =
    let first = heads (to x (inl refl)) (from y (inl refl)) in
    let rest = same_lists xs ys a.1 b.1 (λ l h. tail_to first l h (to l (inr h)))
    (λ l h. tail_from first l h (from l (inr h))) in
    ap (λ z. z ∷ xs) first ∙ ap (λ l. y ∷ l) rest
  where
    heads : (y ≡ x) ⊎ Has ys x → (x ≡ y) ⊎ Has xs y → x ≡ y
    heads (inl e) k = sym e
    heads (inr h) (inl e) = e
    heads (inr h) (inr k) = absurd (lock_once x y (a.0 y k) (b.0 x h))

    tail_to : x ≡ y → (l : Lock) → Has xs l → (y ≡ l) ⊎ Has ys l → Has ys l
    tail_to first l h (inl e) = let c = subst (LockBefore x) (sym (first ∙ e)) (a.0 l h) in absurd (lock_once x x c c)
    tail_to first l h (inr k) = k

    tail_from : x ≡ y → (l : Lock) → Has ys l → (x ≡ l) ⊎ Has xs l → Has xs l
    tail_from first l h (inl e) = let c = subst (LockBefore y) (sym (sym first ∙ e)) (b.0 l h) in
        absurd (lock_once y y c c)
    tail_from first l h (inr k) = k
