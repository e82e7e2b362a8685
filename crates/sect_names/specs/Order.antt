-- The canonical order of locks.
use Rattle.std.specs.Prelude.{◌≡◌, ◌<◌, ◌↔◌, ⊤, List, [], ◌∷◌, ◌⊎◌}
use Rattle.sect_lemmas.specs.Lists.{Has}
use Rattle.sect_types.specs.declared.expansion.action.Field.{Field}
use Rattle.sect_points.specs.declared.holders.Variable.{Variable}
use Rattle.sect_points.specs.declared.holders.Variable.TheVariants.{Global, Local}
use Rattle.sect_points.specs.Paths.{PathView, base_of, fields_of}
use Rattle.sect_names.specs.{declared.lock.Effect.{Effect}, declared.lock.Right.{Right}, declared.lock.Lock.{Lock}}
use Rattle.sect_names.specs.{Schemes.{SchemeView}, Locks.{IsOutdone, CoveredBy}}
use Rattle.sect_names.specs.declared.lock.Effect.TheVariants as effect
use Rattle.sect_names.specs.declared.lock.Right.TheVariants as right
use Rattle.sect_names.specs.declared.lock.Lock.TheVariants as lock

-- globals in order, then the locals of each thread in order
abbrev pub VariableBefore : Variable → Variable → Type 0
VariableBefore (Global g) (Global h) = g < h
VariableBefore (Global g) (Local t x) = ⊤
VariableBefore (Local t x) (Global g) = ⊥
VariableBefore (Local t x) (Local u y) = (t < u) ⊎ ((t ≡ u) × (x < y))

abbrev pub FieldBefore : Field → Field → Type 0
FieldBefore f g = (f.of < g.of) ⊎ ((f.of ≡ g.of) × (f.number < g.number))

-- field by field, and a list before those that go on from it
abbrev pub FieldsBefore : List Field → List Field → Type 0
FieldsBefore fs [] = ⊥
FieldsBefore [] (g ∷ gs) = ⊤
FieldsBefore (f ∷ fs) (g ∷ gs) = FieldBefore f g ⊎ ((f ≡ g) × FieldsBefore fs gs)

-- by the variable, then by the fields
abbrev pub PathBefore : PathView → PathView → Type 0
PathBefore p q = VariableBefore (base_of p) (base_of q)
    ⊎ ((base_of p ≡ base_of q) × FieldsBefore (fields_of p) (fields_of q))

abbrev pub EffectBefore : Effect → Effect → Type 0
EffectBefore effect.Read effect.Write = ⊤
EffectBefore effect.Read effect.Read = ⊥
EffectBefore effect.Write e = ⊥

-- to read, to write, to make
abbrev pub RightBefore : Right → Right → Type 0
RightBefore right.Read right.Read = ⊥
RightBefore right.Read right.Write = ⊤
RightBefore right.Read right.Make = ⊤
RightBefore right.Write right.Read = ⊥
RightBefore right.Write right.Write = ⊥
RightBefore right.Write right.Make = ⊤
RightBefore right.Make r = ⊥

-- the lock on all; class locks by class and then by right; then path locks by path and then by effect
abbrev pub LockBefore : Lock → Lock → Type 0
LockBefore lock.All lock.All = ⊥
LockBefore lock.All (lock.Class d q) = ⊤
LockBefore lock.All (lock.Path q f) = ⊤
LockBefore (lock.Class c r) lock.All = ⊥
LockBefore (lock.Path p e) lock.All = ⊥
LockBefore (lock.Class c r) (lock.Class d q) = (c < d) ⊎ ((c ≡ d) × RightBefore r q)
LockBefore (lock.Class c r) (lock.Path p e) = ⊤
LockBefore (lock.Path p e) (lock.Class c r) = ⊥
LockBefore (lock.Path p e) (lock.Path q f) = PathBefore p q ⊎ ((p ≡ q) × EffectBefore e f)

-- each lock of the list stands before all that follow it
abbrev pub AreInOrder : List Lock → Type 0
AreInOrder [] = ⊤
AreInOrder (l ∷ locks) = ((m : Lock) → Has locks m → LockBefore l m) × AreInOrder locks

-- these are the locks with a property that no other with it covers, in canonical order; they cover all that have it
pub record AreMaximal (s : SchemeView) (Given : Lock → Type 0) (kept : List Lock) : Type 0 where
  pub kept_are : (l : Lock) → Has kept l ↔ (Given l × (IsOutdone s Given l → ⊥))
  pub covering : (l : Lock) → Given l → CoveredBy s kept l
  pub in_order : AreInOrder kept
