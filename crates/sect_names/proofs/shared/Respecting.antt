-- Carrying back respects covering.
use Rattle.std.proofs.Common.{◌≡◌, ℕ, refl, sym, subst, inl, inr}
use Rattle.sect_types.specs.declared.expansion.action.Label.{Label}
use Rattle.sect_points.specs.{Paths.{PathView}, Partitions.{HasClass}}
use Rattle.sect_names.specs.{declared.lock.Effect.{Effect}, declared.lock.Right.{Right}, declared.lock.Lock.{Lock}}
use Rattle.sect_names.specs.{Schemes.{SchemeView, IsScheme}, Locks.{Allows, Grants, Includes, Covers}}
use Rattle.sect_names.specs.{Carrying.{Before, LockOn, right_for}, Laws.{IsProgramStep, KeepsItsClass, RespectsCover}}
use Rattle.sect_names.proofs.Keeping.{keeps_its_class}
use Rattle.sect_names.specs.declared.lock.Effect.TheVariants as effect
use Rattle.sect_names.specs.declared.lock.Right.TheVariants as right
use Rattle.sect_names.specs.declared.lock.Lock.TheVariants as lock

-- the rights that effects ask for are as the effects
rights_allow : (e f : Effect) → Allows e f → Includes (right_for e) (right_for f)
rights_allow effect.Write f h = tt
rights_allow effect.Read effect.Read h = tt
rights_allow effect.Read effect.Write h = absurd h

-- a right that grants an effect takes in the one that the effect asks for
rights_grant : (r : Right) (f : Effect) → Grants r f → Includes r (right_for f)
rights_grant right.Write f h = tt
rights_grant right.Read effect.Read h = tt
rights_grant right.Read effect.Write h = absurd h
rights_grant right.Make f h = absurd h

-- of the locks on one path, that with the effect which allows more covers the other
cover_on : (s : SchemeView) (e f : Effect) (q : PathView) (r : Lock) → Allows e f → LockOn s f q r
    → (over : Lock) × LockOn s e q over × Covers s over r
cover_on s e f q r allows (n, class, limit) = elim limit [
  | inl (short, is) ↦ (
    lock.Path q e,
    (n, class, inl (short, refl)),
    subst (Covers s (lock.Path q e)) (sym is) (refl, allows),
  )
  | inr (long, is) ↦ (
    lock.Class n (right_for e),
    (n, class, inr (long, refl)),
    subst (Covers s (lock.Class n (right_for e))) (sym is) (refl, rights_allow e f allows),
  )
]

-- a lock on a class covers the lock on a path of that class
class_covers : (s : SchemeView) (c : ℕ) (r : Right) (f : Effect) (q : PathView) (l : Lock)
    → ((n : ℕ) → HasClass s.classes q n → n ≡ c) → Grants r f → LockOn s f q l → Covers s (lock.Class c r) l
class_covers s c r f q l same grants (n, class, limit) = elim limit [
  | inl (short, is) ↦ subst (Covers s (lock.Class c r)) (sym is)
      (subst (HasClass s.classes q) (same n class) class, grants)
  | inr (long, is) ↦ subst (Covers s (lock.Class c r)) (sym is) (sym (same n class), rights_grant r f grants)
]

pub respects : (s : SchemeView) (t : ℕ) (step : Label) → KeepsItsClass s t step → RespectsCover s t step
respects s t step keeps l lock.All r covers is = (lock.All, refl, tt)
respects s t step keeps lock.All (lock.Path q e) r covers is = absurd covers
respects s t step keeps lock.All (lock.Class d q) r covers is = absurd covers
respects s t step keeps (lock.Path p f) (lock.Path q e) r (same, allows) (x, before, on) =
    let over = cover_on s e f x r allows on in
    (over.0, (x, subst (λ z. Before s.classes t step z x) (sym same) before, over.1), over.2)
respects s t step keeps (lock.Path p f) (lock.Class c w) r (class, grants) (x, before, on) =
    (lock.Class c w, refl, class_covers s c w f x r (λ n h. keeps p x before n c h class) grants on)
respects s t step keeps (lock.Class d q) (lock.Path p e) r covers is = absurd covers
respects s t step keeps (lock.Class d q) (lock.Class c w) r covers is =
    (lock.Class c w, refl, subst (Covers s (lock.Class c w)) (sym is) covers)

pub respects_cover : (s : SchemeView) → IsScheme s → (t : ℕ) (step : Label) → IsProgramStep s t step
    → RespectsCover s t step
respects_cover s scheme t step there = respects s t step (keeps_its_class s scheme t step there)
