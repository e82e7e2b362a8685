-- The lock on a path, as it is found.
use Rattle.std.proofs.Common.{◌≡◌, ◌↔◌, ℕ, ◌≤◌, ◌<◌, Option, Some, None, sym, ap, ◌∙◌, inl, inr}
use Rattle.std.proofs.lemmas.Bool.{cases_lt}
use Rattle.sect_points.specs.{Paths.{PathView}, Partitions.{HasClass}}
use Rattle.sect_names.specs.{declared.lock.Effect.{Effect}, declared.lock.Lock.{Lock}, Schemes.{SchemeView}}
use Rattle.sect_names.specs.{Locks.{depth}, Carrying.{LockOn, right_for}}
use Rattle.sect_names.specs.declared.lock.Lock.TheVariants as lock

module _ (s : SchemeView) (e : Effect) (p : PathView) (o : Option ℕ)
    (tells : (n : ℕ) → (o ≡ Some n) ↔ HasClass s.classes p n) where
  pub no_lock : o ≡ None → (l : Lock) → (None ≡ Some l) ↔ LockOn s e p l
  no_lock is l = (λ h. absurd cc, λ h. let t = (tells h.0).1 h.1 in absurd cc)

  pub a_lock : (n : ℕ) → o ≡ Some n → (x : Lock) → (depth p ≤ s.most → x ≡ lock.Path p e)
      → (s.most < depth p → x ≡ lock.Class n (right_for e)) → (l : Lock) → (Some x ≡ Some l) ↔ LockOn s e p l
  a_lock n is x short long l = (
    λ h.
        let same : l ≡ x = cc in (
          n,
          (tells n).0 is,
          elim (cases_lt s.most (depth p))
              [ inl deep ↦ inr (deep, same ∙ long deep) | inr flat ↦ inl (flat, same ∙ short flat) ],
        ),
    λ h. elim h.2 [
      | inl a ↦ ap (λ y. Some y) (short a.0 ∙ sym a.1)
      | inr b ↦ (let t = (tells h.0).1 h.1 in let own : n ≡ h.0 = cc in
          ap (λ y. Some y) (long b.0 ∙ ap (λ m. lock.Class m (right_for e)) own ∙ sym b.1))
    ],
  )
