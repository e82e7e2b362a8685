-- Lists that are in canonical order and of which no lock covers another are those of their maximal locks.
use Rattle.std.proofs.Common.{◌≡◌, ◌↔◌, List, subst, inl, inr}
use Rattle.sect_lemmas.specs.Lists.{Has}
use Rattle.sect_names.specs.{declared.lock.Lock.{Lock}, Schemes.{SchemeView}, Order.{AreInOrder, AreMaximal}}
use Rattle.sect_names.proofs.shared.{Telling.{lock_cases}, Uniqueness.{same_lists}}
use Rattle.sect_check.specs.Valid.{AreApart}

module _ (s : SchemeView) (keys kept locks : List Lock) (maximal : AreMaximal s (Has keys) kept)
    (same : (l : Lock) → Has keys l ↔ Has locks l) where
  -- the maximal locks lie apart
  apart_kept : AreApart s kept
  apart_kept l big h k covers = elim (lock_cases big l) [
    | inl e ↦ e
    | inr n ↦ absurd (((maximal.kept_are l).0 h).1 (big, ((maximal.kept_are big).0 k).0, covers, n))
  ]

  -- a list whose locks lie apart has no other locks than the maximal ones
  has_kept : AreApart s locks → (l : Lock) → Has locks l → Has kept l
  has_kept apart l h = (maximal.kept_are l).1 ((same l).1 h, λ o. o.3 (apart l o.0 h ((same o.0).0 o.1) o.2))

  -- the maximal locks are the list exactly where it is in order and its locks lie apart
  pub kept_when : (kept ≡ locks) ↔ (AreInOrder locks × AreApart s locks)
  kept_when = (
    λ e. (subst AreInOrder e maximal.in_order, subst (AreApart s) e apart_kept),
    λ h. same_lists kept locks maximal.in_order h.0 (λ l k. (same l).0 ((maximal.kept_are l).0 k).0) (has_kept h.1),
  )
