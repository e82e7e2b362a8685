-- The locks that are kept are the maximal ones.
use Rattle.std.proofs.Common.{◌≡◌, ◌↔◌, ◌⊎◌, inl, inr, ℕ, zero, suc, ◌+◌, ◌<◌, ◌≤◌, List, refl, ap, ◌∙◌, arith}
use Rattle.sect_types.specs.Statements.{TextView}
use Rattle.sect_names.specs.{declared.lock.Right.{Right}, declared.lock.Lock.{Lock}, Schemes.{SchemeView}}
use Rattle.sect_names.specs.{Locks.{Covers, IsOutdone}, Needed.{IsNeeded, IsLeast}, Order.{AreMaximal}}
use Rattle.sect_names.proofs.shared.{Covering.{covers_refl, covers_trans}, Telling.{lock_cases}}
use Rattle.sect_names.specs.declared.lock.Effect.TheVariants as effect
use Rattle.sect_names.specs.declared.lock.Right.TheVariants as right
use Rattle.sect_names.specs.declared.lock.Lock.TheVariants as lock

-- how high a lock stands: another that covers it stands higher
rank : Lock → ℕ
rank (lock.Path p effect.Read) = 0
rank (lock.Path p effect.Write) = 1
rank (lock.Class c right.Read) = 2
rank (lock.Class c right.Make) = 2
rank (lock.Class c right.Write) = 3
rank lock.All = 4

rank-most : (l : Lock) → rank l ≤ 4
unfolding rank
rank-most (lock.Path p effect.Read) = omega arith
rank-most (lock.Path p effect.Write) = omega arith
rank-most (lock.Class c right.Read) = omega arith
rank-most (lock.Class c right.Make) = omega arith
rank-most (lock.Class c right.Write) = omega arith
rank-most lock.All = omega arith

class_climbs : (c d : ℕ) (r q : Right) → c ≡ d → (lock.Class c r ≡ lock.Class d q → ⊥) → r ≡ q → ⊥
class_climbs c d r q e n f = n (ap (λ k. lock.Class k r) e ∙ ap (lock.Class d) f)

climbs : (s : SchemeView) (big l : Lock) → Covers s big l → (big ≡ l → ⊥) → rank l < rank big
unfolding rank
climbs s lock.All lock.All h n = absurd (n refl)
climbs s lock.All (lock.Path q effect.Read) h n = omega arith
climbs s lock.All (lock.Path q effect.Write) h n = omega arith
climbs s lock.All (lock.Class d right.Read) h n = omega arith
climbs s lock.All (lock.Class d right.Write) h n = omega arith
climbs s lock.All (lock.Class d right.Make) h n = omega arith
climbs s (lock.Path p e) lock.All h n = absurd h
climbs s (lock.Class c r) lock.All h n = absurd h
climbs s (lock.Path p effect.Read) (lock.Path q effect.Read) h n = absurd (n (ap (λ o. lock.Path o effect.Read) h.0))
climbs s (lock.Path p effect.Read) (lock.Path q effect.Write) h n = absurd h.1
climbs s (lock.Path p effect.Write) (lock.Path q effect.Read) h n = omega arith
climbs s (lock.Path p effect.Write) (lock.Path q effect.Write) h n = absurd (n (ap (λ o. lock.Path o effect.Write) h.0))
climbs s (lock.Path p e) (lock.Class d q) h n = absurd h
climbs s (lock.Class c right.Read) (lock.Path q effect.Read) h n = omega arith
climbs s (lock.Class c right.Read) (lock.Path q effect.Write) h n = absurd h.1
climbs s (lock.Class c right.Make) (lock.Path q f) h n = absurd h.1
climbs s (lock.Class c right.Write) (lock.Path q effect.Read) h n = omega arith
climbs s (lock.Class c right.Write) (lock.Path q effect.Write) h n = omega arith
climbs s (lock.Class c right.Read) (lock.Class d right.Read) h n =
    absurd (class_climbs c d right.Read right.Read h.0 n refl)
climbs s (lock.Class c right.Read) (lock.Class d right.Write) h n = absurd h.1
climbs s (lock.Class c right.Read) (lock.Class d right.Make) h n = absurd h.1
climbs s (lock.Class c right.Make) (lock.Class d right.Make) h n =
    absurd (class_climbs c d right.Make right.Make h.0 n refl)
climbs s (lock.Class c right.Make) (lock.Class d right.Read) h n = absurd h.1
climbs s (lock.Class c right.Make) (lock.Class d right.Write) h n = absurd h.1
climbs s (lock.Class c right.Write) (lock.Class d right.Read) h n = omega arith
climbs s (lock.Class c right.Write) (lock.Class d right.Make) h n = omega arith
climbs s (lock.Class c right.Write) (lock.Class d right.Write) h n =
    absurd (class_climbs c d right.Write right.Write h.0 n refl)

-- above each lock with one property stands one with another, where each of the first has the second or is outdone
module _ (s : SchemeView) (Given Kept : Lock → Type 0) (told : (x : Lock) → Given x → Kept x ⊎ IsOutdone s Given x)
  where
    climb : (n : ℕ) (l : Lock) → 4 ≤ rank l + n → Given l → (big : Lock) × Kept big × Covers s big l
    climb zero l high h = elim (told l h) [
      | inl k ↦ (l, k, covers_refl s l)
      | inr out ↦ absurd (omega (arith, high, climbs s out.0 l out.2 out.3, rank-most out.0))
    ]
    climb (suc n) l high h = elim (told l h) [
      | inl k ↦ (l, k, covers_refl s l)
      | inr out ↦
          let over = climb n out.0 (omega (arith, high, climbs s out.0 l out.2 out.3)) out.1 in
          (over.0, over.1, covers_trans s over.0 out.0 l over.2 out.2)
    ]

    pub covered : (l : Lock) → Given l → (big : Lock) × Kept big × Covers s big l
    covered l h = climb 4 l (omega arith) h

-- the maximal locks with a property are those with another that says the same
pub maximal_as : (s : SchemeView) (P Q : Lock → Type 0) (kept : List Lock) → ((l : Lock) → P l ↔ Q l)
    → AreMaximal s P kept → AreMaximal s Q kept
maximal_as s P Q kept same max = record {
  kept_are = λ l. (
    λ h. (let m = (max.kept_are l).0 h in ((same l).0 m.0, λ out. m.1 (out.0, (same out.0).1 out.1, out.2, out.3))),
    λ h. (max.kept_are l).1 ((same l).1 h.0, λ out. h.1 (out.0, (same out.0).0 out.1, out.2, out.3)),
  );
  covering = λ l q. max.covering l ((same l).1 q);
  in_order = max.in_order;
}

-- the maximal ones of the locks that a section needs are its least set
pub maximal_least : (s : SchemeView) (t : ℕ) (last : List Lock) (body : TextView) (kept : List Lock)
    → AreMaximal s (IsNeeded s t last body) kept → IsLeast s t last body kept
maximal_least s t last body kept max = record {
  protects = max.covering;
  least = λ others protects l h. protects l ((max.kept_are l).0 h).0;
  apart = λ l big h k c. elim (lock_cases big l) [
    | inl e ↦ e
    | inr n ↦ absurd (((max.kept_are l).0 h).1 (big, ((max.kept_are big).0 k).0, c, n))
  ];
}
