-- What a statement needs of itself, as it is found.
use Rattle.std.proofs.Common.{◌≡◌, ◌↔◌, ℕ, Option, Some, None, sym, ap}
use Rattle.sect_points.specs.{declared.holders.Variable.{Variable}, Paths.{var}, Partitions.{HasClass}}
use Rattle.sect_names.specs.{declared.lock.Effect.{Effect}, declared.lock.Lock.{Lock}, Schemes.{SchemeView, guard_of}}
use Rattle.sect_names.specs.Carrying.{Accesses, locked_for}
use Rattle.sect_names.specs.declared.lock.Lock.TheVariants as lock

pub no_access : (s : SchemeView) (v : Variable) (r : ℕ) (e : Effect) (o : Option ℕ)
    → ((n : ℕ) → (o ≡ Some n) ↔ HasClass s.classes (var v) n) → o ≡ None → (l : Lock)
    → (None ≡ Some l) ↔ Accesses s v r e l
no_access s v r e o tells is l = (λ h. absurd cc, λ h. let t = (tells h.0.0).1 h.0.1 in absurd cc)

pub an_access : (s : SchemeView) (v : Variable) (r : ℕ) (e : Effect) (o : Option ℕ) (n : ℕ)
    → ((n : ℕ) → (o ≡ Some n) ↔ HasClass s.classes (var v) n) → o ≡ Some n → (l : Lock)
    → (Some (lock.Path (var (locked_for (guard_of s.guards r) v)) e) ≡ Some l) ↔ Accesses s v r e l
an_access s v r e o n tells is l = (
  λ h. ((n, (tells n).0 is), let q : l ≡ lock.Path (var (locked_for (guard_of s.guards r) v)) e = cc in q),
  λ h. ap (λ x. Some x) (sym h.1),
)
