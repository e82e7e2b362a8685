-- What locks name is there.
use Rattle.std.proofs.Common.{◌≡◌, ℕ, ◌<◌, inl, inr, List, [], ◌∷◌, length, get_or, subst}
use Rattle.sect_lemmas.specs.Lists.{Has}
use Rattle.sect_types.specs.{Programs.{ProgramView}, declared.expansion.action.Field.{Field}}
use Rattle.sect_lemmas.proofs.Membership.{Has-cases, Has-get_or}
use Rattle.sect_points.specs.Paths.{PathView, var, dot, base_of, fields_of}
use Rattle.sect_names.specs.{declared.lock.Lock.{Lock}, Schemes.{SchemeView}}
use Rattle.sect_names.specs.{Locks.{IsVariable, IsField, IsPathOf, IsLockOf}, Printing.{IsNamed}}
use Rattle.sect_names.proofs.shared.Sounding.{path_there}
use Rattle.sect_names.specs.declared.lock.Lock.TheVariants as lock

-- a lock of the program names what is there
pub named_lock : (s : SchemeView) (t : ℕ) (l : Lock) → IsLockOf s t l → IsNamed s.program l
named_lock s t lock.All is = tt
named_lock s t (lock.Class c r) is = tt
named_lock s t (lock.Path q e) is = path_there s.program q is.of is.refers

pub base_there : (p : ProgramView) (q : PathView) → IsPathOf p q → IsVariable p (base_of q)
base_there p (var v) is = is
base_there p (dot q f) is = base_there p q is.0

pub field_there : (p : ProgramView) (q : PathView) (f : Field) → IsPathOf p q → Has (fields_of q) f → IsField p f
field_there p (var v) f is has = absurd has
field_there p (dot q g) f is has = elim (Has-cases (fields_of q) (g ∷ []) f has) [
  | inl a ↦ field_there p q f is.0 a
  | inr b ↦ elim b [ inl e ↦ subst (IsField p) e is.1 | inr none ↦ absurd none ]
]

-- each item of a list of the path's fields
pub item_there : (p : ProgramView) (q : PathView) (fs : List Field) → fs ≡ fields_of q → IsPathOf p q
    → (i : ℕ) (d : Field) → i < length fs → IsField p (get_or fs i d)
item_there p q fs are is i d lt =
    field_there p q (get_or fs i d) is (subst (λ (xs : List Field). Has xs (get_or fs i d)) are (Has-get_or fs i d lt))
