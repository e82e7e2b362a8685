-- The comparisons of paths and locks tell which are one.
use Rattle.std.proofs.Common.{◌≡◌, ◌⊎◌, inl, inr, Bool, true, false, refl, sym, ap, rules, true≢false}
use Rattle.std.proofs.lemmas.Bool.{and_from}
use Rattle.std.specs.{Bool.{Decides}, Cmp.{first_so, second_so}, Cmp.Lexicographic.{pointwise, pointwise_decides}}
use Rattle.sect_types.specs.declared.expansion.action.Field.{Field}
use Rattle.sect_types.specs.contracts.expansion.action.FieldPartialEq.TheImpl.{ghosts as the_field_eq}
use Rattle.sect_points.specs.declared.holders.Variable.{Variable}
use Rattle.sect_points.specs.declared.holders.Variable.TheVariants.{Global, Local}
use Rattle.sect_points.specs.contracts.holders.VariablePartialEq.TheImpl.{ghosts as the_variable_eq}
use Rattle.sect_points.specs.Paths.{PathView, base_of, fields_of}
use Rattle.sect_names.specs.{declared.lock.Lock.{Lock}, contracts.lock.LockPartialEq.TheImpl.{ghosts as the_lock_eq}}
use Rattle.sect_names.specs.{declared.link.Link.{Link}, contracts.link.LinkPartialEq.TheImpl.{ghosts as the_link_eq}}
use Rattle.sect_names.specs.Comparing.{path_eq}
use Rattle.sect_names.proofs.Paths.{same_parts}
use Rattle.sect_names.specs.declared.lock.Lock.TheVariants as lock

pub variable_tells : (v w : Variable) → Decides (the_variable_eq.eq v w) (v ≡ w)
variable_tells (Global g) (Global h) = search rules
variable_tells (Global g) (Local t x) = search rules
variable_tells (Local t x) (Global g) = search rules
variable_tells (Local t x) (Local u y) = search rules

pub field_tells : (f g : Field) → Decides (the_field_eq.eq f g) (f ≡ g)
field_tells f g = search rules

pub path_tells : (p q : PathView) → Decides (path_eq p q) (p ≡ q)
path_tells p q =
    let base = variable_tells (base_of p) (base_of q) in
    let fields = pointwise_decides field_tells (fields_of p) (fields_of q) in (
      λ t. same_parts p q
          (base.0 (first_so (the_variable_eq.eq (base_of p) (base_of q))
          (pointwise the_field_eq.eq (fields_of p) (fields_of q)) t))
          (fields.0 (second_so (the_variable_eq.eq (base_of p) (base_of q))
          (pointwise the_field_eq.eq (fields_of p) (fields_of q)) t)),
      λ e. and_from (the_variable_eq.eq (base_of p) (base_of q)) (pointwise the_field_eq.eq (fields_of p) (fields_of q))
          (base.1 (ap base_of e)) (fields.1 (ap fields_of e)),
    )

pub lock_tells : (l m : Lock) → Decides (the_lock_eq.eq l m) (l ≡ m)
lock_tells lock.All lock.All = search rules
lock_tells lock.All (lock.Class d q) = search rules
lock_tells lock.All (lock.Path q f) = search rules
lock_tells (lock.Class c r) lock.All = search rules
lock_tells (lock.Path p e) lock.All = search rules
lock_tells (lock.Class c r) (lock.Class d q) = search rules
lock_tells (lock.Class c r) (lock.Path q f) = search rules
lock_tells (lock.Path p e) (lock.Class d q) = search rules
lock_tells (lock.Path p e) (lock.Path q f) = search (rules, path_tells)

pub link_tells : (a b : Link) → Decides (the_link_eq.eq a b) (a ≡ b)
link_tells a b = search (rules, lock_tells)

-- two locks are one or not
pub lock_cases : (l m : Lock) → (l ≡ m) ⊎ (l ≡ m → ⊥)
lock_cases l m = go (the_lock_eq.eq l m) (lock_tells l m)
  where
    go : (b : Bool) → Decides b (l ≡ m) → (l ≡ m) ⊎ (l ≡ m → ⊥)
    go true d = inl (d.0 refl)
    go false d = inr (λ e. true≢false (sym (d.1 e)))
