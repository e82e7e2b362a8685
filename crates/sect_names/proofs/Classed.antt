-- The class of a path, as it is looked up.
use Rattle.std.proofs.Common.{◌≡◌, ℕ, ◌<◌, ◌↔◌, Option, Some, None, IfSome, IfNone, ap, subst, arith}
use Rattle.std.proofs.lemmas.Option.{slice_get_within}
use Rattle.sect_points.specs.{Paths.{PathView, PathHas}, Sets.{InSets}, Partitions.{ClassesView, IsParted, HasClass}}
use Rattle.sect_points.specs.PathClasses.{ArePathClasses}

pub class_tells : (c : ClassesView) (p : PathView) → IsParted c → ArePathClasses c → (r : Option ℕ)
    → IfSome r (HasClass c p) → IfNone r ((site : ℕ) → site < c.sets.sites → PathHas (InSets c.sets) p site → ⊥)
    → (n : ℕ) → (r ≡ Some n) ↔ HasClass c p n
class_tells c p k a None some none n = (
  λ e. absurd cc,
  λ h. absurd (none h.0 (let w = slice_get_within c.numbers h.0 n h.2 in let e = k.sites in
      omega arith) h.1),
)
class_tells c p k a (Some m) some none n =
    (λ e. subst (HasClass c p) (let q : m ≡ n = cc in q) some, λ h. ap (λ x. Some x) (a.one p m n some h))
