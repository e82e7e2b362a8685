-- What the steps of a chain need, and where the last stands.
use Rattle.std.proofs.Common.{◌≡◌, ◌<◌, ℕ, zero, suc, List, [], ◌∷◌, length, Some, refl, sym, ◌∙◌, subst, inl, inr}
use Rattle.std.proofs.lemmas.Option.{slice_get_within}
use Rattle.std.specs.Prelude.{slice_get}
use Rattle.sect_lemmas.specs.Lists.{Has}
use Rattle.sect_graph.specs.declared.flow.Node.{Node}
use Rattle.sect_points.specs.{Paths.{PathView}, Partitions.{HasClass}}
use Rattle.sect_names.specs.{declared.link.Link.{Link}, declared.lock.Effect.{Effect}, declared.lock.Lock.{Lock}}
use Rattle.sect_names.specs.{Schemes.{SchemeView}, Locks.{depth}, Records.{IsNeedable}}
use Rattle.sect_names.specs.{Carrying.{Generated, CarriedBack, Before}, Chains.{AreLinked, LinksTo}}
use Rattle.sect_warnings.specs.ClassLocks.{class_lock}
use Rattle.sect_names.specs.declared.lock.Lock.TheVariants as lock

module _ (s : SchemeView) (t : ℕ) (last : List Lock) (g : List Node) (ended : (l : Lock) → Has last l → lock.All ≡ l)
  where
    -- where a chain is of another lock than that on all, its last step stands at a node
    pub last_stands : (a : Link) (links : List Link) → (a.lock ≡ lock.All → ⊥) → AreLinked s t last g a links
        → (x : Link) × (slice_get (a ∷ links) (length links) ≡ Some x) × (x.node < length g)
    last_stands a [] not (inl (x, at, made)) = (a, refl, slice_get_within g a.node x at)
    last_stands a [] not (inr (exit, has)) = absurd (not (sym (ended a.lock has)))
    last_stands a (b ∷ links) not (to, rest) =
        last_stands b links
        (λ all. not (subst (λ m. CarriedBack s t to.0.label m a.lock) all to.3)) rest

    module _ (generated : (j : ℕ) (y : Node) → slice_get g j ≡ Some y → (l : Lock) → Generated s t y.label l
        → IsNeedable s t l)
        (carried : (j : ℕ) (y : Node) → slice_get g j ≡ Some y → (l r : Lock) → IsNeedable s t l
        → CarriedBack s t y.label l r → IsNeedable s t r)
      where
        first_needable : (a : Link) (links : List Link) → AreLinked s t last g a links → IsNeedable s t a.lock
        first_needable a [] (inl (x, at, made)) = generated a.node x at a.lock made
        first_needable a [] (inr (exit, has)) = subst (IsNeedable s t) (ended a.lock has) tt
        first_needable a (b ∷ links) (to, rest) =
            carried a.node to.0 to.1 b.lock a.lock (first_needable b links rest) to.3

        -- each step has a lock that the thread may come to need
        pub all_needable : (a : Link) (links : List Link) → AreLinked s t last g a links → (k : ℕ) (b : Link)
            → slice_get (a ∷ links) k ≡ Some b → IsNeedable s t b.lock
        all_needable a links linked zero b at =
            let same : a ≡ b = cc in
            subst (λ (x : Link). IsNeedable s t x.lock) same (first_needable a links linked)
        all_needable a [] linked (suc k) b at = absurd cc
        all_needable a (c ∷ links) linked (suc k) b at = all_needable c links linked.1 k b at

-- the path on which the lock of the second of two steps is has become one of more than k fields, which is of the class
-- that the first locks
pub turned : (s : SchemeView) (t : ℕ) (g : List Node) (n : ℕ) (e f : Effect) (here next : Link) (p : PathView)
    → LinksTo s t g here next → here.lock ≡ class_lock n e → next.lock ≡ lock.Path p f
    → (x : Node) × (slice_get g here.node ≡ Some x)
    × ((q : PathView) × Before s.classes t x.label p q × HasClass s.classes q n × (s.most < depth q))
turned s t g n e f here next p (x, at, leads, back) is on =
    let carried : CarriedBack s t x.label (lock.Path p f) here.lock =
    subst (λ m. CarriedBack s t x.label m here.lock) on back in (
      x,
      at,
      elim carried.2.2 [
        | inl short ↦ absurd (let not : class_lock n e ≡ lock.Path carried.0 f = sym is ∙ short.1 in cc)
        | inr long ↦ (let same : carried.2.0 ≡ n = cc in
            (carried.0, carried.1, subst (HasClass s.classes carried.0) same carried.2.1, long.0))
      ],
    )
