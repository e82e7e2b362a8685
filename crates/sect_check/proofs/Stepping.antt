-- The steps of a claimed chain.
use Rattle.std.proofs.Common.{◌≡◌, ◌↔◌, ℕ, zero, suc, ◌+◌, ◌-◌, ◌<◌, ◌≤◌, List, [], ◌∷◌, Some, Bool, true, length, refl}
use Rattle.std.proofs.Common.{ap, ◌∙◌, subst, arith}
use Rattle.std.specs.Prelude.{slice_get}
use Rattle.sect_graph.specs.declared.flow.Node.{Node}
use Rattle.sect_names.specs.{declared.lock.Lock.{Lock}, declared.link.Link.{Link}, Schemes.{SchemeView}}
use Rattle.sect_names.specs.Chains.{link, LinksTo, IsGeneratedAt, AreLinked, IsChain}
use Rattle.sect_names.proofs.shared.Linking.{same_link}
use Rattle.sect_check.specs.Faults.{ComesRight, EndsRight, IsStepRight}

-- a first step at node 0 begins a chain exactly where its lock is the chain's
pub begins_when : (links : List Link) (a : Link) (l : Lock) (b : Bool) → slice_get links 0 ≡ Some a → a.node ≡ 0
    → ((b ≡ true) ↔ (a.lock ≡ l)) → (b ≡ true) ↔ (slice_get links 0 ≡ Some (link 0 l))
begins_when links a l b at node same = (
  λ t. at ∙ ap (λ z. Some z) (same_link a 0 l node (same.0 t)),
  λ h. (let e : a ≡ link 0 l = cc in same.1 (ap (λ z. z.lock) e)),
)

module _ (s : SchemeView) (t : ℕ) (g : List Node) (links : List Link) (n : ℕ) where
  -- step n is read, and the one before it
  module _ (a b : Link) (past : 0 < n) (before : slice_get links (n - 1) ≡ Some a)
      (here : slice_get links n ≡ Some b) where
    -- a step to which the one before it links comes right
    pub comes_from : LinksTo s t g a b → ComesRight s t g links n
    comes_from to = λ h x y e at_x at_y.
        let k : h ≡ n - 1 = omega (arith, e) in
        let at : slice_get links (n - 1) ≡ Some x = subst (λ m. slice_get links m ≡ Some x) k at_x in
        let first : a ≡ x = cc before in
        let second : b ≡ y = cc here in
        subst (λ z. LinksTo s t g z y) first (subst (LinksTo s t g a) second to)

    -- and only such a one does
    pub comes_to : ComesRight s t g links n → LinksTo s t g a b
    comes_to right = right (n - 1) a b (omega (arith, past)) before here

  -- the first step comes right
  pub comes_first : n ≡ 0 → ComesRight s t g links n
  comes_first e = λ h x y f at_x at_y. absurd (omega (arith, e, f))

  module _ (last : List Lock) where
    -- the last step ends right exactly where its lock is generated
    pub ends_last : (a : Link) → n < length links → length links ≤ n + 1 → slice_get links n ≡ Some a
        → IsGeneratedAt s t last g a ↔ EndsRight s t last g links n
    ends_last a within end at = (
      λ made x e at_x. (let same : a ≡ x = cc at in subst (IsGeneratedAt s t last g) same made),
      λ right. right a (omega (arith, within, end)) at,
    )

module _ (s : SchemeView) (t : ℕ) (last : List Lock) (g : List Node) where
  -- steps that each come and end right are linked
  linked : (a : Link) (links : List Link)
      → ((m : ℕ) → m < length (a ∷ links) → ComesRight s t g (a ∷ links) m × EndsRight s t last g (a ∷ links) m)
      → AreLinked s t last g a links
  linked a [] all = (all 0 (omega arith)).1 a refl refl
  linked a (b ∷ links) all = (
    (all 1 (omega arith)).0 0 a b refl refl refl,
    linked b links (λ m lt. let r = all (suc m) (omega (arith, lt)) in (
      λ h x y e at_x at_y. r.0 (suc h) x y (omega (arith, e)) at_x at_y,
      λ x e at. r.1 x (omega (arith, e)) at,
    )),
  )

  -- so they are a chain where they begin right
  pub chain_when : (l : Lock) (links : List Link) → slice_get links 0 ≡ Some (link 0 l)
      → ((m : ℕ) → m < length links → ComesRight s t g links m × EndsRight s t last g links m)
      → IsChain s t last g l links
  chain_when l [] begins all = absurd cc
  chain_when l (a ∷ links) begins all = (let e : a ≡ link 0 l = cc in e, linked a links all)

  -- each step of a chain is right
  steps_linked : (a : Link) (links : List Link) → AreLinked s t last g a links → (m : ℕ)
      → ComesRight s t g (a ∷ links) m × EndsRight s t last g (a ∷ links) m
  steps_linked a [] made zero = (
    λ h x y e at_x at_y. absurd (omega (arith, e)),
    λ x e at. (let same : a ≡ x = cc in subst (IsGeneratedAt s t last g) same made),
  )
  steps_linked a [] made (suc m) = (λ h x y e at_x at_y. absurd cc, λ x e at. absurd cc)
  steps_linked a (b ∷ links) h zero = (
    λ k x y e at_x at_y. absurd (omega (arith, e)),
    λ x e at. absurd (omega (arith, e)),
  )
  steps_linked a (b ∷ links) h (suc m) =
      let r = steps_linked b links h.1 m in (
        λ k x y e at_x at_y. comes k x y m r e at_x at_y,
        λ x e at. r.1 x (omega (arith, e)) at,
      )
    where
      comes : (k : ℕ) (x y : Link) (m : ℕ) → (ComesRight s t g (b ∷ links) m × EndsRight s t last g (b ∷ links) m)
          → suc m ≡ k + 1 → slice_get (a ∷ b ∷ links) k ≡ Some x → slice_get (b ∷ links) m ≡ Some y → LinksTo s t g x y
      comes zero x y zero r e at_x at_y =
          let first : a ≡ x = cc in
          let second : b ≡ y = cc in
          subst (λ z. LinksTo s t g z y) first (subst (LinksTo s t g a) second h.0)
      comes zero x y (suc m) r e at_x at_y = absurd (omega (arith, e))
      comes (suc k) x y m r e at_x at_y = r.0 k x y (omega (arith, e)) at_x at_y

  -- so is each step of a chain, the first too
  pub steps_right : (l : Lock) (links : List Link) → IsChain s t last g l links → (m : ℕ)
      → IsStepRight s t last g l links m
  steps_right l [] chain m = absurd chain
  steps_right l (a ∷ links) chain m = let r = steps_linked a links chain.1 m in
      (λ e. ap (λ z. Some z) chain.0, r.0, r.1)
