-- Locks have one list of first chains.
use Rattle.std.proofs.Common.{◌≡◌, ℕ, List, [], ◌∷◌, inl, inr, refl, sym, ap, ◌∙◌, subst, arith}
use Rattle.sect_graph.specs.declared.flow.Node.{Node}
use Rattle.sect_names.specs.{declared.link.Link.{Link}, declared.lock.Lock.{Lock}, Schemes.{SchemeView}}
use Rattle.sect_names.proofs.shared.Uniqueness.{lock_once}
use Rattle.sect_chains.specs.Chains.{StepBefore, StepsBefore, IsFirstChain, AreChains}

-- steps stand before others one way only
step_once : (a b : Link) → StepBefore a b → StepBefore b a → ⊥
step_once a b (inl h) (inl k) = omega (arith, h, k)
step_once a b (inl h) (inr k) = omega (arith, h, k.0)
step_once a b (inr h) (inl k) = omega (arith, h.0, k)
step_once a b (inr h) (inr k) = lock_once a.lock b.lock h.1 k.1

steps_not : (xs : List Link) → StepsBefore xs xs → ⊥
steps_not [] h = h
steps_not (a ∷ xs) (inl h) = steps_not xs h
steps_not (a ∷ xs) (inr h) = step_once a a h.1 h.1

pub steps_once : (xs ys : List Link) → StepsBefore xs ys → StepsBefore ys xs → ⊥
steps_once [] [] h k = h
steps_once [] (b ∷ ys) h k = k
steps_once (a ∷ xs) [] h k = h
steps_once (a ∷ xs) (b ∷ ys) (inl h) (inl k) = steps_once xs ys h k
steps_once (a ∷ xs) (b ∷ ys) (inl h) (inr k) = steps_not xs (subst (StepsBefore xs) k.0 h)
steps_once (a ∷ xs) (b ∷ ys) (inr h) (inl k) = steps_not ys (subst (StepsBefore ys) h.0 k)
steps_once (a ∷ xs) (b ∷ ys) (inr h) (inr k) = step_once a b h.1 k.1

module _ (s : SchemeView) (t : ℕ) (last : List Lock) (g : List Node) where
  chain_one : (l : Lock) (xs ys : List Link) → IsFirstChain s t last g l xs → IsFirstChain s t last g l ys → xs ≡ ys
  chain_one l xs ys a b = elim (a.first ys b.is) [
    | inl e ↦ sym e
    | inr h ↦ elim (b.first xs a.is) [ inl e ↦ e | inr k ↦ absurd (steps_once xs ys h k) ]
  ]

  -- two lists of chains of the same locks are one
  pub chains_one : (locks : List Lock) (cs ds : List (List Link)) → AreChains s t last g locks cs
      → AreChains s t last g locks ds → cs ≡ ds
  chains_one [] [] [] a b = refl
  chains_one [] [] (d ∷ ds) a b = absurd b
  chains_one [] (c ∷ cs) ds a b = absurd a
  chains_one (l ∷ locks) [] ds a b = absurd a
  chains_one (l ∷ locks) (c ∷ cs) [] a b = absurd b
  chains_one (l ∷ locks) (c ∷ cs) (d ∷ ds) a b =
      ap (λ z. z ∷ cs) (chain_one l c d a.0 b.0) ∙ ap (λ z. d ∷ z) (chains_one locks cs ds a.1 b.1)
