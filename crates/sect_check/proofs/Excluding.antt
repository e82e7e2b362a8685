-- A valid section has no fault.
use Rattle.std.proofs.Common.{◌≢◌, ℕ, List, arith, refl, sym, ◌∙◌, subst, inl, inr}
use Rattle.sect_graph.specs.declared.flow.Node.{Node}
use Rattle.sect_names.specs.{declared.lock.Lock.{Lock}, Schemes.{SchemeView}}
use Rattle.sect_check.specs.{declared.claims.Claims.{Claims}, declared.claims.ChainClaim.{ChainClaim}}
use Rattle.sect_check.specs.{declared.fault.SectionFault.{SectionFault}, Valid.{IsValidSection}}
use Rattle.sect_check.specs.Faults.{IsFaultOf, IsStepRight}
use Rattle.sect_check.specs.steps.Shapes.{DoRise}
use Rattle.sect_lemmas.proofs.Places.{at_of}
use Rattle.sect_check.proofs.{Numbering.{one_number}, Stepping.{steps_right}}
use Rattle.sect_check.specs.declared.fault.SectionFault.TheVariants as fault

module _ (s : SchemeView) (t : ℕ) (last : List Lock) (g : List Node) (c : Claims) (v : IsValidSection s t last g c)
    (rise : DoRise c.chains) where
  -- none of its faults is there
  pub no_fault : (f : SectionFault) → f ≢ fault.Memory → IsFaultOf s t last g c f → ⊥
  no_fault fault.Memory some h = some refl
  no_fault (fault.NotGenerated j) some h = h.0 (v.generated j)
  no_fault (fault.NotCarried i j) some h = h.1.0.0 (v.carried i j)
  no_fault fault.EntryNotCovered some h = h.1 v.entry
  no_fault fault.NotMaximal some h = h.2 (v.in_order, v.apart)
  no_fault (fault.NoChain n) some h =
      let l = at_of c.entry n h.1.0 in
      let has = v.chains n l.0 l.1 in
      h.1.2 has.0 has.1
  no_fault (fault.BrokenChain n i) some h = elim h.1.1 [
    | inl b ↦
        let has = v.chains n b.0 b.1 in
        let broken = b.2 in
        let same = one_number c.chains rise has.0 broken.0 has.1.0 broken.1.0 (has.1.1 ∙ sym broken.1.1) in
        broken.2.0 (subst (λ (x : ChainClaim). (m : ℕ) → IsStepRight s t last g b.0 x.links m) same
        (steps_right s t last g b.0 has.0.links has.2) i)
    | inr b ↦ (let x = b.0.claimed in let low = v.no_others x.0 x.1.0 in omega (arith, low, b.0.past, x.1.1))
  ]
