-- Steps of chains as they are written.
use Rattle.std.proofs.Common.{◌≡◌, ◌<◌, ℕ, ◌+◌, List, [], ◌∷◌, ◌++◌, Some, length, map, get_or, codes, sym, ap, subst}
use Rattle.std.proofs.{Common.{◌∙◌, arith, inl, inr}, lemmas.Option.{slice_get_within, slice_get-map, slice_get-get_or}}
use Rattle.std.specs.{Prelude.{slice_get, option_map, Vec}, declared.alloc.Global.{Global}}
use Rattle.serde_json.specs.{Data.{string}, Written.{compact_text}}
use Rattle.sect_lemmas.specs.Lists.{Has}
use Rattle.sect_lemmas.proofs.Places.{pushed_at}
use Rattle.sect_graph.specs.declared.flow.Node.{Node}
use Rattle.sect_names.specs.{declared.link.Link.{Link}, declared.lock.Lock.{Lock}}
use Rattle.sect_names.specs.{Chains.{IsGeneratedAt, AreLinked, IsChain}, Schemes.{SchemeView}}
use Rattle.sect_chains.specs.Chains.{AreChains}
use Rattle.sect_emit.specs.{Compiled.{CompiledView, program_of}, Explaining.{section_deed}}
use Rattle.sect_json.specs.{Values.{count, list}, Explaining.{step_json, chain_json}, Locks.{lock_json}}
use Rattle.sect_json.specs.steps.Stepping.{step_tail, AreStepTails, AreStepsBelow}
use Rattle.sect_json.proofs.Texts.{parts_written, head_and_tail, alone_written, lock_begins, steps_begins}

-- one node more
pub one_more_tail : (c : CompiledView) (i n : ℕ) (tails more : List (List ℕ)) (tail : List ℕ) → AreStepTails c i tails
    → length tails ≡ n → tail ≡ step_tail c i n → more ≡ tails ++ tail ∷ [] → AreStepTails c i more
one_more_tail c i n tails more tail had many is pushed m t at =
    elim (pushed_at tails tail t m (subst (λ ts. slice_get ts m ≡ Some t) pushed at)) [
      | inl e ↦ sym e.1 ∙ (is ∙ ap (step_tail c i) (sym (e.0 ∙ many)))
      | inr before ↦ had m t before
    ]

-- what stands behind the lock of a step at a node
pub tail_told : (c : CompiledView) (i : ℕ) (tails : List (Vec ℕ Global)) (n : ℕ) (x : Vec ℕ Global)
    → AreStepTails c i (map (λ v. v.items) tails) → n < length tails
    → (get_or tails n x).items ≡ step_tail c i n
tail_told c i tails n x are within =
    are n (get_or tails n x).items (slice_get-map (λ v. v.items) tails n
    ∙ ap (option_map (λ v. v.items)) (slice_get-get_or tails n x within))

-- a step behind others
pub step_written : (c : CompiledView) (i : ℕ) (a : Link) (tail old first second new : List ℕ)
    → first ≡ old ++ codes "{\"lock\":" → second ≡ first ++ compact_text (lock_json (program_of c).source a.lock)
    → new ≡ second ++ tail → tail ≡ step_tail c i a.node → new ≡ old ++ compact_text (step_json c i a)
step_written c i a tail old first second new e f g is =
    let lock = lock_json (program_of c).source a.lock in
    parts_written (codes "{\"lock\":") (compact_text lock) tail old first second new e f g
    ∙ (ap (λ r. old ++ (codes "{\"lock\":" ++ (compact_text lock ++ r))) is
    ∙ (ap (λ r. old ++ (r ++ (compact_text lock ++ step_tail c i a.node))) (sym lock_begins)
    ∙ ap (λ r. old ++ r) (sym (head_and_tail (codes "lock") (codes "node") lock (count a.node)
    ((codes "text", string (section_deed c i a.node)) ∷ [])))))

-- a chain behind others
pub chain_written : (c : CompiledView) (i : ℕ) (links : List Link) (old first second new : List ℕ)
    → first ≡ old ++ codes "{\"steps\":" → second ≡ first ++ compact_text (list (map (step_json c i) links))
    → new ≡ second ++ 125 ∷ [] → new ≡ old ++ compact_text (chain_json c i links)
chain_written c i links old first second new e f g =
    let steps = list (map (step_json c i) links) in
    parts_written (codes "{\"steps\":") (compact_text steps) (125 ∷ []) old first second new e f g
    ∙ (ap (λ r. old ++ (r ++ (compact_text steps ++ 125 ∷ []))) (sym steps_begins)
    ∙ ap (λ r. old ++ r) (sym (alone_written (codes "steps") steps)))

module _ (s : SchemeView) (t : ℕ) (last : List Lock) (g : List Node) where
  generated_below : (a : Link) → IsGeneratedAt s t last g a → a.node < length g + 1
  generated_below a (inl (x, at, made)) = let w = slice_get_within g a.node x at in omega (arith, w)
  generated_below a (inr (exit, has)) = omega (arith, exit)

  -- the first step stands at a node or at the exit
  first_below : (a : Link) (links : List Link) → AreLinked s t last g a links → a.node < length g + 1
  first_below a [] made = generated_below a made
  first_below a (b ∷ links) linked =
      let w = slice_get_within g a.node linked.0.0 linked.0.1 in omega (arith, w)

  -- so do all
  all_below : (a : Link) (links : List Link) → AreLinked s t last g a links
      → AreStepsBelow (length g + 1) (a ∷ links)
  all_below a links linked b (inl is) = subst (λ (x : Link). x.node < length g + 1) is (first_below a links linked)
  all_below a [] linked b (inr none) = absurd none
  all_below a (d ∷ links) linked b (inr has) = all_below d links linked.1 b has

  chain_below : (l : Lock) (links : List Link) → IsChain s t last g l links → AreStepsBelow (length g + 1) links
  chain_below l [] chain = absurd chain
  chain_below l (a ∷ links) chain = all_below a links chain.1

  -- each step of the chains of a section stands at a node or at the exit
  pub chains_below : (locks : List Lock) (chains : List (List Link)) → AreChains s t last g locks chains
      → (links : List Link) → Has chains links → AreStepsBelow (length g + 1) links
  chains_below [] [] are links none = absurd none
  chains_below [] (x ∷ chains) are links has = absurd are
  chains_below (l ∷ locks) [] are links none = absurd none
  chains_below (l ∷ locks) (x ∷ chains) are links (inl is) =
      subst (AreStepsBelow (length g + 1)) is (chain_below l x are.0.is)
  chains_below (l ∷ locks) (x ∷ chains) are links (inr has) = chains_below locks chains are.1 links has
