-- What is inferred of a section is a valid claim.
use Rattle.std.proofs.Common.{◌≡◌, ◌⊎◌, ◌↔◌, ℕ, zero, suc, ◌+◌, ◌<◌, ◌≤◌, List, [], ◌∷◌, Some, length, refl, sym, ap}
use Rattle.std.proofs.Common.{◌∙◌, subst, inl, inr, arith}
use Rattle.std.proofs.lemmas.Option.{slice_get_within, slice_get-get_or, get_or_from_slice_get}
use Rattle.std.specs.Prelude.{slice_get, slice_index_or}
use Rattle.sect_lemmas.specs.Lists.{Has}
use Rattle.sect_types.specs.{Statements.{TextView, Stop, Do, Choose, Loop, Section}, Sections.{SectionView}}
use Rattle.sect_types.specs.declared.expansion.action.Label.{Label}
use Rattle.sect_types.specs.declared.expansion.action.Label.TheVariants.{Act, Test, Section as WholeSection}
use Rattle.sect_graph.specs.{declared.flow.Node.{Node}, Graphs.{IsGraphOf}, Paths.{LeadsTo}, Rests.{rest_at, Begins}}
use Rattle.sect_names.specs.{declared.link.Link.{Link}, declared.lock.Lock.{Lock}, Schemes.{SchemeView}}
use Rattle.sect_names.specs.{Locks.{CoveredBy}, Carrying.{CarriedBack}, Needed.{IsNeededFrom}}
use Rattle.sect_names.specs.{Chains.{link, IsGeneratedAt, IsChain}, Walks.{Leads}, Along.{NeededBefore, NeededIn}}
use Rattle.sect_names.proofs.shared.Covering.{covers_refl}
use Rattle.sect_infer.specs.Sets.{LocksView, AreLocksOf}
use Rattle.sect_chains.specs.Chains.{AreChains}
use Rattle.sect_check.specs.{declared.claims.ChainClaim.{ChainClaim}, Valid.{list_at, IsValidSection}}
use Rattle.sect_emit.specs.Claimed.{chain_claims, claims_of}

-- the node leads from what is still to run there to what is still to run at the node to which control goes on
leads : (rest : ℕ → TextView) (x : Node) (k : TextView) → Begins rest x k → (j : ℕ) → LeadsTo x j
    → Leads k x.label (rest j)
leads rest x Stop b j to = absurd b
leads rest x (Do a r) (m, is, at) j to =
    let label : x.label ≡ Act a = ap (λ (y : Node). y.label) is in
    let on : j ≡ m = subst (λ (y : Node). LeadsTo y j) is to in
    (label, ap rest on ∙ at)
leads rest x (Choose t p q r) (m, l, is, yes_at, no_at) j to =
    let label : x.label ≡ Test t = ap (λ (y : Node). y.label) is in (
      label,
      elim (subst (λ (y : Node). LeadsTo y j) is to)
          [ inl e ↦ inl (ap rest e ∙ yes_at) | inr e ↦ inr (ap rest e ∙ no_at) ],
    )
leads rest x (Loop t p r) (m, l, is, yes_at, no_at) j to =
    let label : x.label ≡ Test t = ap (λ (y : Node). y.label) is in (
      label,
      elim (subst (λ (y : Node). LeadsTo y j) is to)
          [ inl e ↦ inl (ap rest e ∙ yes_at) | inr e ↦ inr (ap rest e ∙ no_at) ],
    )
leads rest x (Section i p r) (m, is, at) j to =
    let label : x.label ≡ WholeSection i = ap (λ (y : Node). y.label) is in
    let on : j ≡ m = subst (λ (y : Node). LeadsTo y j) is to in
    (label, ap rest on ∙ at)

-- control goes on from each node
goes : (rest : ℕ → TextView) (x : Node) (k : TextView) → Begins rest x k → (j : ℕ) × LeadsTo x j
goes rest x Stop b = absurd b
goes rest x (Do a r) (m, is, at) = (m, subst (λ (y : Node). LeadsTo y m) (sym is) refl)
goes rest x (Choose t p q r) (m, l, is, yes_at, no_at) = (m, subst (λ (y : Node). LeadsTo y m) (sym is) (inl refl))
goes rest x (Loop t p r) (m, l, is, yes_at, no_at) = (m, subst (λ (y : Node). LeadsTo y m) (sym is) (inl refl))
goes rest x (Section i p r) (m, is, at) = (m, subst (λ (y : Node). LeadsTo y m) (sym is) refl)

module _ (s : SchemeView) (t : ℕ) (last : List Lock) where
  -- each lock has its chain
  has_chain : (g : List Node) (n : ℕ) (locks : List Lock) (chains : List (List Link))
      → AreChains s t last g locks chains → (i : ℕ) (l : Lock) → slice_get locks i ≡ Some l
      → (x : ChainClaim) × Has (chain_claims n chains) x × (x.lock ≡ n + i) × IsChain s t last g l x.links
  has_chain g n [] chains h i l at = absurd cc
  has_chain g n (k ∷ ls) [] h i l at = absurd h
  has_chain g n (k ∷ ls) (c ∷ cs) h zero l at =
      let same : k ≡ l = cc in
      (record { lock = n; links = c }, inl refl, omega arith, subst (λ m. IsChain s t last g m c) same h.0.is)
  has_chain g n (k ∷ ls) (c ∷ cs) h (suc i) l at =
      let r = has_chain g (n + 1) ls cs h.1 i l at in
      (r.0, inr r.1, (let e = r.2 in omega (arith, e)), r.3)

  -- and no chain has another number
  chain_below : (g : List Node) (n : ℕ) (locks : List Lock) (chains : List (List Link))
      → AreChains s t last g locks chains → (x : ChainClaim) → Has (chain_claims n chains) x → x.lock < n + length locks
  chain_below g n [] [] h x has = absurd has
  chain_below g n [] (c ∷ cs) h x has = absurd h
  chain_below g n (k ∷ ls) [] h x has = absurd h
  chain_below g n (k ∷ ls) (c ∷ cs) h x has = elim has [
    | inl e ↦ (let f : n ≡ x.lock = ap (λ (y : ChainClaim). y.lock) e in omega (arith, f))
    | inr m ↦ (let lt = chain_below g (n + 1) ls cs h.1 x m in omega (arith, lt))
  ]

module _ (s : SchemeView) (of : SectionView) (last : List Lock) (g : List Node) (graph : IsGraphOf of.body g)
    (locks : LocksView) (inferred : AreLocksOf s last of g locks)
    (chains : List (List Link)) (chained : AreChains s of.thread last g locks.entry chains)
    (text : (k : TextView) (l : Lock)
    → NeededIn s of.thread last k l
    ↔ (((k ≡ Stop) × Has last l) ⊎
    ((step : Label) × (rest : TextView) × Leads k step rest
    × NeededBefore s of.thread step (NeededIn s of.thread last rest) l)))
    (at_node : (j : ℕ) (l : Lock) → j ≤ length g → IsNeededFrom s of.thread last of.body g j l
    ↔ NeededIn s of.thread last (rest_at of.body j) l) where
  -- the list of a node covers what is needed from there on
  covered : (j : ℕ) (l : Lock) → j ≤ length g → NeededIn s of.thread last (rest_at of.body j) l
      → CoveredBy s (list_at (claims_of locks chains) j) l
  covered j l within needed =
      let count = inferred.needed.count in
      let at = slice_get-get_or locks.at j [] (omega (arith, within, count)) in
      (inferred.needed.each j (slice_index_or locks.at j []) at).covering l ((at_node j l within).1 needed)

  generated : (j : ℕ) (l : Lock) → IsGeneratedAt s of.thread last g (link j l)
      → CoveredBy s (list_at (claims_of locks chains) j) l
  generated j l (inl (x, at, gen)) =
      let within = slice_get_within g j x at in
      let begins = graph.running.begins j x at in
      let on = goes (rest_at of.body) x (rest_at of.body j) begins in
      covered j l (omega (arith, within))
      ((text (rest_at of.body j) l).1
      (inr (
        x.label,
        rest_at of.body on.0,
        leads (rest_at of.body) x (rest_at of.body j) begins on.0 on.1,
        inl gen,
      )))
  generated j l (inr (is, has)) =
      let ended : rest_at of.body j ≡ Stop = ap (rest_at of.body) is ∙ graph.running.end in
      covered j l (omega (arith, is)) ((text (rest_at of.body j) l).1 (inl (ended, has)))

  carried : (i j : ℕ) (x : Node) → slice_get g i ≡ Some x → LeadsTo x j → (l r : Lock)
      → Has (list_at (claims_of locks chains) j) l → CarriedBack s of.thread x.label l r
      → CoveredBy s (list_at (claims_of locks chains) i) r
  carried i j x at to l r has carry =
      let within = slice_get_within g i x at in
      let goes_to = graph.within i j x at to in
      let count = inferred.needed.count in
      let there = slice_get-get_or locks.at j [] (omega (arith, goes_to, count)) in
      let needed = (at_node j l goes_to).0
      (((inferred.needed.each j (slice_index_or locks.at j []) there).kept_are l).0 has).0 in
      let begins = graph.running.begins i x at in
      covered i r (omega (arith, within))
      ((text (rest_at of.body i) r).1
      (inr (
        x.label,
        rest_at of.body j,
        leads (rest_at of.body) x (rest_at of.body i) begins j to,
        inr (l, needed, carry),
      )))

  first : list_at (claims_of locks chains) 0 ≡ locks.entry
  first = get_or_from_slice_get locks.at 0 locks.entry [] inferred.first

  -- what is inferred of a section, with its chains, is right
  pub valid_section : IsValidSection s of.thread last g (claims_of locks chains)
  valid_section = record {
    generated = generated;
    carried = carried;
    entry = λ l has. (l, subst (λ (ls : List Lock). Has ls l) first has, covers_refl s l);
    in_order = inferred.in_order;
    apart = inferred.least.apart;
    chains = λ n l at. (let r = has_chain s of.thread last g 0 locks.entry chains chained n l at in
        (r.0, (r.1, (let e = r.2 in omega (arith, e))), r.3));
    no_others = λ x has. (let lt = chain_below s of.thread last g 0 locks.entry chains chained x has in
        omega (arith, lt));
  }
