-- Steps whose locks are generated, and steps that link to others.
use Rattle.std.proofs.Common.{◌≡◌, ◌↔◌, ◌⊎◌, ℕ, ◌+◌, ◌<◌, ◌≤◌, List, [], Option, Some, None, inl, inr, sym, ◌∙◌, subst}
use Rattle.std.proofs.{Common.{take, length, get_or, arith}, lemmas.Bool.{cases_lt}, lemmas.List.{take_all}}
use Rattle.std.proofs.lemmas.Option.{slice_get_within}
use Rattle.std.specs.Prelude.{slice_get}
use Rattle.sect_lemmas.specs.Lists.{Has}
use Rattle.sect_lemmas.proofs.{Membership.{Has-get_or}, Places.{one_at}, Making.{last_of}}
use Rattle.sect_graph.specs.{declared.flow.Node.{Node}, Paths.{LeadsTo}, Predecessors.{AreBefore}}
use Rattle.sect_names.specs.{declared.link.Link.{Link}, declared.lock.Lock.{Lock}, Schemes.{SchemeView}}
use Rattle.sect_names.specs.{Carrying.{Generated, CarriedBack}, Chains.{link, IsGeneratedAt, LinksTo}}
use Rattle.sect_names.proofs.shared.Linking.{same_link}
use Rattle.sect_infer.specs.Numberings.{NumberingView, HasLock, IsNumbered, Finds, lock_at, IsOrderOf}
use Rattle.sect_infer.proofs.shared.Bounding.{named}
use Rattle.sect_chains.specs.steps.Keeping.{KeptView, step_of, keep_one, keep_each}
use Rattle.sect_chains.specs.steps.Working.{links_of, IsFoundAt, IsKept, Grows, IsGeneratedBy, IsGeneratedBelow}
use Rattle.sect_chains.proofs.Growing.{grows_none, grows_as, grows_then, grows_at, grows_extended, grows_one}
use Rattle.sect_chains.proofs.Growing.{grows_each}

module _ (s : SchemeView) (t : ℕ) (last : List Lock) (g : List Node) where
  -- a lock that is generated is kept
  pub put_one : (a : NumberingView) (w : KeptView) (b : NumberingView) (j : ℕ) (l : Lock) (n : ℕ)
      → IsKept s t last g a w
      → IsNumbered s a b l n → IsGeneratedAt s t last g (link j l) → j < length w.found
      → Grows s t last g a w b (keep_one b.above w (step_of j None n)) (λ x. x ≡ link j l)
  put_one a w b j l n k numbered generated within =
      let longer = grows_extended s t last g a w b k numbered.longer numbered.numbering in
      let v = keep_one b.above w (step_of j None n) in
      grows_as s t last g a w b v (λ x. ⊥ ⊎ (x ≡ link j l)) (λ x. x ≡ link j l) (λ x e. inr e)
      (grows_then s t last g a w b w b v (λ x. ⊥) (λ x. x ≡ link j l) longer
      (grows_one s t last g b w longer.kept (step_of j None n) l numbered.there within generated))

  -- where a step is kept there is a node or the exit
  pub generated_within : (a : NumberingView) (w : KeptView) (x : Link) → IsKept s t last g a w
      → IsGeneratedAt s t last g x
      → x.node < length w.found
  generated_within a w x k h = elim h [
    | inl y ↦ (let within = slice_get_within g x.node y.0 y.1 in omega (arith, within, k.count))
    | inr e ↦ (let is = e.0 in omega (arith, is, k.count))
  ]

  module _ (j : ℕ) (y : Node) (at : slice_get g j ≡ Some y) (o : Option Lock)
      (tells : (l : Lock) → (o ≡ Some l) ↔ Generated s t y.label l) where
    -- what node j generates
    at_node : (x : Link) → IsGeneratedBy s t g j x → o ≡ Some x.lock
    at_node x h =
        let z = h.1.0 in
        let here = subst (λ k. slice_get g k ≡ Some z) h.0 h.1.1 in
        (tells x.lock).1 (subst (λ w. Generated s t w.label x.lock) (one_at g j z y here at) h.1.2)

    -- nothing or one lock is generated
    pub by_node_nothing : o ≡ None → (x : Link) → IsGeneratedBy s t g j x → ⊥
    by_node_nothing none x h = (let q = at_node x h in absurd cc)

    pub by_node_is : (l : Lock) → o ≡ Some l → (x : Link) → IsGeneratedBy s t g j x → x ≡ link j l
    by_node_is l is x h = (let same : x.lock ≡ l = (let q = at_node x h in cc) in same_link x j l h.0 same)

    -- nothing
    pub by_node_none : (a : NumberingView) (w : KeptView) → IsKept s t last g a w → o ≡ None
        → Grows s t last g a w a w (IsGeneratedBy s t g j)
    by_node_none a w k none = grows_none s t last g a w (IsGeneratedBy s t g j) k (by_node_nothing none)

    -- a lock
    pub by_node_one : (a : NumberingView) (w : KeptView) (b : NumberingView) (v : KeptView) (l : Lock) → o ≡ Some l
        → Grows s t last g a w b v (λ x. x ≡ link j l) → Grows s t last g a w b v (IsGeneratedBy s t g j)
    by_node_one a w b v l is f = grows_as s t last g a w b v (λ x. x ≡ link j l) (IsGeneratedBy s t g j)
        (by_node_is l is) f

    pub generated_here : (l : Lock) → o ≡ Some l → IsGeneratedAt s t last g (link j l)
    generated_here l is = inl (y, at, (tells l).0 is)

  -- what one node more generates
  pub generated_next : (a : NumberingView) (w : KeptView) (b : NumberingView) (v : KeptView) (c : NumberingView)
      (u : KeptView)
      (j : ℕ)
      → Grows s t last g a w b v (IsGeneratedBelow s t g j) → Grows s t last g b v c u (IsGeneratedBy s t g j)
      → Grows s t last g a w c u (IsGeneratedBelow s t g (j + 1))
  generated_next a w b v c u j f h =
      grows_as s t last g a w c u (λ x. IsGeneratedBelow s t g j x ⊎ IsGeneratedBy s t g j x)
      (IsGeneratedBelow s t g (j + 1))
      (λ x k. elim (cases_lt x.node j) [ inl lt ↦ inl (lt, k.1) | inr past ↦ inr (omega (arith, k.0, past), k.1) ])
      (grows_then s t last g a w b v c u (IsGeneratedBelow s t g j) (IsGeneratedBy s t g j) f h)

  -- no node is below the first
  pub generated_none : (a : NumberingView) (w : KeptView) → IsKept s t last g a w
      → Grows s t last g a w a w (IsGeneratedBelow s t g 0)
  generated_none a w k = grows_none s t last g a w (IsGeneratedBelow s t g 0) k (λ x h. omega (arith, h.0))

  -- the locks of the end, one more and all
  abbrev pub IsOfEnd : List Lock → Link → Type 0
  IsOfEnd locks x = (x.node ≡ length g) × Has locks x.lock

  pub end_none : (a : NumberingView) (w : KeptView) → IsKept s t last g a w → Grows s t last g a w a w (IsOfEnd [])
  end_none a w k = grows_none s t last g a w (IsOfEnd []) k (λ x h. h.1)

  pub end_next : (a : NumberingView) (w : KeptView) (b : NumberingView) (v : KeptView) (c : NumberingView)
      (u : KeptView)
      (i j : ℕ) (l : Lock)
      → i < length last → l ≡ get_or last i l → j ≡ length g → Grows s t last g a w b v (IsOfEnd (take i last))
      → Grows s t last g b v c u (λ x. x ≡ link j l) → Grows s t last g a w c u (IsOfEnd (take (i + 1) last))
  end_next a w b v c u i j l within is exit f h =
      grows_as s t last g a w c u (λ x. IsOfEnd (take i last) x ⊎ (x ≡ link j l)) (IsOfEnd (take (i + 1) last))
      (λ x k. elim (last_of last i l x.lock within is k.1) [
        | inl old ↦ inl (k.0, old)
        | inr e ↦ inr (same_link x j l (k.0 ∙ sym exit) e)
      ])
      (grows_then s t last g a w b v c u (IsOfEnd (take i last)) (λ x. x ≡ link j l) f h)

  -- what the nodes generate, and then what the end does, is all
  pub generated_all : (a : NumberingView) (w : KeptView) (b : NumberingView) (v : KeptView)
      → ((x : Link) → IsGeneratedBelow s t g (length g) x → IsFoundAt a.keys w.found x)
      → ((x : Link) → IsFoundAt a.keys w.found x → IsFoundAt b.keys v.found x)
      → Grows s t last g a w b v (IsOfEnd last) → (x : Link) → IsGeneratedAt s t last g x → IsFoundAt b.keys v.found x
  generated_all a w b v nodes stays f x h = elim h [
    | inl y ↦ stays x (nodes x (slice_get_within g x.node y.0 y.1, y))
    | inr e ↦ f.each x e
  ]

  -- each number that is found is that of a lock that is carried back
  pub carried_lock : (a b : NumberingView) (y : Node) (x : Link) (ms : List ℕ)
      → Finds s a [] b ms (CarriedBack s t y.label x.lock) → (n : ℕ) → Has ms n
      → CarriedBack s t y.label x.lock (lock_at b.keys n)
  carried_lock a b y x ms finds n h =
      elim (finds.only (lock_at b.keys n) (n, h, named b.keys n (finds.finding.numbers n h))) [
        | inl old ↦ absurd old.1
        | inr c ↦ c
      ]

  -- what is carried back over a node of the lock of a kept step
  pub carried_to : (a : NumberingView) (w : KeptView) (b : NumberingView) (j i : ℕ) (y : Node) (x : Link)
      (ms ns : List ℕ) → IsKept s t last g a w
      → slice_get g j ≡ Some y → LeadsTo y x.node → slice_get (links_of a.keys w.steps) i ≡ Some x
      → Finds s a [] b ms (CarriedBack s t y.label x.lock) → IsOrderOf b.keys ms ns
      → Grows s t last g a w b (keep_each b.above w j (Some i) ns) (λ z. (z.node ≡ j)
      × CarriedBack s t y.label x.lock z.lock)
  carried_to a w b j i y x ms ns k at leads kept finds order =
      let longer = grows_extended s t last g a w b k finds.longer finds.finding.numbering in
      let stays = grows_at s t last g a w b w (λ z. ⊥) k longer i x kept in
      let v = keep_each b.above w j (Some i) ns in
      let within = slice_get_within g j y at in
      let of = carried_lock a b y x ms finds in
      let each = grows_each s t last g b w longer.kept j (Some i) (omega (arith, within, k.count)) ns
      (λ n h. (
        lock_at b.keys n,
        named b.keys n (finds.finding.numbers n (order.same n h)),
        (x, stays, (y, at, leads, of n (order.same n h))),
      )) in
      grows_as s t last g a w b v (λ z. ⊥ ⊎ ((z.node ≡ j) × HasLock b.keys ns z.lock))
      (λ z. (z.node ≡ j) × CarriedBack s t y.label x.lock z.lock)
      (λ z h. (let m = finds.each z.lock h.1 in inr (h.0, (m.0, order.all m.0 m.1, m.2))))
      (grows_then s t last g a w b w b v (λ z. ⊥) (λ z. (z.node ≡ j) × HasLock b.keys ns z.lock) longer each)

  module _ (b : Link) (nodes : List ℕ) (before : AreBefore g b.node nodes) where
    -- the steps at the first of these nodes that link to this one
    abbrev pub LinksFromFirst : ℕ → Link → Type 0
    LinksFromFirst i a = Has (take i nodes) a.node × LinksTo s t g a b

    -- each of these nodes is one of the graph, from which control may go on to the step's
    pub node_leads : (i : ℕ) → i < length nodes
        → (y : Node) × (slice_get g (get_or nodes i 0) ≡ Some y) × LeadsTo y b.node
    node_leads i within = (before (get_or nodes i 0)).0 (Has-get_or nodes i 0 within)

    -- no node is among the first none
    pub carry_none : (a : NumberingView) (w : KeptView) → IsKept s t last g a w
        → Grows s t last g a w a w (LinksFromFirst 0)
    carry_none a w k = grows_none s t last g a w (LinksFromFirst 0) k (λ x h. h.0)

    -- a step at one of the first nodes and one more is at one of the first, or at that one
    pub links_next : (i j : ℕ) → i < length nodes → j ≡ get_or nodes i j → (y : Node) → slice_get g j ≡ Some y
        → (x : Link) → LinksFromFirst (i + 1) x
        → LinksFromFirst i x ⊎ ((x.node ≡ j) × CarriedBack s t y.label b.lock x.lock)
    links_next i j within is y at x h = elim (last_of nodes i j x.node within is h.0) [
      | inl old ↦ inl (old, h.1)
      | inr e ↦ (let same = one_at g j h.1.0 y (subst (λ k. slice_get g k ≡ Some h.1.0) e h.1.1) at in
          inr (e, subst (λ z. CarriedBack s t z.label b.lock x.lock) same h.1.3))
    ]

    -- those at one node more
    pub carry_next : (a : NumberingView) (w : KeptView) (c : NumberingView) (v : KeptView) (d : NumberingView)
        (u : KeptView)
        (i j : ℕ)
        → i < length nodes → j ≡ get_or nodes i j → Grows s t last g a w c v (LinksFromFirst i)
        → ((y : Node) → slice_get g j ≡ Some y → Grows s t last g c v d u (λ x. (x.node ≡ j)
        × CarriedBack s t y.label b.lock x.lock))
        → Grows s t last g a w d u (LinksFromFirst (i + 1))
    carry_next a w c v d u i j within is f k =
        let found = (before j).0 (subst (Has nodes) (sym is) (Has-get_or nodes i j within)) in
        let y = found.0 in
        grows_as s t last g a w d u (λ x. LinksFromFirst i x ⊎ ((x.node ≡ j) × CarriedBack s t y.label b.lock x.lock))
        (LinksFromFirst (i + 1)) (links_next i j within is y found.1)
        (grows_then s t last g a w c v d u (LinksFromFirst i) (λ x. (x.node ≡ j)
        × CarriedBack s t y.label b.lock x.lock)
        f (k y found.1))

    -- each step that links to this one is at one of all of them
    pub links_all : (i : ℕ) → length nodes ≤ i → (x : Link) → LinksTo s t g x b → LinksFromFirst i x
    links_all i past x h =
        (subst (λ l. Has l x.node) (sym (take_all i nodes past)) ((before x.node).1 (h.0, h.1, h.2)), h)

    -- those at all of them
    pub carry_done : (a : NumberingView) (w : KeptView) (c : NumberingView) (v : KeptView) (i : ℕ) → length nodes ≤ i
        → Grows s t last g a w c v (LinksFromFirst i) → Grows s t last g a w c v (λ x. LinksTo s t g x b)
    carry_done a w c v i past f = grows_as s t last g a w c v (LinksFromFirst i) (λ x. LinksTo s t g x b)
        (links_all i past) f
