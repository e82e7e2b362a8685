-- Steps that are added in order, node after node and step after step.
use Rattle.std.proofs.Common.{◌≡◌, ◌⊎◌, ℕ, ◌+◌, ◌<◌, ◌≤◌, List, [], Option, Some, None, inl, inr, sym, ap, ◌∙◌, subst}
use Rattle.std.proofs.{Common.{take, length, get_or, arith}, lemmas.Bool.{cases_lt}, lemmas.List.{take_all}}
use Rattle.std.proofs.lemmas.Option.{slice_get_within, slice_get-get_or}
use Rattle.std.specs.Prelude.{slice_get, ⊤}
use Rattle.sect_lemmas.specs.Lists.{Has}
use Rattle.sect_lemmas.proofs.{Making.{last_of, so_far}, Membership.{Has-get_or}, Places.{Has-index, at_of, one_at}}
use Rattle.sect_graph.specs.{declared.flow.Node.{Node}, Predecessors.{AreBefore, IsAscending}}
use Rattle.sect_names.specs.{declared.link.Link.{Link}, declared.lock.Lock.{Lock}, Schemes.{SchemeView}}
use Rattle.sect_names.specs.{Carrying.{CarriedBack}, Chains.{link, IsGeneratedAt, LinksTo}}
use Rattle.sect_names.proofs.shared.Linking.{same_link}
use Rattle.sect_chains.specs.declared.work.Trail.{Trail}
use Rattle.sect_chains.specs.steps.Working.{IsGeneratedBy, IsGeneratedBelow}
use Rattle.sect_chains.specs.steps.Ordering.{AllCameBefore, IsInTime, links_in, nexts_in, IsInOrder, AddsTo, LinkBelow}
use Rattle.sect_chains.specs.steps.Ordering.{BeginsInOrder}
use Rattle.sect_chains.proofs.Adding.{adds_none, adds_as, adds_then, time_more, before_below, before_beside, below_more}
use Rattle.sect_chains.proofs.Adding.{below_here, below_none, before_node, link_there, none_kept, none_sorted, taken_at}
use Rattle.sect_chains.proofs.Carrying.{IsOfEnd, LinksFromFirst, links_next, links_all}
use Rattle.sect_chains.proofs.Growing.{link_at, next_is}

module _ (s : SchemeView) (t : ℕ) (last : List Lock) (g : List Node) where
  -- steps were added at the nodes below this one, for what those generate
  abbrev pub AddsBelow : Trail → Trail → ℕ → Type 0
  AddsBelow r q j = AddsTo s r q None (λ a. a.node < j) (IsGeneratedBelow s t g j)

  pub below_begin : (r : Trail) → r.steps.items ≡ [] → AddsBelow r r 0
  below_begin r none = adds_none s (links_in r) (nexts_in r) None (λ a. a.node < 0) (IsGeneratedBelow s t g 0)
      (none_sorted r.numbering.keys r.steps.items none) (λ x h. omega (arith, h.0))

  -- each of them came before one at this node
  pub below_before : (r q : Trail) → r.steps.items ≡ [] → (j : ℕ) (Wanted : Link → Type 0)
      → AddsTo s r q None (λ a. a.node < j) Wanted → (l : Lock)
      → AllCameBefore (links_in q) (nexts_in q) None (link j l)
  below_before r q none j Wanted f l i a p at to = elim (f.only i a p at to) [
    | inl old ↦ absurd (none_kept r.numbering.keys r.steps.items none i a old.0)
    | inr new ↦ before_node p a (link j l) new.0 new.1
  ]

  pub below_next : (r q u : Trail) (j : ℕ) → AddsBelow r q j
      → AddsTo s q u None (λ a. a.node ≡ j) (IsGeneratedBy s t g j) → AddsBelow r u (j + 1)
  below_next r q u j f h = adds_as s (links_in r) (nexts_in r) (links_in u) (nexts_in u) None
      (λ a. (a.node < j) ⊎ (a.node ≡ j)) (λ x. IsGeneratedBelow s t g j x ⊎ IsGeneratedBy s t g j x)
      (λ a. a.node < j + 1) (IsGeneratedBelow s t g (j + 1))
      (λ a k. elim k [ inl lt ↦ omega (arith, lt) | inr e ↦ omega (arith, e) ])
      (λ x k. elim (cases_lt x.node j) [ inl lt ↦ inl (lt, k.1) | inr past ↦ inr (omega (arith, k.0, past), k.1) ])
      (adds_then s (links_in r) (nexts_in r) (links_in q) (nexts_in q) None (links_in u) (nexts_in u)
      (λ a. a.node < j) (IsGeneratedBelow s t g j) (λ a. a.node ≡ j) (IsGeneratedBy s t g j) f h)

  -- steps were added at the exit, for the first of the locks that the end generates
  abbrev pub AddsAtEnd : Trail → Trail → ℕ → Type 0
  AddsAtEnd r q i = AddsTo s r q None (λ a. (a.node ≡ length g) × (0 < i)) (IsOfEnd s t last g (take i last))

  pub end_begin : (r : Trail) → IsInOrder r → AddsAtEnd r r 0
  end_begin r sorted = adds_none s (links_in r) (nexts_in r) None (λ a. (a.node ≡ length g) × (0 < 0))
      (IsOfEnd s t last g (take 0 last)) sorted (λ x h. h.1)

  pub end_before : (r q : Trail) (i : ℕ) → i < length last → length last ≤ 1 → (x : Link)
      → AllCameBefore (links_in r) (nexts_in r) None x → AddsAtEnd r q i
      → AllCameBefore (links_in q) (nexts_in q) None x
  end_before r q i within few x before f k a p at to = elim (f.only k a p at to) [
    | inl old ↦ before k a p old.0 old.1
    | inr new ↦ absurd (omega (arith, within, few, new.1.1))
  ]

  pub end_more : (r q u : Trail) (i j : ℕ) (l : Lock) → i < length last → l ≡ get_or last i l → j ≡ length g
      → AddsAtEnd r q i → AddsTo s q u None (λ a. a ≡ link j l) (λ a. a ≡ link j l) → AddsAtEnd r u (i + 1)
  end_more r q u i j l within is exit f h = adds_as s (links_in r) (nexts_in r) (links_in u) (nexts_in u) None
      (λ a. ((a.node ≡ length g) × (0 < i)) ⊎ (a ≡ link j l))
      (λ x. IsOfEnd s t last g (take i last) x ⊎ (x ≡ link j l))
      (λ a. (a.node ≡ length g) × (0 < i + 1)) (IsOfEnd s t last g (take (i + 1) last))
      (λ a k. elim k [
        | inl old ↦ (old.0, omega arith)
        | inr e ↦ (ap (λ (z : Link). z.node) e ∙ exit, omega arith)
      ])
      (λ x k. elim (last_of last i l x.lock within is k.1) [
        | inl old ↦ inl (k.0, old)
        | inr e ↦ inr (same_link x j l (k.0 ∙ sym exit) e)
      ])
      (adds_then s (links_in r) (nexts_in r) (links_in q) (nexts_in q) None (links_in u) (nexts_in u)
      (λ a. (a.node ≡ length g) × (0 < i)) (IsOfEnd s t last g (take i last)) (λ a. a ≡ link j l) (λ a. a ≡ link j l)
      f h)

  pub end_done : (r q : Trail) (i : ℕ) → length last ≤ i → AddsAtEnd r q i
      → AddsTo s r q None (λ a. a.node ≡ length g) (IsOfEnd s t last g last)
  end_done r q i past f = adds_as s (links_in r) (nexts_in r) (links_in q) (nexts_in q) None
      (λ a. (a.node ≡ length g) × (0 < i)) (IsOfEnd s t last g (take i last)) (λ a. a.node ≡ length g)
      (IsOfEnd s t last g last) (λ a k. k.0)
      (λ x k. (k.0, subst (λ ls. Has ls x.lock) (sym (take_all i last past)) k.1)) f

  -- what the nodes generate, and then what the end does, is all that is kept
  pub begins : (r q u : Trail) → r.steps.items ≡ [] → AddsBelow r q (length g)
      → AddsTo s q u None (λ a. a.node ≡ length g) (IsOfEnd s t last g last) → BeginsInOrder s t last g u
  begins r q u none f h = record {
    sorted = h.sorted;
    only = λ i p to.
        let a = link_there u.numbering.keys u.steps.items i p to in
        elim (h.only i a.0 p a.1 to) [
          | inl old ↦ elim (f.only i a.0 p old.0 old.1) [
            | inl first ↦ absurd (none_kept r.numbering.keys r.steps.items none i a.0 first.0)
            | inr new ↦ new.0
          ]
          | inr new ↦ new.0
        ];
    in_time = λ x k. elim k [
      | inl node ↦ time_more s (links_in q) (nexts_in q) (links_in u) (nexts_in u) None (λ a. a.node ≡ length g)
          (IsOfEnd s t last g last) h None x (f.in_time x (slice_get_within g x.node node.0 node.1, node))
      | inr e ↦ h.in_time x e
    ];
  }

  -- steps were added at the first of these nodes, that link to this one
  abbrev pub AddsFirst : Link → List ℕ → ℕ → Trail → Trail → ℕ → Type 0
  AddsFirst b nodes index r q i = AddsTo s r q (Some index) (λ a. Has (take i nodes) a.node)
      (λ a. Has (take i nodes) a.node × LinksTo s t g a b)

  pub first_begin : (b : Link) (nodes : List ℕ) (index : ℕ) (r : Trail) → IsInOrder r → AddsFirst b nodes index r r 0
  first_begin b nodes index r sorted = adds_none s (links_in r) (nexts_in r) (Some index)
      (λ a. Has (take 0 nodes) a.node) (λ a. Has (take 0 nodes) a.node × LinksTo s t g a b) sorted (λ x h. h.0)

  module _ (b : Link) (nodes : List ℕ) (before : AreBefore g b.node nodes) (index : ℕ) where
    -- each of them came before one at the next node
    pub first_before : IsAscending nodes → (r q : Trail) → LinkBelow r index → (i : ℕ) → i < length nodes
        → AddsFirst b nodes index r q i → (l : Lock)
        → AllCameBefore (links_in q) (nexts_in q) (Some index) (link (get_or nodes i 0) l)
    first_before ascending r q below i within f l k a p at to = elim (f.only k a p at to) [
      | inl old ↦ before_below p a (link (get_or nodes i 0) l) index (below k p old.1)
      | inr new ↦
          let m = Has-index (take i nodes) a.node new.1 in
          let there = taken_at nodes i m.0 a.node m.1 in
          before_beside p a (link (get_or nodes i 0) l) index new.0
          (ascending m.0 i a.node (get_or nodes i 0) there.0 there.1
          (slice_get-get_or nodes i 0 within))
    ]

    pub first_next : (r q u : Trail) (i j : ℕ) → i < length nodes → j ≡ get_or nodes i j → AddsFirst b nodes index r q i
        → ((y : Node) → slice_get g j ≡ Some y
        → AddsTo s q u (Some index) (λ a. a.node ≡ j) (λ x. (x.node ≡ j) × CarriedBack s t y.label b.lock x.lock))
        → AddsFirst b nodes index r u (i + 1)
    first_next r q u i j within is f k =
        let found = (before j).0 (subst (Has nodes) (sym is) (Has-get_or nodes i j within)) in
        let y = found.0 in
        adds_as s (links_in r) (nexts_in r) (links_in u) (nexts_in u) (Some index)
        (λ a. Has (take i nodes) a.node ⊎ (a.node ≡ j))
        (λ x. LinksFromFirst s t last g b nodes before i x ⊎ ((x.node ≡ j) × CarriedBack s t y.label b.lock x.lock))
        (λ a. Has (take (i + 1) nodes) a.node) (LinksFromFirst s t last g b nodes before (i + 1))
        (λ a h. so_far nodes i j a.node within is h)
        (links_next s t last g b nodes before i j within is y found.1)
        (adds_then s (links_in r) (nexts_in r) (links_in q) (nexts_in q) (Some index) (links_in u) (nexts_in u)
        (λ a. Has (take i nodes) a.node) (LinksFromFirst s t last g b nodes before i) (λ a. a.node ≡ j)
        (λ x. (x.node ≡ j) × CarriedBack s t y.label b.lock x.lock) f (k y found.1))

    pub first_done : (r q : Trail) (i : ℕ) → length nodes ≤ i → AddsFirst b nodes index r q i
        → AddsTo s r q (Some index) (λ a. ⊤) (λ x. LinksTo s t g x b)
    first_done r q i past f = adds_as s (links_in r) (nexts_in r) (links_in q) (nexts_in q) (Some index)
        (λ a. Has (take i nodes) a.node) (LinksFromFirst s t last g b nodes before i) (λ a. ⊤)
        (λ x. LinksTo s t g x b) (λ a h. tt) (links_all s t last g b nodes before i past) f

  -- the order of the steps, where those are kept that link to one of the first `done`
  pub record IsOrderly (r : Trail) (done : ℕ) : Type 0 where
    pub sorted : IsInOrder r
    pub below : LinkBelow r done
    pub generated : (x : Link) → IsGeneratedAt s t last g x → IsInTime s (links_in r) (nexts_in r) None x
    pub carried : (j : ℕ) (b x : Link) → j < done → slice_get (links_in r) j ≡ Some b → LinksTo s t g x b
        → IsInTime s (links_in r) (nexts_in r) (Some j) x

  pub orderly_begin : (r : Trail) → BeginsInOrder s t last g r → IsOrderly r 0
  orderly_begin r begun = record {
    sorted = begun.sorted;
    below = λ i p to. below_none p 0 (begun.only i p to);
    generated = begun.in_time;
    carried = λ j b x lt at l. absurd (omega (arith, lt));
  }

  pub orderly_next : (r q : Trail) (done : ℕ) → done < length r.steps.items → IsOrderly r done
      → ((b : Link) → slice_get (links_in r) done ≡ Some b
      → AddsTo s r q (Some done) (λ a. ⊤) (λ x. LinksTo s t g x b))
      → IsOrderly q (done + 1)
  orderly_next r q done lt work adds =
      let y = at_of r.steps.items done lt in
      let b = link_at r.numbering.keys r.steps.items done y.0 y.1 in
      let f = adds b.0 b.1 in
      let still : (p : Option ℕ) (x : Link) → IsInTime s (links_in r) (nexts_in r) p x
      → IsInTime s (links_in q) (nexts_in q) p x
      = time_more s (links_in r) (nexts_in r) (links_in q) (nexts_in q) (Some done) (λ a. ⊤)
      (λ x. LinksTo s t g x b.0) f in
      record {
        sorted = f.sorted;
        below = λ i p to.
            let a = link_there q.numbering.keys q.steps.items i p to in
            elim (f.only i a.0 p a.1 to) [
              | inl old ↦ below_more p done (work.below i p old.1)
              | inr new ↦ below_here p done new.0
            ];
        generated = λ x h. still None x (work.generated x h);
        carried = λ j c x less at l. elim (cases_lt j done) [
          | inl k ↦
              let z = at_of r.steps.items j (omega (arith, k, lt)) in
              let d = link_at r.numbering.keys r.steps.items j z.0 z.1 in
              let there = f.still j d.0 z.0.next d.1 (next_is r.steps.items j z.0 z.1) in
              let same = one_at (links_in q) j c d.0 at there.0 in
              still (Some j) x (work.carried j d.0 x k d.1 (subst (LinksTo s t g x) same l))
          | inr past ↦
              let e : j ≡ done = omega (arith, less, past) in
              let there = f.still done b.0 y.0.next b.1 (next_is r.steps.items done y.0 y.1) in
              let got = subst (λ n. slice_get (links_in q) n ≡ Some c) e at in
              let same = one_at (links_in q) done c b.0 got there.0 in
              subst (λ n. IsInTime s (links_in q) (nexts_in q) (Some n) x) (sym e)
              (f.in_time x (subst (LinksTo s t g x) same l))
        ];
      }
