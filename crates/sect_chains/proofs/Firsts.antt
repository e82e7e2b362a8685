-- The order of steps, and the first chain of a lock: it is the one whose steps were kept first.
use Rattle.std.proofs.Common.{◌≡◌, ◌⊎◌, ℕ, zero, suc, ◌+◌, ◌<◌, List, [], ◌∷◌, Option, Some, None, length, inl, inr}
use Rattle.std.proofs.{Common.{refl, sym, ap, ◌∙◌, subst, arith}, lemmas.Option.{slice_get_within}}
use Rattle.std.specs.Prelude.{slice_get}
use Rattle.sect_lemmas.proofs.Places.{at_of, one_at}
use Rattle.sect_graph.specs.{declared.flow.Node.{Node}, Paths.{LeadsTo}}
use Rattle.sect_names.specs.{declared.link.Link.{Link}, declared.lock.Lock.{Lock}, Schemes.{SchemeView}, Locks.{Covers}}
use Rattle.sect_names.specs.Chains.{link, IsGeneratedAt, LinksTo, AreLinked, IsChain}
use Rattle.sect_names.proofs.shared.{Covering.{covers_trans}, Ordering.{lock_then}}
use Rattle.sect_names.proofs.shared.Linking.{same_link}
use Rattle.sect_infer.specs.Numbers.{AreApart}
use Rattle.sect_infer.proofs.shared.Apart.{apart_one}
use Rattle.sect_chains.specs.Chains.{StepBefore, StepsBefore, IsFirstChain}
use Rattle.sect_chains.specs.steps.Trails.{HasTrail, RespectCover, LeadOn, AreBehind, AreFrom, AreFromEntry}
use Rattle.sect_chains.specs.steps.Ordering.{CameBefore, AreSorted, IsInTime}
use Rattle.sect_chains.proofs.Trails.{behind_linked, entry_chain}

step_then : (a b c : Link) → StepBefore a b → StepBefore b c → StepBefore a c
step_then a b c (inl h) (inl k) = inl (omega (arith, h, k))
step_then a b c (inl h) (inr k) = inl (omega (arith, h, k.0))
step_then a b c (inr h) (inl k) = inl (omega (arith, h.0, k))
step_then a b c (inr h) (inr k) = inr (h.0 ∙ k.0, lock_then a.lock b.lock c.lock h.1 k.1)

-- steps that stand before others stand before what those stand before
steps_then : (xs ys zs : List Link) → StepsBefore xs ys → StepsBefore ys zs → StepsBefore xs zs
steps_then [] [] zs h k = absurd h
steps_then [] (b ∷ ys) [] h k = absurd k
steps_then [] (b ∷ ys) (c ∷ zs) h k = tt
steps_then (a ∷ xs) [] zs h k = absurd h
steps_then (a ∷ xs) (b ∷ ys) [] h k = absurd k
steps_then (a ∷ xs) (b ∷ ys) (c ∷ zs) (inl h) (inl k) = inl (steps_then xs ys zs h k)
steps_then (a ∷ xs) (b ∷ ys) (c ∷ zs) (inl h) (inr k) = inl (subst (StepsBefore xs) k.0 h)
steps_then (a ∷ xs) (b ∷ ys) (c ∷ zs) (inr h) (inl k) = inl (subst (λ l. StepsBefore l zs) (sym h.0) k)
steps_then (a ∷ xs) (b ∷ ys) (c ∷ zs) (inr h) (inr k) = inr (h.0 ∙ k.0, step_then a b c h.1 k.1)

-- none stand before what something stands before
none_before : (xs ys : List Link) → StepsBefore xs ys → StepsBefore [] ys
none_before [] ys h = h
none_before (a ∷ xs) [] h = absurd h
none_before (a ∷ xs) (b ∷ ys) h = tt

-- no step links to one and to none
none_or_some : (o : Option ℕ) (j : ℕ) → o ≡ None → o ≡ Some j → ⊥
none_or_some o j e f = (let is : None ≡ Some j = sym e ∙ f in absurd cc)

-- the step that follows is where the one before leads
behind_from : (kept : List Link) (next : List (Option ℕ)) (i j : ℕ) (d : List Link) → slice_get next i ≡ Some (Some j)
    → AreFrom kept next j d → AreBehind kept next i d
behind_from kept next i j [] to h = absurd h
behind_from kept next i j (b ∷ d) to h = (j, to, h.0, h.1)

-- one list of steps is behind an index
behind_one : (kept : List Link) (next : List (Option ℕ)) (i : ℕ) (c d : List Link) → AreBehind kept next i c
    → AreBehind kept next i d → c ≡ d
behind_one kept next i [] [] h k = refl
behind_one kept next i [] (b ∷ d) h k = absurd (none_or_some None k.0 refl (one_at next i None (Some k.0) h k.1))
behind_one kept next i (a ∷ c) [] h k = absurd (none_or_some None h.0 refl (one_at next i None (Some h.0) k h.1))
behind_one kept next i (a ∷ c) (b ∷ d) h k =
    let e : Some h.0 ≡ Some k.0 = one_at next i (Some h.0) (Some k.0) h.1 k.1 in
    let same : h.0 ≡ k.0 = cc in
    let first : a ≡ b = one_at kept h.0 a b h.2 (subst (λ n. slice_get kept n ≡ Some b) (sym same) k.2) in
    let rest : c ≡ d = behind_one kept next h.0 c d h.3 (subst (λ n. AreBehind kept next n d) (sym same) k.3) in
    ap (λ z. z ∷ c) first ∙ ap (λ z. b ∷ z) rest

-- and from it on
from_one : (kept : List Link) (next : List (Option ℕ)) (i : ℕ) (c d : List Link) → AreFrom kept next i c
    → AreFrom kept next i d → c ≡ d
from_one kept next i [] d h k = absurd h
from_one kept next i (a ∷ c) [] h k = absurd k
from_one kept next i (a ∷ c) (b ∷ d) h k =
    ap (λ z. z ∷ c) (one_at kept i a b h.0 k.0) ∙ ap (λ z. b ∷ z) (behind_one kept next i c d h.1 k.1)

-- what was kept first leads on by steps that stand first
from_first : (kept : List Link) (next : List (Option ℕ)) → AreSorted kept next → (c d : List Link) (i j : ℕ) → i < j
    → AreFrom kept next i c → AreFrom kept next j d → StepsBefore c d
from_first kept next sorted [] d i j lt h k = absurd h
from_first kept next sorted (a ∷ c) [] i j lt h k = absurd k
from_first kept next sorted (a ∷ []) (b ∷ []) i j lt h k =
    inr (refl, sorted i j a b None None lt h.0 k.0 h.1 k.1)
from_first kept next sorted (a ∷ []) (b ∷ f ∷ d) i j lt h k = inl tt
from_first kept next sorted (a ∷ e ∷ c) (b ∷ []) i j lt h k =
    absurd (sorted i j a b (Some h.1.0) None lt h.0 k.0 h.1.1 k.1)
from_first kept next sorted (a ∷ e ∷ c) (b ∷ f ∷ d) i j lt h k =
    elim (sorted i j a b (Some h.1.0) (Some k.1.0) lt h.0 k.0 h.1.1 k.1.1) [
      | inl less ↦ inl (from_first kept next sorted (e ∷ c) (f ∷ d) h.1.0 k.1.0 less (h.1.2, h.1.3) (k.1.2, k.1.3))
      | inr same ↦ inr (
        from_one kept next h.1.0 (e ∷ c) (f ∷ d) (h.1.2, h.1.3)
            (subst (λ n. AreFrom kept next n (f ∷ d)) (sym same.0) (k.1.2, k.1.3)),
        same.1,
      )
    ]

module _ (s : SchemeView) (t : ℕ) (last : List Lock) (g : List Node) (kept : List Link) (next : List (Option ℕ))
    (leads : LeadOn s t last g kept next) where
  from_next : (i : ℕ) (a : Link) (o : Option ℕ) → slice_get kept i ≡ Some a → slice_get next i ≡ Some o
      → ((j : ℕ) → j < i → j < length kept → (d : List Link) × AreFrom kept next j d)
      → (c : List Link) × AreFrom kept next i c
  from_next i a None at to before = (a ∷ [], (at, to))
  from_next i a (Some j) at to before =
      let r = leads.each i a (Some j) at to in
      let d = before j r.0 (slice_get_within kept j r.1.0 r.1.1) in
      (a ∷ d.0, (at, behind_from kept next i j d.0 to d.1))

  -- steps lead on from each index
  from_below : (n i : ℕ) → i < n → i < length kept → (c : List Link) × AreFrom kept next i c
  from_below zero i lt within = absurd (omega (arith, lt))
  from_below (suc n) i lt within =
      let a = at_of kept i within in
      let o = at_of next i (omega (arith, within, leads.count)) in
      from_next i a.0 o.0 a.1 o.1 (λ j less there. from_below n j (omega (arith, less, lt)) there)

  module _ (sorted : AreSorted kept next) (respects : RespectCover s t g)
      (generated : (x : Link) → IsGeneratedAt s t last g x → IsInTime s kept next None x)
      (carried : (j : ℕ) (b x : Link) → slice_get kept j ≡ Some b → LinksTo s t g x b → IsInTime s kept next (Some j) x)
    where
      -- from a lock that covers this step's others lead on that stand before these, or are these
      abbrev Ahead : Link → List Link → Type 0
      Ahead x links = (i : ℕ) × (a : Link) × (c : List Link) × AreFrom kept next i (a ∷ c) × (a.node ≡ x.node)
          × Covers s a.lock x.lock × (((a ∷ c) ≡ (x ∷ links)) ⊎ StepsBefore (a ∷ c) (x ∷ links))

      end_at : (x : Link) (i : ℕ) (a : Link) (p : Option ℕ) → slice_get kept i ≡ Some a → slice_get next i ≡ Some p
          → a.node ≡ x.node → Covers s a.lock x.lock → CameBefore p a None x ⊎ ((p ≡ None) × (a ≡ x)) → Ahead x []
      end_at x i a None at to n c (inl h) = (i, a, [], (at, to), n, c, inr (inr (refl, h)))
      end_at x i a None at to n c (inr h) = (i, a, [], (at, to), n, c, inl (ap (λ z. z ∷ []) h.1))
      end_at x i a (Some j) at to n c (inl h) = absurd h
      end_at x i a (Some j) at to n c (inr h) = absurd (none_or_some (Some j) j h.0 refl)

      -- a step that links to the first of the others
      exact_at : (x : Link) (links : List Link) (j : ℕ) (b : Link) (d : List Link) → AreFrom kept next j (b ∷ d)
          → (b ∷ d) ≡ links → (i : ℕ) (a : Link) (p : Option ℕ) → slice_get kept i ≡ Some a → slice_get next i ≡ Some p
          → a.node ≡ x.node → Covers s a.lock x.lock → CameBefore p a (Some j) x ⊎ ((p ≡ Some j) × (a ≡ x))
          → Ahead x links
      exact_at x links j b d from same i a None at to n c (inl h) =
          (i, a, [], (at, to), n, c, inr (inl (subst (StepsBefore []) same tt)))
      exact_at x links j b d from same i a None at to n c (inr h) = absurd (none_or_some None j refl h.0)
      exact_at x links j b d from same i a (Some k) at to n c (inl h) = elim h [
        | inl less ↦ (let r = leads.each i a (Some k) at to in
            let e = from_below (k + 1) k (omega arith) (slice_get_within kept k r.1.0 r.1.1) in (
              i,
              a,
              e.0,
              (at, behind_from kept next i k e.0 to e.1),
              n,
              c,
              inr (inl (subst (StepsBefore e.0) same (from_first kept next sorted e.0 (b ∷ d) k j less e.1 from))),
            ))
        | inr here ↦ (
          i,
          a,
          b ∷ d,
          (at, behind_from kept next i j (b ∷ d) (to ∙ ap (λ m. Some (Some m)) here.0) from),
          n,
          c,
          inr (inr (same, here.1)),
        )
      ]
      exact_at x links j b d from same i a (Some k) at to n c (inr h) = (
        i,
        a,
        b ∷ d,
        (at, behind_from kept next i j (b ∷ d) (to ∙ ap (λ m. Some m) h.0) from),
        n,
        c,
        inl (ap (λ z. z ∷ b ∷ d) h.1 ∙ ap (λ z. x ∷ z) same),
      )

      -- one that links to a step from which others lead on that stand before these
      before_at : (x y : Link) (links : List Link) (j : ℕ) (b : Link) (d : List Link) → AreFrom kept next j (b ∷ d)
          → StepsBefore (b ∷ d) links → y.node ≡ x.node → Covers s y.lock x.lock → (i : ℕ) (a : Link) (p : Option ℕ)
          → slice_get kept i ≡ Some a → slice_get next i ≡ Some p → a.node ≡ y.node → Covers s a.lock y.lock
          → CameBefore p a (Some j) y ⊎ ((p ≡ Some j) × (a ≡ y)) → Ahead x links
      before_at x y links j b d from less m over i a None at to n c (inl h) = (
        i,
        a,
        [],
        (at, to),
        n ∙ m,
        covers_trans s a.lock y.lock x.lock c over,
        inr (inl (none_before (b ∷ d) links less)),
      )
      before_at x y links j b d from less m over i a None at to n c (inr h) = absurd (none_or_some None j refl h.0)
      before_at x y links j b d from less m over i a (Some k) at to n c (inl h) = elim h [
        | inl lt ↦ (let r = leads.each i a (Some k) at to in
            let e = from_below (k + 1) k (omega arith) (slice_get_within kept k r.1.0 r.1.1) in (
              i,
              a,
              e.0,
              (at, behind_from kept next i k e.0 to e.1),
              n ∙ m,
              covers_trans s a.lock y.lock x.lock c over,
              inr (inl (steps_then e.0 (b ∷ d) links (from_first kept next sorted e.0 (b ∷ d) k j lt e.1 from) less)),
            ))
        | inr here ↦ (
          i,
          a,
          b ∷ d,
          (at, behind_from kept next i j (b ∷ d) (to ∙ ap (λ z. Some (Some z)) here.0) from),
          n ∙ m,
          covers_trans s a.lock y.lock x.lock c over,
          inr (inl less),
        )
      ]
      before_at x y links j b d from less m over i a (Some k) at to n c (inr h) = (
        i,
        a,
        b ∷ d,
        (at, behind_from kept next i j (b ∷ d) (to ∙ ap (λ z. Some z) h.0) from),
        n ∙ m,
        covers_trans s a.lock y.lock x.lock c over,
        inr (inl less),
      )

      -- one step more in front of these
      ahead_step : (x y : Link) (links : List Link) → LinksTo s t g x y → (j : ℕ) (b : Link) (d : List Link)
          → AreFrom kept next j (b ∷ d) → b.node ≡ y.node → Covers s b.lock y.lock
          → ((b ∷ d) ≡ (y ∷ links)) ⊎ StepsBefore (b ∷ d) (y ∷ links) → Ahead x (y ∷ links)
      ahead_step x y links l j b d from n c (inl same) =
          let first : b ≡ y = cc in
          let w = carried j b x from.0 (subst (LinksTo s t g x) (sym first) l) in
          exact_at x (y ∷ links) j b d from same w.0 w.1 w.2 w.3 w.4 w.5 w.6 w.7
      ahead_step x y links l j b d from n c (inr less) =
          let over = respects x.node l.0 l.1 y.lock b.lock x.lock c l.3 in
          let z = link x.node over.0 in
          let w = carried j b z from.0 (l.0, l.1, subst (LeadsTo l.0) (sym n) l.2, over.1) in
          before_at x z (y ∷ links) j b d from less refl over.2 w.0 w.1 w.2 w.3 w.4 w.5 w.6 w.7

      ahead : (x : Link) (links : List Link) → AreLinked s t last g x links → Ahead x links
      ahead x [] h = (let w = generated x h in end_at x w.0 w.1 w.2 w.3 w.4 w.5 w.6 w.7)
      ahead x (y ∷ links) h =
          let r = ahead y links h.1 in
          ahead_step x y links h.0 r.0 r.1 r.2 r.3 r.4 r.5 r.6

      -- the steps from a lock at the entry on are its first chain, where no other lock there covers it
      pub first_chain : AreApart kept → (l : Lock)
          → ((big : Lock) → HasTrail s t last g (link 0 big) → Covers s big l → big ≡ l)
          → (chain : List Link) → AreFromEntry kept next l chain → IsFirstChain s t last g l chain
      first_chain apart l alone chain entry = record {
        is = entry_chain s t last g kept next leads l chain entry;
        first = λ other is. first_of other is;
      }
        where
          settled : (x : Link) (links : List Link) → x ≡ link 0 l → Ahead x links
              → ((x ∷ links) ≡ chain) ⊎ StepsBefore chain (x ∷ links)
          settled x links is (i, a, c, from, n, over, how) =
              let node : a.node ≡ 0 = n ∙ ap (λ (z : Link). z.node) is in
              let covers : Covers s a.lock l = subst (λ (z : Link). Covers s a.lock z.lock) is over in
              let trail : HasTrail s t last g (link 0 a.lock) = (
                c,
                subst (λ z. AreLinked s t last g z c) (same_link a 0 a.lock node refl)
                    (behind_linked s t last g kept next leads i a c from.0 from.1),
              ) in
              let lock : a.lock ≡ l = alone a.lock trail covers in
              let here : a ≡ link 0 l = same_link a 0 l node lock in
              let index : i ≡ entry.0 = apart_one kept i entry.0 (link 0 l) apart
              (from.0 ∙ ap (λ z. Some z) here) entry.1 in
              let same : (a ∷ c) ≡ chain = from_one kept next entry.0 (a ∷ c) chain
              (subst (λ m. AreFrom kept next m (a ∷ c)) index from) entry.2 in
              elim how [
                | inl e ↦ inl (sym e ∙ same)
                | inr less ↦ inr (subst (λ z. StepsBefore z (x ∷ links)) same less)
              ]

          first_of : (other : List Link) → IsChain s t last g l other → (other ≡ chain) ⊎ StepsBefore chain other
          first_of [] is = absurd is
          first_of (x ∷ links) is = settled x links is.0 (ahead x links is.1)
