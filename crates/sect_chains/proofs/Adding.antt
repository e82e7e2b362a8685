-- Steps that are added in order.
use Rattle.std.proofs.Common.{◌≡◌, ◌⊎◌, ℕ, ◌+◌, ◌<◌, List, [], ◌∷◌, ◌++◌, Option, Some, None, Bool, true, false, length}
use Rattle.std.proofs.Common.{zero, suc, take, map, inl, inr, refl, sym, ap, ◌∙◌, subst, arith}
use Rattle.std.proofs.{lemmas.List.{map-append, length-map}, lemmas.Option.{slice_get_within, get_or_from_slice_get}}
use Rattle.std.specs.Prelude.{slice_get, slice_index_or, if◌then◌else◌}
use Rattle.sect_lemmas.specs.Lists.{Has}
use Rattle.sect_lemmas.proofs.{Listing.{Has-map}, Places.{at_of, pushed_at, Has-index}, Elements.{slice_get-left}}
use Rattle.sect_graph.specs.{declared.flow.Node.{Node}, Paths.{LeadsTo}}
use Rattle.sect_names.specs.{declared.link.Link.{Link}, declared.lock.Lock.{Lock}, Schemes.{SchemeView}}
use Rattle.sect_names.specs.{Order.{AreInOrder}, Carrying.{CarriedBack}, Chains.{link, IsGeneratedAt}}
use Rattle.sect_names.proofs.shared.Linking.{same_link}
use Rattle.sect_infer.specs.Numberings.{NumberingView, AreNumbers, IsNumbered, Finds, IsOrderOf, lock_at}
use Rattle.sect_infer.proofs.shared.Bounding.{named}
use Rattle.sect_chains.specs.{declared.keep.KeptLink.{KeptLink}, Chains.{StepBefore}}
use Rattle.sect_chains.specs.steps.Keeping.{KeptView, step_of, is_new, keep_one, keep_each}
use Rattle.sect_chains.specs.steps.Working.{link_of, links_of, nexts_of, IsKept, IsReason}
use Rattle.sect_chains.specs.steps.Ordering.{CameBefore, AreSorted, AllCameBefore, IsInTime, Adds, IsBelow}
use Rattle.sect_chains.proofs.Carrying.{carried_lock}
use Rattle.sect_chains.proofs.Growing.{grows_one, grows_at, grows_extended, reason_more, links_same, kept_numbers}
use Rattle.sect_names.specs.declared.lock.Lock.TheVariants as lock

-- of two steps that link to the same one the first came before the other
pub by_place : (o : Option ℕ) (a b : Link) → StepBefore a b → CameBefore o a o b
by_place None a b h = h
by_place (Some j) a b h = inr (refl, h)

-- nothing is added
pub adds_none : (s : SchemeView) (kept : List Link) (next : List (Option ℕ)) (o : Option ℕ)
    (Added Wanted : Link → Type 0) → AreSorted kept next → ((x : Link) → Wanted x → ⊥)
    → Adds s kept next kept next o Added Wanted
adds_none s kept next o Added Wanted sorted nothing = record {
  sorted = sorted;
  still = λ i a p at to. (at, to);
  only = λ i a p at to. inl (at, to);
  in_time = λ x w. absurd (nothing x w);
}

module _ (s : SchemeView) (kept : List Link) (next : List (Option ℕ)) (more : List Link)
    (more_next : List (Option ℕ)) (o : Option ℕ) where
  -- the same in other words
  pub adds_as : (Added Wanted Other Less : Link → Type 0) → ((x : Link) → Added x → Other x)
      → ((x : Link) → Less x → Wanted x)
      → Adds s kept next more more_next o Added Wanted → Adds s kept next more more_next o Other Less
  adds_as Added Wanted Other Less to back f = record {
    sorted = f.sorted;
    still = f.still;
    only = λ i a p at is. elim (f.only i a p at is) [ inl old ↦ inl old | inr new ↦ inr (new.0, to a new.1) ];
    in_time = λ x w. f.in_time x (back x w);
  }

  -- what is kept in time is so where more is added
  pub time_more : (Added Wanted : Link → Type 0) → Adds s kept next more more_next o Added Wanted
      → (p : Option ℕ) (x : Link)
      → IsInTime s kept next p x → IsInTime s more more_next p x
  time_more Added Wanted f p x (i, a, q, at, to, n, c, how) =
      (let there = f.still i a q at to in (i, a, q, there.0, there.1, n, c, how))

  -- first some and then others
  pub adds_then : (most : List Link) (most_next : List (Option ℕ)) (Added Wanted Then Later : Link → Type 0)
      → Adds s kept next more more_next o Added Wanted → Adds s more more_next most most_next o Then Later
      → Adds s kept next most most_next o (λ x. Added x ⊎ Then x) (λ x. Wanted x ⊎ Later x)
  adds_then most most_next Added Wanted Then Later f h = record {
    sorted = h.sorted;
    still = λ i a p at to. (let there = f.still i a p at to in h.still i a p there.0 there.1);
    only = λ i a p at to. elim (h.only i a p at to) [
      | inl old ↦ elim (f.only i a p old.0 old.1) [ inl first ↦ inl first | inr new ↦ inr (new.0, inl new.1) ]
      | inr new ↦ inr (new.0, inr new.1)
    ];
    in_time = λ x w. elim w [ inl first ↦ later x (f.in_time x first) | inr new ↦ h.in_time x new ];
  }
    where
      later : (x : Link) → IsInTime s more more_next o x → IsInTime s most most_next o x
      later x (i, a, q, at, to, n, c, how) =
          (let there = h.still i a q at to in (i, a, q, there.0, there.1, n, c, how))

module _ (kept : List Link) (next : List (Option ℕ)) (a : Link) (o : Option ℕ) (long : length next ≡ length kept)
  where
    -- a step that is pushed is the last one, and the others stay
    pub push_only : (i : ℕ) (b : Link) (p : Option ℕ) → slice_get (kept ++ a ∷ []) i ≡ Some b
        → slice_get (next ++ o ∷ []) i ≡ Some p
        → ((slice_get kept i ≡ Some b) × (slice_get next i ≡ Some p)) ⊎ ((i ≡ length kept) × (p ≡ o) × (b ≡ a))
    push_only i b p at to = elim (pushed_at kept a b i at) [
      | inl e ↦ elim (pushed_at next o p i to) [
        | inl f ↦ inr (e.0, sym f.1, sym e.1)
        | inr h ↦ absurd (omega (arith, long, e.0, slice_get_within next i p h))
      ]
      | inr h ↦ elim (pushed_at next o p i to) [
        | inl f ↦ absurd (omega (arith, long, f.0, slice_get_within kept i b h))
        | inr k ↦ inl (h, k)
      ]
    ]

    pub push_sorted : AreSorted kept next → AllCameBefore kept next o a → AreSorted (kept ++ a ∷ []) (next ++ o ∷ [])
    push_sorted sorted before i j b c p q lt at_b at_c to_p to_q = elim (push_only j c q at_c to_q) [
      | inl old ↦ elim (push_only i b p at_b to_p) [
        | inl early ↦ sorted i j b c p q lt early.0 old.0 early.1 old.1
        | inr late ↦ absurd (omega (arith, lt, late.0, slice_get_within kept j c old.0))
      ]
      | inr new ↦ elim (push_only i b p at_b to_p) [
        | inl early ↦ subst (λ z. CameBefore p b q z) (sym new.2)
            (subst (λ z. CameBefore p b z a) (sym new.1) (before i b p early.0 early.1))
        | inr late ↦ absurd (omega (arith, lt, late.0, new.0))
      ]
    ]

module _ (s : SchemeView) (t : ℕ) (last : List Lock) (g : List Node) where
  module _ (a : NumberingView) (w : KeptView) (k : IsKept s t last g a w) (x : KeptLink) (l : Lock)
      (at : slice_get a.keys x.number ≡ Some l) (within : x.node < length w.found)
      (why : IsReason s t last g (links_of a.keys w.steps) (link x.node l) x.next)
      (sorted : AreSorted (links_of a.keys w.steps) (nexts_of w.steps))
      (before : AllCameBefore (links_of a.keys w.steps) (nexts_of w.steps) x.next (link x.node l))
    where
      abbrev one_more : KeptView
      one_more = keep_one a.above w x

      abbrev here : Link
      here = link x.node l

      abbrev links : List Link
      links = links_of a.keys w.steps

      links_more : links_of a.keys (w.steps ++ x ∷ []) ≡ links ++ here ∷ []
      links_more = map-append (link_of a.keys) w.steps (x ∷ [])
          ∙ ap (λ m. links ++ link x.node m ∷ []) (get_or_from_slice_get a.keys x.number l lock.All at)

      nexts_more : nexts_of (w.steps ++ x ∷ []) ≡ nexts_of w.steps ++ x.next ∷ []
      nexts_more = map-append (λ (y : KeptLink). y.next) w.steps (x ∷ [])

      -- what comes of the steps, whether one is pushed or not
      record Comes (more : List Link) (more_next : List (Option ℕ)) : Type 0 where
        sorts : AreSorted more more_next
        stays : (i : ℕ) (b : Link) (p : Option ℕ) → slice_get links i ≡ Some b → slice_get (nexts_of w.steps) i ≡ Some p
            → (slice_get more i ≡ Some b) × (slice_get more_next i ≡ Some p)
        alone : (i : ℕ) (b : Link) (p : Option ℕ) → slice_get more i ≡ Some b → slice_get more_next i ≡ Some p
            → ((slice_get links i ≡ Some b) × (slice_get (nexts_of w.steps) i ≡ Some p)) ⊎ ((p ≡ x.next) × (b ≡ here))

      longer : Comes (links ++ here ∷ []) (nexts_of w.steps ++ x.next ∷ [])
      longer = record {
        sorts = push_sorted links (nexts_of w.steps) here x.next k.leads.count sorted before;
        stays = λ i b p at_b to_p.
            (slice_get-left links (here ∷ []) i b at_b, slice_get-left (nexts_of w.steps) (x.next ∷ []) i p to_p);
        alone = λ i b p at_b to_p. elim (push_only links (nexts_of w.steps) here x.next k.leads.count i b p at_b to_p) [
          | inl old ↦ inl old
          | inr new ↦ inr (new.1, new.2)
        ];
      }

      comes : (b : Bool) → Comes (links_of a.keys (if b then w.steps ++ x ∷ [] else w.steps))
          (nexts_of (if b then w.steps ++ x ∷ [] else w.steps))
      comes true = subst (λ z. Comes z (nexts_of (w.steps ++ x ∷ []))) (sym links_more)
          (subst (Comes (links ++ here ∷ [])) (sym nexts_more) longer)
      comes false = record {
        sorts = sorted;
        stays = λ i b p at_b to_p. (at_b, to_p);
        alone = λ i b p at_b to_p. inl (at_b, to_p);
      }

      pushed : Comes (links_of a.keys one_more.steps) (nexts_of one_more.steps)
      pushed = comes (is_new a.above (slice_index_or w.found x.node []) x.number)

      -- a lock that covers the step's is kept now, and in time
      there : IsInTime s (links_of a.keys one_more.steps) (nexts_of one_more.steps) x.next here
      there =
          let f = grows_one s t last g a w k x l at within why in
          let top = f.kept.covered here (f.each here refl) in
          let i = Has-index (links_of a.keys one_more.steps) (link x.node top.0) top.1 in
          let inside = slice_get_within (links_of a.keys one_more.steps) i.0 (link x.node top.0) i.1 in
          let p = at_of (nexts_of one_more.steps) i.0 (omega (arith, inside, f.kept.leads.count)) in (
            i.0,
            link x.node top.0,
            p.0,
            i.1,
            p.1,
            refl,
            top.2,
            elim (pushed.alone i.0 (link x.node top.0) p.0 i.1 p.1) [
              | inl old ↦ inl (before i.0 (link x.node top.0) p.0 old.0 old.1)
              | inr new ↦ inr new
            ],
          )

      -- a step is kept, unless its lock was found or is covered
      pub one_adds : Adds s links (nexts_of w.steps) (links_of a.keys one_more.steps) (nexts_of one_more.steps) x.next
          (λ z. z ≡ here) (λ z. z ≡ here)
      one_adds = record {
        sorted = pushed.sorts;
        still = pushed.stays;
        only = pushed.alone;
        in_time = λ z e. subst (IsInTime s (links_of a.keys one_more.steps) (nexts_of one_more.steps) x.next) (sym e)
            there;
      }

  -- several at one node, in the canonical order of their locks
  pub each_adds : (a : NumberingView) (w : KeptView) → IsKept s t last g a w → (j : ℕ) (o : Option ℕ)
      → j < length w.found → (ns : List ℕ) → AreNumbers a.keys ns → AreInOrder (map (lock_at a.keys) ns)
      → ((n : ℕ) → Has ns n → IsReason s t last g (links_of a.keys w.steps) (link j (lock_at a.keys n)) o)
      → AreSorted (links_of a.keys w.steps) (nexts_of w.steps)
      → ((n : ℕ) → Has ns n
      → AllCameBefore (links_of a.keys w.steps) (nexts_of w.steps) o (link j (lock_at a.keys n)))
      → Adds s (links_of a.keys w.steps) (nexts_of w.steps) (links_of a.keys (keep_each a.above w j o ns).steps)
      (nexts_of (keep_each a.above w j o ns).steps) o (λ z. z.node ≡ j)
      (λ z. (n : ℕ) × Has ns n × (z ≡ link j (lock_at a.keys n)))
  each_adds a w k j o within [] numbers order why sorted before =
      adds_none s (links_of a.keys w.steps) (nexts_of w.steps) o (λ z. z.node ≡ j)
      (λ z. (n : ℕ) × Has [] n × (z ≡ link j (lock_at a.keys n))) sorted (λ z h. h.1)
  each_adds a w k j o within (n ∷ ns) numbers order why sorted before =
      let x = step_of j o n in
      let l = lock_at a.keys n in
      let v = keep_one a.above w x in
      let u = keep_each a.above v j o ns in
      let at = named a.keys n (numbers n (inl refl)) in
      let grown = grows_one s t last g a w k x l at within (why n (inl refl)) in
      let first = one_adds a w k x l at within (why n (inl refl)) sorted (before n (inl refl)) in
      let rest = each_adds a v grown.kept j o (omega (arith, within, k.count, grown.kept.count)) ns
      (λ m h. numbers m (inr h)) order.1
      (λ m h. reason_more s t last g a w.steps v.steps grown.steps (link j (lock_at a.keys m)) o (why m (inr h)))
      first.sorted
      (λ m h i b p at_b to_p. elim (first.only i b p at_b to_p) [
        | inl old ↦ before m (inr h) i b p old.0 old.1
        | inr new ↦ subst (λ z. CameBefore p z o (link j (lock_at a.keys m))) (sym new.1)
            (subst (λ z. CameBefore z (link j l) o (link j (lock_at a.keys m))) (sym new.0)
            (by_place o (link j l) (link j (lock_at a.keys m))
            (inr (refl, order.0 (lock_at a.keys m) (Has-map (lock_at a.keys) ns m h)))))
      ]) in
      adds_as s (links_of a.keys w.steps) (nexts_of w.steps) (links_of a.keys u.steps) (nexts_of u.steps) o
      (λ z. (z ≡ link j l) ⊎ (z.node ≡ j))
      (λ z. (z ≡ link j l) ⊎ ((m : ℕ) × Has ns m × (z ≡ link j (lock_at a.keys m))))
      (λ z. z.node ≡ j) (λ z. (m : ℕ) × Has (n ∷ ns) m × (z ≡ link j (lock_at a.keys m)))
      (λ z h. elim h [ inl e ↦ ap (λ (y : Link). y.node) e | inr e ↦ e ])
      (λ z h. elim h.1 [
        | inl e ↦ inl (h.2 ∙ ap (λ m. link j (lock_at a.keys m)) (sym e))
        | inr there ↦ inr (h.0, there, h.2)
      ])
      (adds_then s (links_of a.keys w.steps) (nexts_of w.steps) (links_of a.keys v.steps) (nexts_of v.steps) o
      (links_of a.keys u.steps) (nexts_of u.steps) (λ z. z ≡ link j l) (λ z. z ≡ link j l) (λ z. z.node ≡ j)
      (λ z. (m : ℕ) × Has ns m × (z ≡ link j (lock_at a.keys m))) first rest)

  -- the step of a lock that is generated
  pub put_adds : (a b : NumberingView) (w : KeptView) (j : ℕ) (l : Lock) (n : ℕ) → IsKept s t last g a w
      → IsNumbered s a b l n → IsGeneratedAt s t last g (link j l) → j < length w.found
      → AreSorted (links_of a.keys w.steps) (nexts_of w.steps)
      → AllCameBefore (links_of a.keys w.steps) (nexts_of w.steps) None (link j l)
      → Adds s (links_of a.keys w.steps) (nexts_of w.steps)
      (links_of b.keys (keep_one b.above w (step_of j None n)).steps)
      (nexts_of (keep_one b.above w (step_of j None n)).steps) None (λ z. z ≡ link j l) (λ z. z ≡ link j l)
  put_adds a b w j l n k numbered generated within sorted before =
      let x = step_of j None n in
      let v = keep_one b.above w x in
      let longer = grows_extended s t last g a w b k numbered.longer numbered.numbering in
      let same = links_same a b numbered.longer w.steps (kept_numbers s t last g a w k) in
      subst (λ ls. Adds s ls (nexts_of w.steps) (links_of b.keys v.steps) (nexts_of v.steps) None (λ z. z ≡ link j l)
      (λ z. z ≡ link j l)) same
      (one_adds b w longer.kept x l numbered.there within generated
      (subst (λ ls. AreSorted ls (nexts_of w.steps)) (sym same) sorted)
      (subst (λ ls. AllCameBefore ls (nexts_of w.steps) None (link j l)) (sym same) before))

  -- the steps of what is carried back over a node
  pub carried_adds : (a : NumberingView) (w : KeptView) (b : NumberingView) (j i : ℕ) (y : Node) (x : Link)
      (ms ns : List ℕ) → IsKept s t last g a w
      → slice_get g j ≡ Some y → LeadsTo y x.node → slice_get (links_of a.keys w.steps) i ≡ Some x
      → Finds s a [] b ms (CarriedBack s t y.label x.lock) → IsOrderOf b.keys ms ns
      → AreSorted (links_of a.keys w.steps) (nexts_of w.steps)
      → ((l : Lock) → AllCameBefore (links_of a.keys w.steps) (nexts_of w.steps) (Some i) (link j l))
      → Adds s (links_of a.keys w.steps) (nexts_of w.steps)
      (links_of b.keys (keep_each b.above w j (Some i) ns).steps) (nexts_of (keep_each b.above w j (Some i) ns).steps)
      (Some i) (λ z. z.node ≡ j) (λ z. (z.node ≡ j) × CarriedBack s t y.label x.lock z.lock)
  carried_adds a w b j i y x ms ns k at leads kept finds order sorted before =
      let longer = grows_extended s t last g a w b k finds.longer finds.finding.numbering in
      let stays = grows_at s t last g a w b w (λ z. ⊥) k longer i x kept in
      let same = links_same a b finds.longer w.steps (kept_numbers s t last g a w k) in
      let v = keep_each b.above w j (Some i) ns in
      let within = slice_get_within g j y at in
      let of = carried_lock s t last g a b y x ms finds in
      let added = each_adds b w longer.kept j (Some i) (omega (arith, within, k.count)) ns
      (λ n h. finds.finding.numbers n (order.same n h)) order.sorted
      (λ n h. (x, stays, (y, at, leads, of n (order.same n h))))
      (subst (λ ls. AreSorted ls (nexts_of w.steps)) (sym same) sorted)
      (λ n h. subst (λ ls. AllCameBefore ls (nexts_of w.steps) (Some i) (link j (lock_at b.keys n))) (sym same)
      (before (lock_at b.keys n))) in
      subst (λ ls. Adds s ls (nexts_of w.steps) (links_of b.keys v.steps) (nexts_of v.steps) (Some i) (λ z. z.node ≡ j)
      (λ z. (z.node ≡ j) × CarriedBack s t y.label x.lock z.lock)) same
      (adds_as s (links_of b.keys w.steps) (nexts_of w.steps) (links_of b.keys v.steps) (nexts_of v.steps) (Some i)
      (λ z. z.node ≡ j) (λ z. (n : ℕ) × Has ns n × (z ≡ link j (lock_at b.keys n))) (λ z. z.node ≡ j)
      (λ z. (z.node ≡ j) × CarriedBack s t y.label x.lock z.lock) (λ z e. e)
      (λ z h.
      let m = finds.each z.lock h.1 in (
        m.0,
        order.all m.0 m.1,
        same_link z j (lock_at b.keys m.0) h.0 (sym (get_or_from_slice_get b.keys m.0 z.lock lock.All m.2)),
      ))
      added)

-- no step is kept
pub none_kept : (keys : List Lock) (steps : List KeptLink) → steps ≡ [] → (i : ℕ) (a : Link)
    → slice_get (links_of keys steps) i ≡ Some a → ⊥
none_kept keys steps none i a at =
    (let got : slice_get (links_of keys []) i ≡ Some a = subst (λ xs. slice_get (links_of keys xs) i ≡ Some a)
    none at in
    absurd cc)

pub none_sorted : (keys : List Lock) (steps : List KeptLink) → steps ≡ []
    → AreSorted (links_of keys steps) (nexts_of steps)
none_sorted keys steps none i j a b o p lt at_a at_b to_o to_p = absurd (none_kept keys steps none i a at_a)

-- there are as many links as indices of those to which they link
pub as_many : (keys : List Lock) (steps : List KeptLink) → length (links_of keys steps) ≡ length (nexts_of steps)
as_many keys steps = length-map steps (link_of keys) ∙ sym (length-map steps (λ (x : KeptLink). x.next))

-- what is linked from somewhere is a kept step
pub link_there : (keys : List Lock) (steps : List KeptLink) (i : ℕ) (p : Option ℕ)
    → slice_get (nexts_of steps) i ≡ Some p → (a : Link) × (slice_get (links_of keys steps) i ≡ Some a)
link_there keys steps i p to = at_of (links_of keys steps) i
    (let within = slice_get_within (nexts_of steps) i p to in omega (arith, within, as_many keys steps))

-- a step that links to none stands before each at a later node
pub before_node : (p : Option ℕ) (a x : Link) → p ≡ None → a.node < x.node → CameBefore p a None x
before_node p a x none lt = subst (λ z. CameBefore z a None x) (sym none) (inl lt)

-- one that links below an index came before each that links there
pub before_below : (p : Option ℕ) (a x : Link) (n : ℕ) → IsBelow p n → CameBefore p a (Some n) x
before_below None a x n below = tt
before_below (Some j) a x n below = inl below

pub before_beside : (p : Option ℕ) (a x : Link) (n : ℕ) → p ≡ Some n → a.node < x.node → CameBefore p a (Some n) x
before_beside p a x n is lt = subst (λ z. CameBefore z a (Some n) x) (sym is) (inr (refl, inl lt))

pub below_more : (p : Option ℕ) (n : ℕ) → IsBelow p n → IsBelow p (n + 1)
below_more None n below = tt
below_more (Some j) n below = omega (arith, below)

pub below_here : (p : Option ℕ) (n : ℕ) → p ≡ Some n → IsBelow p (n + 1)
below_here p n is = subst (λ z. IsBelow z (n + 1)) (sym is) (omega arith)

pub below_none : (p : Option ℕ) (n : ℕ) → p ≡ None → IsBelow p n
below_none p n none = subst (λ z. IsBelow z n) (sym none) tt

-- what stands among the first of a list stands there in the whole
pub taken_at : (xs : List ℕ) (i q x : ℕ) → slice_get (take i xs) q ≡ Some x → (q < i) × (slice_get xs q ≡ Some x)
taken_at [] zero q x at = absurd cc
taken_at [] (suc i) q x at = absurd cc
taken_at (y ∷ xs) zero q x at = absurd cc
taken_at (y ∷ xs) (suc i) zero x at = (omega arith, at)
taken_at (y ∷ xs) (suc i) (suc q) x at = (let r = taken_at xs i q x at in (omega (arith, r.0), r.1))
