-- What is found and kept grows.
use Rattle.std.proofs.Common.{◌≡◌, ◌⊎◌, ℕ, ◌<◌, List, [], ◌∷◌, ◌++◌, Option, Some, None, Bool, true, false, inl, inr}
use Rattle.std.proofs.Common.{refl, sym, ap, ◌∙◌, subst, length, length-append, append_assoc, arith, ◌↔◌, true≢false}
use Rattle.std.proofs.lemmas.List.{append-nil, map-append, length-set}
use Rattle.std.proofs.lemmas.Option.{slice_get_within, get_or_from_slice_get, slice_get-map}
use Rattle.std.specs.{Prelude.{slice_get, slice_index_or, slice_set, if◌then◌else◌}, Option.{option_map}}
use Rattle.sect_lemmas.specs.Lists.{Has}
use Rattle.sect_lemmas.proofs.{Membership.{Has-cases, Has-left, Has-right, Has-slice_get, Has-unmap}, Places.{one_at}}
use Rattle.sect_lemmas.proofs.Elements.{slice_get-left, get_front}
use Rattle.sect_graph.specs.declared.flow.Node.{Node}
use Rattle.sect_names.specs.{declared.link.Link.{Link}, declared.lock.Lock.{Lock}, Schemes.{SchemeView}, Chains.{link}}
use Rattle.sect_names.proofs.shared.Covering.{covers_refl, covers_trans}
use Rattle.sect_names.proofs.shared.Linking.{same_link}
use Rattle.sect_infer.specs.Numbers.{AreApart}
use Rattle.sect_infer.specs.Numberings.{NumberingView, HasLock, IsNumbering, Extends, lock_at}
use Rattle.sect_infer.proofs.shared.{Apart.{apart_push, apart_one}, Bounding.{named}}
use Rattle.sect_infer.proofs.shared.Extending.{extends_none, extends_then, extends_at}
use Rattle.sect_chains.specs.declared.keep.KeptLink.{KeptLink}
use Rattle.sect_chains.specs.steps.Keeping.{KeptView, kept, step_of, IsMarkedAt, is_outdone, is_new, keep_one}
use Rattle.sect_chains.specs.steps.Keeping.{keep_each}
use Rattle.sect_chains.specs.steps.Marking.{is_marked, with_mark}
use Rattle.sect_infer.proofs.shared.Undone.{any_has}
use Rattle.sect_chains.specs.steps.Trails.{HasTrail, LeadOn}
use Rattle.sect_chains.specs.steps.Working.{link_of, links_of, nexts_of, IsFoundAt, IsCoveredAt, IsKept, IsReason}
use Rattle.sect_chains.specs.steps.Working.{Grows}
use Rattle.sect_chains.proofs.{Keeping.{found_new, new_told, old_told}, Trails.{leads_push}}
use Rattle.sect_names.specs.declared.lock.Lock.TheVariants as lock

-- steps stand for the same where the numbering is extended
pub links_same : (a b : NumberingView) → Extends a b → (steps : List KeptLink)
    → ((x : KeptLink) → Has steps x → x.number < length a.keys) → links_of b.keys steps ≡ links_of a.keys steps
links_same a b e [] within = refl
links_same a b e (x ∷ xs) within =
    let l = lock_at a.keys x.number in
    let at = extends_at a b e x.number l (named a.keys x.number (within x (inl refl))) in
    ap (λ k. link x.node k ∷ links_of b.keys xs) (get_or_from_slice_get b.keys x.number l lock.All at)
    ∙ ap (λ ls. link_of a.keys x ∷ ls) (links_same a b e xs (λ y h. within y (inr h)))

-- what the step at an index stands for, and to which it links
pub link_is : (keys : List Lock) (steps : List KeptLink) (i : ℕ) (x : KeptLink) (l : Lock) → slice_get steps i ≡ Some x
    → slice_get keys x.number ≡ Some l → slice_get (links_of keys steps) i ≡ Some (link x.node l)
link_is keys steps i x l at got =
    slice_get-map (link_of keys) steps i ∙ ap (option_map (link_of keys)) at
    ∙ ap (λ m. Some (link x.node m)) (get_or_from_slice_get keys x.number l lock.All got)

-- there is a link at each index
pub link_at : (keys : List Lock) (steps : List KeptLink) (i : ℕ) (x : KeptLink) → slice_get steps i ≡ Some x
    → (b : Link) × (slice_get (links_of keys steps) i ≡ Some b) × (b.node ≡ x.node)
link_at keys steps i x at = (
  link_of keys x,
  slice_get-map (link_of keys) steps i
      ∙ ap (option_map (link_of keys)) at,
  refl,
)

pub next_is : (steps : List KeptLink) (i : ℕ) (x : KeptLink) → slice_get steps i ≡ Some x
    → slice_get (nexts_of steps) i ≡ Some x.next
next_is steps i x at = slice_get-map (λ (y : KeptLink). y.next) steps i ∙ ap (option_map (λ (y : KeptLink). y.next)) at

-- the lock of a step that stands for this link
pub lock_is : (keys : List Lock) (steps : List KeptLink) (i : ℕ) (x : KeptLink) (b : Link) → x.number < length keys
    → slice_get steps i ≡ Some x
    → slice_get (links_of keys steps) i ≡ Some b → (x.node ≡ b.node) × (slice_get keys x.number ≡ Some b.lock)
lock_is keys steps i x b within at is =
    let same : link x.node (lock_at keys x.number) ≡ b
    = one_at (links_of keys steps) i (link x.node (lock_at keys x.number)) b
    (link_is keys steps i x (lock_at keys x.number) at (named keys x.number within)) is in
    (ap (λ z. z.node) same, named keys x.number within ∙ ap (λ z. Some z.lock) same)

module _ (s : SchemeView) (t : ℕ) (last : List Lock) (g : List Node) where
  -- the locks of kept steps are in the numbering
  pub kept_numbers : (a : NumberingView) (w : KeptView) → IsKept s t last g a w → (x : KeptLink) → Has w.steps x
      → x.number < length a.keys
  kept_numbers a w k x h = k.numbers x.node x.number (k.there x h)

  -- nothing more
  pub grows_none : (a : NumberingView) (w : KeptView) (P : Link → Type 0) → IsKept s t last g a w
      → ((x : Link) → P x → ⊥)
      → Grows s t last g a w a w P
  grows_none a w P k nothing = record {
    kept = k;
    longer = extends_none a;
    found = λ j n h. h;
    steps = ([], sym (append-nil w.steps));
    each = λ x p. absurd (nothing x p);
  }

  -- the same with another property, that less has
  pub grows_as : (a : NumberingView) (w : KeptView) (b : NumberingView) (v : KeptView) (P Q : Link → Type 0)
      → ((x : Link) → Q x → P x) → Grows s t last g a w b v P → Grows s t last g a w b v Q
  grows_as a w b v P Q to f = record {
    kept = f.kept;
    longer = f.longer;
    found = f.found;
    steps = f.steps;
    each = λ x q. f.each x (to x q);
  }

  -- what was found stays
  pub grows_found : (a : NumberingView) (w : KeptView) (b : NumberingView) (v : KeptView) (P : Link → Type 0)
      → Grows s t last g a w b v P → (x : Link) → IsFoundAt a.keys w.found x → IsFoundAt b.keys v.found x
  grows_found a w b v P f x h = (h.0, f.found x.node h.0 h.1, extends_at a b f.longer h.0 x.lock h.2)

  -- first some and then others
  pub grows_then : (a : NumberingView) (w : KeptView) (b : NumberingView) (v : KeptView) (c : NumberingView)
      (u : KeptView)
      (P Q : Link → Type 0) → Grows s t last g a w b v P → Grows s t last g b v c u Q
      → Grows s t last g a w c u (λ x. P x ⊎ Q x)
  grows_then a w b v c u P Q f h = record {
    kept = h.kept;
    longer = extends_then a b c f.longer h.longer;
    found = λ j n k. h.found j n (f.found j n k);
    steps = (
      f.steps.0 ++ h.steps.0,
      h.steps.1 ∙ ap (λ l. l ++ h.steps.0) f.steps.1
          ∙ append_assoc w.steps f.steps.0 h.steps.0,
    );
    each = λ x k. elim k [ inl p ↦ grows_found b v c u Q h x (f.each x p) | inr q ↦ h.each x q ];
  }

  -- a step that was kept stays at its index
  pub grows_at : (a : NumberingView) (w : KeptView) (b : NumberingView) (v : KeptView) (P : Link → Type 0)
      → IsKept s t last g a w → Grows s t last g a w b v P → (i : ℕ) (x : Link)
      → slice_get (links_of a.keys w.steps) i ≡ Some x → slice_get (links_of b.keys v.steps) i ≡ Some x
  grows_at a w b v P k f i x at =
      let links : links_of b.keys v.steps ≡ links_of a.keys w.steps ++ links_of b.keys f.steps.0
      = ap (links_of b.keys) f.steps.1 ∙ map-append (link_of b.keys) w.steps f.steps.0
      ∙ ap (λ ls. ls ++ links_of b.keys f.steps.0) (links_same a b f.longer w.steps (kept_numbers a w k)) in
      subst (λ ls. slice_get ls i ≡ Some x) (sym links) (slice_get-left (links_of a.keys w.steps)
      (links_of b.keys f.steps.0) i x at)

  -- the numbering is extended
  pub grows_extended : (a : NumberingView) (w : KeptView) (b : NumberingView) → IsKept s t last g a w → Extends a b
      → IsNumbering s b
      → Grows s t last g a w b w (λ x. ⊥)
  grows_extended a w b k e is =
      let same = links_same a b e w.steps (kept_numbers a w k) in
      let back : (x : Link) → IsFoundAt b.keys w.found x → IsFoundAt a.keys w.found x
      = λ x h. (
        h.0,
        h.1,
        get_front a.keys e.0 h.0 x.lock (k.numbers x.node h.0 h.1)
            (subst (λ ks. slice_get ks h.0 ≡ Some x.lock) e.1 h.2),
      ) in
      record {
        kept = record {
          numbering = is;
          count = k.count;
          numbers = λ j n h. (let within = k.numbers j n h in
              omega (arith, within, ap length e.1, length-append a.keys e.0));
          trails = λ x h. k.trails x (back x h);
          there = k.there;
          leads = subst (λ ls. LeadOn s t last g ls (nexts_of w.steps)) (sym same) k.leads;
          covered = λ x h. subst (λ ls. IsCoveredAt s ls x) (sym same) (k.covered x (back x h));
          apart = subst (λ ls. AreApart ls) (sym same) k.apart;
        };
        longer = e;
        found = λ j n h. h;
        steps = ([], sym (append-nil w.steps));
        each = λ x p. absurd p;
      }

  -- the lock of a kept step was found at its node
  pub step_found : (a : NumberingView) (w : KeptView) → IsKept s t last g a w → (x : KeptLink) (l : Lock)
      → Has w.steps x
      → slice_get a.keys x.number ≡ Some l → IsFoundAt a.keys w.found (link x.node l)
  step_found a w k x l h at = (x.number, k.there x h, at)

  -- steps lead on from each that is kept
  pub kept_trail : (a : NumberingView) (w : KeptView) → IsKept s t last g a w → (x : Link)
      → Has (links_of a.keys w.steps) x → HasTrail s t last g x
  kept_trail a w k x h =
      let y = Has-unmap (link_of a.keys) w.steps x h in
      let there = k.there y.0 y.1 in
      subst (HasTrail s t last g) y.2
      (k.trails (link_of a.keys y.0) (y.0.number, there, named a.keys y.0.number (k.numbers y.0.node y.0.number there)))

  reason_trail : (a : NumberingView) (w : KeptView) → IsKept s t last g a w → (x : Link) (o : Option ℕ)
      → IsReason s t last g (links_of a.keys w.steps) x o → HasTrail s t last g x
  reason_trail a w k x None why = ([], why)
  reason_trail a w k x (Some j) why =
      let r = kept_trail a w k why.0 (Has-slice_get (links_of a.keys w.steps) j why.0 why.1) in
      (why.0 ∷ r.0, (why.2, r.1))

  -- a reason stays one where more is kept
  pub reason_more : (a : NumberingView) (old new : List KeptLink) → ((more : List KeptLink) × (new ≡ old ++ more))
      → (x : Link) (o : Option ℕ)
      → IsReason s t last g (links_of a.keys old) x o → IsReason s t last g (links_of a.keys new) x o
  reason_more a old new grown x None why = why
  reason_more a old new grown x (Some j) why =
      let links : links_of a.keys new ≡ links_of a.keys old ++ links_of a.keys grown.0
      = ap (links_of a.keys) grown.1 ∙ map-append (link_of a.keys) old grown.0 in (
        why.0,
        subst (λ ls. slice_get ls j ≡ Some why.0) (sym links)
            (slice_get-left (links_of a.keys old) (links_of a.keys grown.0) j why.0 why.1),
        why.2,
      )

  module _ (a : NumberingView) (w : KeptView) (k : IsKept s t last g a w) (x : KeptLink) (l : Lock)
      (at : slice_get a.keys x.number ≡ Some l)
      (within : x.node < length w.found) (why : IsReason s t last g (links_of a.keys w.steps) (link x.node l) x.next)
    where
      abbrev before : List Bool
      before = slice_index_or w.found x.node []

      abbrev now : List (List Bool)
      now = slice_set w.found x.node (with_mark before (length a.above) x.number)

      abbrev links : List Link
      links = links_of a.keys w.steps

      -- what is marked now
      marked : (j n : ℕ) → IsMarkedAt now j n ↔ (IsMarkedAt w.found j n ⊎ ((j ≡ x.node) × (n ≡ x.number)))
      marked = found_new w.found (length a.above) x.node x.number within
          (let there = slice_get_within a.keys x.number l at in omega (arith, there, k.numbering.count))

      still : (j n : ℕ) → IsMarkedAt w.found j n → IsMarkedAt now j n
      still j n h = (marked j n).1 (inl h)

      -- what is found was found before, or is the lock of the step
      cases : (y : Link) → IsFoundAt a.keys now y → IsFoundAt a.keys w.found y ⊎ (y ≡ link x.node l)
      cases y h = elim ((marked y.node h.0).0 h.1) [
        | inl old ↦ inl (h.0, old, h.2)
        | inr e ↦ inr (same_link y x.node l e.0
            (one_at a.keys x.number y.lock l (subst (λ n. slice_get a.keys n ≡ Some y.lock) e.1 h.2) at))
      ]

      put_there : IsMarkedAt now x.node x.number
      put_there = (marked x.node x.number).1 (inr (refl, refl))

      here : IsFoundAt a.keys now (link x.node l)
      here = (x.number, put_there, at)

      numbers : (j n : ℕ) → IsMarkedAt now j n → n < length a.keys
      numbers j n h = elim ((marked j n).0 h) [
        | inl old ↦ k.numbers j n old
        | inr e ↦ (let there = slice_get_within a.keys x.number l at in omega (arith, there, e.1))
      ]

      trails : (y : Link) → IsFoundAt a.keys now y → HasTrail s t last g y
      trails y h = elim (cases y h) [
        | inl old ↦ k.trails y old
        | inr e ↦ subst (HasTrail s t last g) (sym e) (reason_trail a w k (link x.node l) x.next why)
      ]

      -- a lock that is new at the node has no step there
      fresh : is_marked before x.number ≡ false → Has links (link x.node l) → ⊥
      fresh off h =
          let y = Has-unmap (link_of a.keys) w.steps (link x.node l) h in
          let there = k.there y.0 y.1 in
          let node : y.0.node ≡ x.node = ap (λ b. b.node) y.2 in
          let got : slice_get a.keys y.0.number ≡ Some l
          = named a.keys y.0.number (k.numbers y.0.node y.0.number there) ∙ ap (λ b. Some b.lock) y.2 in
          let number : y.0.number ≡ x.number = apart_one a.keys y.0.number x.number l k.numbering.apart got at in
          true≢false (sym (subst (λ n. is_marked before n ≡ true) number
          (subst (λ j. IsMarkedAt w.found j y.0.number) node there)) ∙ off)

      -- one that isn't new has a step that covers it
      by_another : is_new a.above before x.number ≡ false → IsCoveredAt s links (link x.node l)
      by_another e = elim (old_told (is_marked before x.number) (is_outdone a.above before x.number) e) [
        | inl has ↦ k.covered (link x.node l) (x.number, has, at)
        | inr under ↦
            let m = any_has (is_marked before) (slice_index_or a.above x.number []) under in
            let big = (k.numbering.told x.number l at).cover m.0 m.1 in
            let top = k.covered (link x.node big.0) (m.0, m.2, big.1) in
            (top.0, top.1, covers_trans s top.0 big.0 l top.2 big.2.0)
      ]

      links_more : links_of a.keys (w.steps ++ x ∷ []) ≡ links ++ link x.node l ∷ []
      links_more = map-append (link_of a.keys) w.steps (x ∷ [])
          ∙ ap (λ m. links ++ link x.node m ∷ []) (get_or_from_slice_get a.keys x.number l lock.All at)

      nexts_more : nexts_of (w.steps ++ x ∷ []) ≡ nexts_of w.steps ++ x.next ∷ []
      nexts_more = map-append (λ (y : KeptLink). y.next) w.steps (x ∷ [])

      kept_so : (b : Bool) → is_new a.above before x.number ≡ b
          → IsKept s t last g a (kept now (if b then w.steps ++ x ∷ [] else w.steps))
      kept_so true e = record {
        numbering = k.numbering;
        count = length-set w.found x.node (with_mark before (length a.above) x.number) ∙ k.count;
        numbers = numbers;
        trails = trails;
        there = λ y h. elim (Has-cases w.steps (x ∷ []) y h) [
          | inl old ↦ still y.node y.number (k.there y old)
          | inr one ↦ elim one [
            | inl is ↦ subst (λ (z : KeptLink). IsMarkedAt now z.node z.number) is put_there
            | inr none ↦ absurd none
          ]
        ];
        leads = subst (λ ls. LeadOn s t last g ls (nexts_of (w.steps ++ x ∷ []))) (sym links_more)
            (subst (LeadOn s t last g (links ++ link x.node l ∷ [])) (sym nexts_more)
            (leads_push s t last g links (nexts_of w.steps) (link x.node l) x.next why k.leads));
        covered = λ y h. subst (λ ls. IsCoveredAt s ls y) (sym links_more) (elim (cases y h) [
          | inl old ↦ (let c = k.covered y old in (c.0, Has-left links (link x.node l ∷ []) (link y.node c.0) c.1, c.2))
          | inr is ↦ subst (IsCoveredAt s (links ++ link x.node l ∷ [])) (sym is)
              (l, Has-right links (link x.node l ∷ []) (link x.node l) (inl refl), covers_refl s l)
        ]);
        apart = subst (λ ls. AreApart ls) (sym links_more) (apart_push links (link x.node l) k.apart
            (fresh (new_told (is_marked before x.number) (is_outdone a.above before x.number) e)));
      }
      kept_so false e = record {
        numbering = k.numbering;
        count = length-set w.found x.node (with_mark before (length a.above) x.number) ∙ k.count;
        numbers = numbers;
        trails = trails;
        there = λ y h. still y.node y.number (k.there y h);
        leads = k.leads;
        covered = λ y h. elim (cases y h) [
          | inl old ↦ k.covered y old
          | inr is ↦ subst (IsCoveredAt s links) (sym is) (by_another e)
        ];
        apart = k.apart;
      }

      steps_so : (b : Bool) → (more : List KeptLink) × ((if b then w.steps ++ x ∷ [] else w.steps) ≡ w.steps ++ more)
      steps_so true = (x ∷ [], refl)
      steps_so false = ([], sym (append-nil w.steps))

      -- a step whose lock is generated, or that links to one that is kept
      pub grows_one : Grows s t last g a w a (keep_one a.above w x) (λ y. y ≡ link x.node l)
      grows_one = record {
        kept = kept_so (is_new a.above before x.number) refl;
        longer = extends_none a;
        found = still;
        steps = steps_so (is_new a.above before x.number);
        each = λ y e. subst (IsFoundAt a.keys now) (sym e) here;
      }

  -- several locks at one node
  pub grows_each : (a : NumberingView) (w : KeptView) → IsKept s t last g a w → (j : ℕ) (o : Option ℕ)
      → j < length w.found → (ns : List ℕ)
      → ((n : ℕ) → Has ns n → (l : Lock) × (slice_get a.keys n ≡ Some l)
      × IsReason s t last g (links_of a.keys w.steps) (link j l) o)
      → Grows s t last g a w a (keep_each a.above w j o ns) (λ y. (y.node ≡ j) × HasLock a.keys ns y.lock)
  grows_each a w k j o within [] why = grows_none a w (λ y. (y.node ≡ j) × HasLock a.keys [] y.lock) k (λ y h. h.1.1)
  grows_each a w k j o within (n ∷ ns) why =
      let r = why n (inl refl) in
      let x = step_of j o n in
      let v = keep_one a.above w x in
      let first = grows_one a w k x r.0 r.1 within r.2 in
      let rest = grows_each a v first.kept j o (omega (arith, within, k.count, first.kept.count)) ns
      (λ m h. (let q = why m (inr h) in (q.0, q.1, reason_more a w.steps v.steps first.steps (link j q.0) o q.2))) in
      grows_as a w a (keep_each a.above v j o ns) (λ y. (y ≡ link j r.0) ⊎ ((y.node ≡ j) × HasLock a.keys ns y.lock))
      (λ y. (y.node ≡ j) × HasLock a.keys (n ∷ ns) y.lock)
      (λ y h. elim h.1.1 [
        | inl e ↦ inl (same_link y j r.0 h.0
            (one_at a.keys n y.lock r.0 (subst (λ m. slice_get a.keys m ≡ Some y.lock) (sym e) h.1.2) r.1))
        | inr there ↦ inr (h.0, (h.1.0, there, h.1.2))
      ])
      (grows_then a w a v a (keep_each a.above v j o ns) (λ y. y ≡ link j r.0) (λ y. (y.node ≡ j)
      × HasLock a.keys ns y.lock) first rest)
