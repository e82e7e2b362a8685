-- A node is gone over.
use Rattle.std.proofs.Common.{◌≡◌, ◌↔◌, ◌⊎◌, inl, inr, ℕ, suc, ◌<◌, List, [], ◌∷◌, ◌++◌, Option, Some, None, Bool}
use Rattle.std.proofs.Common.{true, false, not, ◌-◌, length, length-set, set, take, drop, refl, sym, ap, length-drop}
use Rattle.std.proofs.{Common.{◌∙◌, subst, arith, true≢false, ◌==◌, rules}, lemmas.Bool.{cases_eq}}
use Rattle.std.proofs.lemmas.List.{get_or-set_same, get_or-set_other, take_all, drop_at}
use Rattle.std.specs.Prelude.{slice_get, slice_index_or}
use Rattle.sect_lemmas.specs.Lists.{Has}
use Rattle.sect_lemmas.proofs.{Membership.{Has-left, Has-right, Has-cases}, Places.{one_at}}
use Rattle.sect_graph.specs.{declared.flow.Node.{Node}, declared.flow.Successors.TheVariants.{Next, Branch}}
use Rattle.sect_graph.specs.Paths.{LeadsTo, IsSuccessor}
use Rattle.sect_names.specs.{declared.lock.Lock.{Lock}, Schemes.{SchemeView}, Locks.{IsOutdone}}
use Rattle.sect_names.specs.Carrying.{Generated, CarriedBack}
use Rattle.sect_names.proofs.shared.Maximals.{covered}
use Rattle.sect_infer.specs.Numbers.{with_numbers, AreApart}
use Rattle.sect_infer.specs.Numberings.{NumberingView, HasLock, AreNumbers, IsFinding, Finds, is_under, fresh_from}
use Rattle.sect_infer.specs.steps.{Needs.{need, IsSeed}, Working.{IsCarried, AreNumbered, IsVisit}}
use Rattle.sect_infer.proofs.Extending.{extends_lock}
use Rattle.sect_infer.proofs.Apart.{with_all_has, with_all_apart, apart_join, apart_back, apart_across, apart_filter}
use Rattle.sect_infer.proofs.{Apart.{Has-filter}, Undone.{told_by}}
use Rattle.sect_infer.proofs.Carrying.{CarriedOf, finds_none, finds_as, finds_then}
use Rattle.sect_infer.proofs.shared.{Extending.{extends_back, extends_numbers}, Undone.{under_is}}

module _ (s : SchemeView) (t : ℕ) (g : List Node) (j : ℕ) (y : Node) (at : slice_get g j ≡ Some y) where
  module _ (lists : List (List ℕ)) (a : NumberingView) where
    -- what is carried back to node j is carried back from a successor
    carried_tells : (keys : List Lock) (r : Lock)
        → IsCarried s t g keys lists j r
        ↔ ((m : ℕ) × LeadsTo y m × CarriedOf s t y.label keys (slice_index_or lists m []) r)
    carried_tells keys r = (
      λ h. (let same = one_at g j h.0 y h.3 at in
          (h.1, subst (λ z. LeadsTo z h.1) same h.4, (h.2, h.5, subst (λ z. CarriedBack s t z.label h.2 r) same h.6))),
      λ h. (y, h.0, h.2.0, at, h.1, h.2.1, h.2.2),
    )

    -- where control goes on to one node, or to one of two
    pub carried_next_node : (b : NumberingView) (ns ms : List ℕ) (next : ℕ) → y.next ≡ Next next
        → Finds s a ns b ms (CarriedOf s t y.label a.keys (slice_index_or lists next []))
        → Finds s a ns b ms (IsCarried s t g a.keys lists j)
    carried_next_node b ns ms next goes f =
        finds_as s a b ns ms (CarriedOf s t y.label a.keys (slice_index_or lists next []))
        (IsCarried s t g a.keys lists j)
        (λ r. (
          λ h. (let k = (carried_tells a.keys r).0 h in
              let is : k.0 ≡ next = subst (λ o. IsSuccessor o k.0) goes k.1 in
              subst (λ m. CarriedOf s t y.label a.keys (slice_index_or lists m []) r) is k.2),
          λ h. (carried_tells a.keys r).1 (next, subst (λ o. IsSuccessor o next) (sym goes) refl, h),
        )) f

    pub carried_branch : (b c : NumberingView) (ns ms os : List ℕ) (holds fails : ℕ) → y.next ≡ Branch holds fails
        → AreNumbers a.keys (slice_index_or lists fails [])
        → Finds s a ns b ms (CarriedOf s t y.label a.keys (slice_index_or lists holds []))
        → Finds s b ms c os (CarriedOf s t y.label b.keys (slice_index_or lists fails []))
        → Finds s a ns c os (IsCarried s t g a.keys lists j)
    carried_branch b c ns ms os holds fails goes there f k =
        finds_as s a c ns os (λ r. P r ⊎ Q r) (IsCarried s t g a.keys lists j)
        (λ r. (
          λ h. (let d = (carried_tells a.keys r).0 h in
              elim (subst (λ o. IsSuccessor o d.0) goes d.1) [
                | inl e ↦ inl (subst (λ m. CarriedOf s t y.label a.keys (slice_index_or lists m []) r) e d.2)
                | inr e ↦ inr (over r (subst (λ m. CarriedOf s t y.label a.keys (slice_index_or lists m []) r) e d.2))
              ]),
          λ h. (carried_tells a.keys r).1 (elim h [
            | inl p ↦ (holds, subst (λ o. IsSuccessor o holds) (sym goes) (inl refl), p)
            | inr q ↦ (fails, subst (λ o. IsSuccessor o fails) (sym goes) (inr refl), back r q)
          ]),
        ))
        (finds_then s a b c ns ms os P Q f k)
      where
        P : Lock → Type 0
        P = CarriedOf s t y.label a.keys (slice_index_or lists holds [])

        Q : Lock → Type 0
        Q = CarriedOf s t y.label b.keys (slice_index_or lists fails [])

        over : (r : Lock) → CarriedOf s t y.label a.keys (slice_index_or lists fails []) r → Q r
        over r h = (h.0, extends_lock a b f.longer (slice_index_or lists fails []) h.0 h.1, h.2)

        back : (r : Lock) → Q r → CarriedOf s t y.label a.keys (slice_index_or lists fails []) r
        back r h = (h.0, extends_back a b f.longer (slice_index_or lists fails []) there h.0 h.1, h.2)

  module _ (o : Option Lock) (tells : (l : Lock) → (o ≡ Some l) ↔ Generated s t y.label l) where
    -- what node j generates
    seed_is : (l : Lock) → IsSeed s t g (need j l) ↔ (o ≡ Some l)
    seed_is l = (
      λ h. (tells l).1 (subst (λ z. Generated s t z.label l) (one_at g j h.0 y h.1 at) h.2),
      λ e. (y, at, (tells l).0 e),
    )

    -- it generates nothing, or this lock
    pub own_none : (a : NumberingView) (ns : List ℕ) → o ≡ None → IsFinding s a ns
        → Finds s a ns a ns (λ l. IsSeed s t g (need j l))
    own_none a ns is f = finds_none s a ns (λ l. IsSeed s t g (need j l)) f
        (λ l h. let e = (seed_is l).0 h in absurd cc)

    pub own_some : (a b : NumberingView) (ns ms : List ℕ) (l : Lock) → o ≡ Some l → Finds s a ns b ms (λ x. x ≡ l)
        → Finds s a ns b ms (λ x. IsSeed s t g (need j x))
    own_some a b ns ms l is f = finds_as s a b ns ms (λ x. x ≡ l) (λ x. IsSeed s t g (need j x))
        (λ x. (λ h. (let e = (seed_is x).0 h in cc), λ e. (seed_is x).1 (is ∙ ap (λ z. Some z) (sym e)))) f

-- another list stands at one place
module _ (lists after : List (List ℕ)) (j : ℕ) (list : List ℕ) (there : j < length lists)
    (is : after ≡ set lists j list)
  where
    pub here_is : slice_index_or after j [] ≡ list
    here_is = ap (λ ls. slice_index_or ls j []) is ∙ get_or-set_same lists j list [] there

    -- the other places keep theirs
    pub other_is : (i : ℕ) → (i ≡ j → ⊥) → slice_index_or after i [] ≡ slice_index_or lists i []
    other_is i n = ap (λ ls. slice_index_or ls i []) is ∙ get_or-set_other lists j i list [] n

    -- what holds of that list and of the others
    pub each_is : (P : List ℕ → Type 0) → P list → ((i : ℕ) → P (slice_index_or lists i [])) → (i : ℕ)
        → P (slice_index_or after i [])
    each_is P at_j at_other i = elim (cases_eq i j) [
      | inl e ↦ subst P (sym (ap (λ k. slice_index_or after k []) e ∙ here_is)) at_j
      | inr n ↦ subst P (sym (other_is i n)) (at_other i)
    ]

-- whether a list that was tested has any
some_length : {X : Type 0} (xs : List X) → (suc (length xs) == 0) ≡ false
some_length xs = search rules

pub tested_none : {X : Type 0} (xs : List X) (b : Bool) → b ≡ (length xs == 0) → not b ≡ false → xs ≡ []
tested_none [] b e off = refl
tested_none (x ∷ xs) b e off = absurd (true≢false (sym (ap not (e ∙ some_length xs)) ∙ off))

pub tested_some : {X : Type 0} (xs : List X) (b : Bool) → b ≡ (length xs == 0) → not b ≡ true → 0 < length xs
tested_some [] b e on = absurd (true≢false (sym on ∙ ap not e))
tested_some (x ∷ xs) b e on = omega arith

-- node j has been gone over: these numbers were found, first those that it had
module _ (s : SchemeView) (t : ℕ) (g : List Node) (j : ℕ) (a b d : NumberingView) (lists : List (List ℕ))
    (ms os : List ℕ)
    (known : AreNumbered s g a lists) where
  abbrev pub had : List ℕ
  had = slice_index_or lists j []

  -- those that the node had, once each
  abbrev pub begun : List ℕ
  begun = with_numbers [] had

  -- they are what a search begins with
  pub begun_finding : IsFinding s a begun
  begun_finding = record {
    numbering = known.numbering;
    numbers = λ n h. elim ((with_all_has [] had n).0 h) [ inl none ↦ absurd none | inr k ↦ known.numbers j n k ];
    apart = with_all_apart [] had tt;
  }

  module _ (start found before : List ℕ) (starts : start ≡ begun) (found_is : found ≡ os) (before_is : before ≡ start)
      (carried : Finds s a start b ms (IsCarried s t g a.keys lists j))
      (own : Finds s b ms d os (λ l. IsSeed s t g (need j l))) where
    -- what was found in all
    all : Finds s a begun d os (λ l. IsCarried s t g a.keys lists j l ⊎ IsSeed s t g (need j l))
    all = finds_then s a b d begun ms os (IsCarried s t g a.keys lists j) (λ l. IsSeed s t g (need j l))
        (subst (λ ns. Finds s a ns b ms (IsCarried s t g a.keys lists j)) starts carried) own

    -- those that are new
    abbrev new : List ℕ
    new = take (length found - length before) (drop (length before) found)

    -- those of them that none is above
    abbrev fresh : List ℕ
    fresh = fresh_from d.above os new

    -- they are behind the first
    os_is : os ≡ begun ++ new
    os_is =
        let behind : drop (length before) found ≡ all.behind.0 = ap (drop (length before)) (found_is ∙ all.behind.1)
        ∙ drop_at begun all.behind.0 (length before) (sym (ap length (before_is ∙ starts))) in
        let same : new ≡ all.behind.0 = ap (take (length found - length before)) behind
        ∙ take_all (length found - length before) all.behind.0
        (omega (arith, ap length behind, length-drop (length before) found)) in
        all.behind.1 ∙ ap (λ xs. begun ++ xs) (sym same)

    -- the numbering tells of them
    new_there : (n : ℕ) → Has new n → n < length d.keys
    new_there n h = all.finding.numbers n (subst (λ xs. Has xs n) (sym os_is) (Has-right begun new n h))

    pub new_within : (n : ℕ) → Has new n → n < length d.above
    new_within n h = let w = new_there n h in omega (arith, w, all.finding.numbering.count)

    -- they were found
    fresh_there : (n : ℕ) → Has fresh n → Has os n
    fresh_there n h = subst (λ xs. Has xs n) (sym os_is)
        (Has-right begun new n ((Has-filter (λ m. not (is_under d.above os m)) new n).0 h).0)

    -- each that was found is kept, or another outdoes it
    kept : (x : Lock) → HasLock d.keys os x → HasLock d.keys (had ++ fresh) x ⊎ IsOutdone s (HasLock d.keys os) x
    kept x h = elim (Has-cases begun new h.0 (subst (λ xs. Has xs h.0) os_is h.1)) [
      | inl old ↦ elim ((with_all_has [] had h.0).0 old)
          [ inl none ↦ absurd none | inr k ↦ inl (h.0, Has-left had fresh h.0 k, h.2) ]
      | inr more ↦ elim (told_by (is_under d.above os h.0)) [
        | inl under ↦ inr (under_is s d all.finding.numbering os h.0 x h.2 under)
        | inr free ↦ inl (
          h.0,
          Has-right had fresh h.0
              ((Has-filter (λ m. not (is_under d.above os m)) new h.0).1 (more, free)),
          h.2,
        )
      ]
    ]

    module _ (there : j < length lists) (after : List (List ℕ)) (any : Bool) (is : after ≡ set lists j (had ++ fresh))
        (none : any ≡ false → fresh ≡ []) (some : any ≡ true → 0 < length fresh) where
      -- the node has its own and the fresh ones
      here : slice_index_or after j [] ≡ had ++ fresh
      here = here_is lists after j (had ++ fresh) there is

      -- what holds of the numbers of node j and of those of the others
      each : (P : List ℕ → Type 0) → P (had ++ fresh) → ((i : ℕ) → P (slice_index_or lists i [])) → (i : ℕ)
          → P (slice_index_or after i [])
      each = each_is lists after j (had ++ fresh) there is

      -- the numbering tells of each of its numbers, and none is there twice
      numbers : AreNumbers d.keys (had ++ fresh)
      numbers n h = elim (Has-cases had fresh n h) [
        | inl k ↦ extends_numbers a d all.longer had (known.numbers j) n k
        | inr k ↦ all.finding.numbers n (fresh_there n k)
      ]

      apart : AreApart (had ++ fresh)
      apart =
          let both = subst AreApart os_is all.finding.apart in
          apart_join had fresh (known.apart j)
          (apart_filter (λ m. not (is_under d.above os m)) new (apart_back begun new both))
          (λ n h k. apart_across begun new both n ((with_all_has [] had n).1 (inr h))
          ((Has-filter (λ m. not (is_under d.above os m)) new n).0 k).0)

      -- so the node has been gone over
      pub visit_is : IsVisit s t g a lists d after j any
      visit_is = record {
        numbered = record {
          numbering = all.finding.numbering;
          count = ap length is ∙ length-set lists j (had ++ fresh) ∙ known.count;
          numbers = each (AreNumbers d.keys) numbers
              (λ i. extends_numbers a d all.longer (slice_index_or lists i []) (known.numbers i));
          apart = each AreApart apart known.apart;
        };
        longer = all.longer;
        more = fresh;
        changed = is;
        others = other_is lists after j (had ++ fresh) there is;
        here = here;
        none = none;
        some = some;
        only = λ l h. elim (Has-cases had fresh h.0 (subst (λ xs. Has xs h.0) here h.1)) [
          | inl k ↦ inl (extends_back a d all.longer had (known.numbers j) l (h.0, k, h.2))
          | inr k ↦ elim (all.only l (h.0, fresh_there h.0 k, h.2)) [
            | inl old ↦ inl (
              old.0,
              elim ((with_all_has [] had old.0).0 old.1) [ inl none ↦ absurd none | inr m ↦ m ],
              old.2,
            )
            | inr due ↦ elim due [ inl c ↦ inr (inr c) | inr o ↦ inr (inl o) ]
          ]
        ];
        put = λ l due.
            let over = covered s (HasLock d.keys os) (HasLock d.keys (had ++ fresh)) kept l
            (all.each l (elim due [ inl o ↦ inr o | inr c ↦ inl c ])) in
            (over.0, subst (λ ns. HasLock d.keys ns over.0) (sym here) over.1, over.2);
      }
