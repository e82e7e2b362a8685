-- Lists of predecessors.
use Rattle.std.proofs.Common.{◌≡◌, ◌↔◌, ◌⊎◌, ℕ, ◌+◌, ◌<◌, ◌≤◌, List, [], ◌∷◌, ◌++◌, length, inl, inr, sym, ◌∙◌, subst}
use Rattle.std.proofs.{Common.{arith, Some, get_or, set}, lemmas.Bool.{cases_lt, cases_eq}}
use Rattle.std.proofs.{lemmas.List.{get_or-set_same, get_or-set_other}, lemmas.Option.{slice_get_within}}
use Rattle.std.specs.Prelude.{slice_index_or, slice_get, slice_set, option_map}
use Rattle.sect_lemmas.specs.Lists.{Has}
use Rattle.sect_graph.specs.{declared.flow.Node.{Node}, declared.flow.Successors.{Successors}}
use Rattle.sect_graph.specs.Paths.{LeadsTo, IsSuccessor}
use Rattle.sect_graph.specs.Predecessors.{IsAdded, StaysWithin, IsAscending, AreAllBefore}
use Rattle.sect_lemmas.proofs.{Membership.{Has-cases, Has-slice_get}, Places.{told_at, pushed_at}}

-- each number is below those that follow it, and all are below this one
pub record IsRising (j : ℕ) (ns : List ℕ) : Type 0 where
  pub ascending : IsAscending ns
  pub below : (n : ℕ) → Has ns n → n < j

-- none
rising_none : (j : ℕ) → IsRising j []
rising_none j = record { ascending = λ i k m n lt at. absurd cc; below = λ n h. absurd h }

-- the bound goes up
rising_on : (j : ℕ) (ns : List ℕ) → IsRising j ns → IsRising (j + 1) ns
rising_on j ns r = record { ascending = r.ascending; below = λ n h. (let lt = r.below n h in omega (arith, lt)) }

-- the bound itself stands behind them
rising_push : (j : ℕ) (ns : List ℕ) → IsRising j ns → IsRising (j + 1) (ns ++ j ∷ [])
rising_push j ns r = record {
  ascending = λ i k m n lt at_i at_k. elim (pushed_at ns j m i at_i) [
    | inl e ↦ elim (pushed_at ns j n k at_k) [
      | inl f ↦ absurd (omega (arith, lt, e.0, f.0))
      | inr h ↦ absurd (omega (arith, lt, e.0, slice_get_within ns k n h))
    ]
    | inr h ↦ elim (pushed_at ns j n k at_k) [
      | inl f ↦ (let less = r.below m (Has-slice_get ns i m h) in omega (arith, less, f.1))
      | inr q ↦ r.ascending i k m n lt h q
    ]
  ];
  below = λ n h. elim (Has-cases ns (j ∷ []) n h) [
    | inl old ↦ (let lt = r.below n old in omega (arith, lt))
    | inr one ↦ elim one [ inl e ↦ omega (arith, e) | inr none ↦ absurd none ]
  ];
}

-- a number is put behind one of the lists
rising_put : (j : ℕ) (lists : List (List ℕ)) (to : ℕ) → to < length lists
    → IsRising j (slice_index_or lists to [])
    → ((m : ℕ) → IsRising j (slice_index_or lists m []) ⊎ IsRising (j + 1) (slice_index_or lists m []))
    → (m : ℕ) → IsRising (j + 1) (slice_index_or (slice_set lists to (slice_index_or lists to [] ++ j ∷ [])) m [])
rising_put j lists to there here each m = elim (cases_eq m to) [
  | inl e ↦ subst (λ k. IsRising (j + 1) (get_or (set lists to (slice_index_or lists to [] ++ j ∷ [])) k [])) (sym e)
      (subst (IsRising (j + 1)) (sym (get_or-set_same lists to (slice_index_or lists to [] ++ j ∷ []) [] there))
      (rising_push j (slice_index_or lists to []) here))
  | inr other ↦ subst (IsRising (j + 1))
      (sym (get_or-set_other lists to m (slice_index_or lists to [] ++ j ∷ []) [] other))
      (elim (each m) [ inl r ↦ rising_on j (slice_index_or lists m []) r | inr r ↦ r ])
]

-- what stands elsewhere stays below the bound
rising_beside : (j : ℕ) (lists : List (List ℕ)) (to other : ℕ) (new : List ℕ) → (other ≡ to → ⊥)
    → IsRising j (slice_index_or lists other []) → IsRising j (slice_index_or (slice_set lists to new) other [])
rising_beside j lists to other new apart r =
    subst (IsRising j) (sym (get_or-set_other lists to other new [] apart)) r

-- all lists rise where the bound is put behind one of them, and where it is put behind another one then
pub rising_one : (j : ℕ) (old new : List (List ℕ)) (to : ℕ) → to < length old
    → new ≡ slice_set old to (slice_index_or old to [] ++ j ∷ []) → ((m : ℕ) → IsRising j (slice_index_or old m []))
    → (m : ℕ) → IsRising (j + 1) (slice_index_or new m [])
rising_one j old new to there is each m =
    subst (λ ls. IsRising (j + 1) (slice_index_or ls m [])) (sym is)
    (rising_put j old to there (each to) (λ n. inl (each n)) m)

pub rising_two : (j : ℕ) (old mid new : List (List ℕ)) (to other : ℕ) → to < length old → other < length mid
    → (other ≡ to → ⊥) → mid ≡ slice_set old to (slice_index_or old to [] ++ j ∷ [])
    → new ≡ slice_set mid other (slice_index_or mid other [] ++ j ∷ [])
    → ((m : ℕ) → IsRising j (slice_index_or old m [])) → (m : ℕ) → IsRising (j + 1) (slice_index_or new m [])
rising_two j old mid new to other there there_too apart is then each m =
    let beside = subst (λ ls. IsRising j (slice_index_or ls other [])) (sym is)
    (rising_beside j old to other (slice_index_or old to [] ++ j ∷ []) apart (each other)) in
    subst (λ ls. IsRising (j + 1) (slice_index_or ls m [])) (sym then)
    (rising_put j mid other there_too beside (λ n. inr (rising_one j old mid to there is each n)) m)

-- each list has the predecessors that are below a node
pub record AreBeforeSo (g : List Node) (j : ℕ) (lists : List (List ℕ)) : Type 0 where
  pub count : length lists ≡ length g + 1
  pub each : (m : ℕ) → m ≤ length g → (i : ℕ) → Has (slice_index_or lists m []) i
      ↔ ((i < j) × ((y : Node) × (slice_get g i ≡ Some y) × LeadsTo y m))
  pub rising : (m : ℕ) → IsRising j (slice_index_or lists m [])

-- no node is below the first
pub before_none : (g : List Node) (lists : List (List ℕ)) → length lists ≡ length g + 1
    → ((m : ℕ) → slice_index_or lists m [] ≡ []) → AreBeforeSo g 0 lists
before_none g lists long none = record {
  count = long;
  each = λ m within i. (λ h. absurd (subst (λ l. Has l i) (none m) h), λ h. absurd (let a = h.0 in omega arith));
  rising = λ m. subst (IsRising 0) (sym (none m)) (rising_none 0);
}

-- all nodes are below the exit
pub before_done : (g : List Node) (j : ℕ) (lists : List (List ℕ)) → length g ≤ j → AreBeforeSo g j lists
    → AreAllBefore g lists
before_done g j lists past b = record {
  count = b.count;
  each = λ m within i. (
    λ h. ((b.each m within i).0 h).1,
    λ h. (b.each m within i).1 (let w = slice_get_within g i h.0 h.1 in omega (arith, w, past), h),
  );
  ascending = λ m. (b.rising m).ascending;
}

-- the successors of node j were added
pub before_next : (g : List Node) (j : ℕ) (y : Node) (old new : List (List ℕ)) → slice_get g j ≡ Some y
    → length new ≡ length old
    → ((m : ℕ) → m < length old → (x : ℕ) → Has (slice_index_or new m []) x
    ↔ (Has (slice_index_or old m []) x ⊎ (IsSuccessor y.next m × (x ≡ j))))
    → ((m : ℕ) → IsRising (j + 1) (slice_index_or new m []))
    → AreBeforeSo g j old → AreBeforeSo g (j + 1) new
before_next g j y old new at long added rising b = record {
  count = long ∙ b.count;
  rising = rising;
  each = λ m within i.
      let put = added m (omega (arith, within, b.count)) i in
      let was = b.each m within i in (
        λ h. elim (put.0 h) [
          | inl a ↦ (let r = was.0 a in (omega (arith, r.0), r.1))
          | inr c ↦ (omega (arith, c.1), (y, subst (λ k. slice_get g k ≡ Some y) (sym c.1) at, c.0))
        ],
        λ h. put.1 (elim (cases_lt i j) [
          | inl a ↦ inl (was.1 (a, h.1))
          | inr c ↦ (let e : i ≡ j = omega (arith, h.0, c) in
              let here = subst (λ k. slice_get g k ≡ Some h.1.0) e h.1.1 in
              let same : h.1.0 ≡ y = cc in
              inr (subst (λ z. LeadsTo z m) same h.1.2, e))
        ]),
      );
}

-- a node with one successor was added to its list
pub added_one : (next : Successors) (k : ℕ) (old new : List (List ℕ)) (j : ℕ) → ((m : ℕ) → IsSuccessor next m ↔ (m ≡ k))
    → IsAdded old new k j
    → (m : ℕ) → m < length old → (x : ℕ) → Has (slice_index_or new m []) x
    ↔ (Has (slice_index_or old m []) x ⊎ (IsSuccessor next m × (x ≡ j)))
added_one next k old new j is a m within x =
    let put = a m within x in (
      λ h. elim (put.0 h) [ inl o ↦ inl o | inr b ↦ inr ((is m).1 b.0, b.1) ],
      λ h. put.1 (elim h [ inl o ↦ inl o | inr b ↦ inr ((is m).0 b.0, b.1) ]),
    )

-- a node with two was added to both lists
pub added_two : (next : Successors) (k l : ℕ) (old mid new : List (List ℕ)) (j : ℕ)
    → ((m : ℕ) → IsSuccessor next m ↔ ((m ≡ k) ⊎ (m ≡ l))) → length mid ≡ length old → IsAdded old mid k j
    → IsAdded mid new l j
    → (m : ℕ) → m < length old → (x : ℕ) → Has (slice_index_or new m []) x
    ↔ (Has (slice_index_or old m []) x ⊎ (IsSuccessor next m × (x ≡ j)))
added_two next k l old mid new j is long a b m within x =
    let first = a m within x in
    let second = b m (omega (arith, within, long)) x in (
      λ h. elim (second.0 h) [
        | inl o ↦ elim (first.0 o) [ inl p ↦ inl p | inr q ↦ inr ((is m).1 (inl q.0), q.1) ]
        | inr q ↦ inr ((is m).1 (inr q.0), q.1)
      ],
      λ h. second.1 (elim h [
        | inl o ↦ inl (first.1 (inl o))
        | inr q ↦ elim ((is m).0 q.0) [ inl e ↦ inl (first.1 (inr (e, q.1))) | inr e ↦ inr (e, q.1) ]
      ]),
    )

-- where control goes on to from a node is a node or the exit
pub goes_within : (g : List Node) → StaysWithin g → (j : ℕ) (next : Successors) (m : ℕ)
    → option_map (λ y. y.next) (slice_get g j) ≡ Some next → IsSuccessor next m → m ≤ length g
goes_within g stays j next m is leads =
    let node = told_at (λ (y : Node). y.next) g j next is in
    stays j m node.0 node.1 (subst (λ n. IsSuccessor n m) (sym node.2) leads)
