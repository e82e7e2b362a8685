-- The worklist: what it keeps, where it ends, and that it ends.
use Rattle.std.proofs.Common.{◌≡◌, ◌↔◌, ◌⊎◌, inl, inr, ℕ, zero, suc, ◌<◌, List, [], ◌∷◌, ◌++◌, Some, Bool, true, false}
use Rattle.std.proofs.{Common.{length, refl, sym, ap, ◌∙◌, subst, arith, true≢false}, lemmas.Bool.{cases_eq}}
use Rattle.std.proofs.{lemmas.List.{append-nil}, lemmas.Option.{slice_get_within}}
use Rattle.std.specs.Prelude.{slice_get, slice_index_or}
use Rattle.sect_lemmas.specs.Lists.{Has}
use Rattle.sect_lemmas.proofs.{Membership.{Has-left, Has-right}, Inserting.{behind}}
use Rattle.sect_graph.specs.{declared.flow.Node.{Node}, Paths.{LeadsTo}, Predecessors.{AreBefore}}
use Rattle.sect_names.specs.{declared.lock.Lock.{Lock}, Schemes.{SchemeView}, Locks.{IsLockOf}}
use Rattle.sect_names.proofs.shared.Covering.{covers_trans}
use Rattle.sect_infer.specs.{Numbers.{AreApart}, Numberings.{NumberingView, HasLock}}
use Rattle.sect_infer.specs.steps.Needs.{Need, need, Derived, IsDerived, AreLawful}
use Rattle.sect_infer.specs.steps.Working.{IsFoundAt, IsCoveredAt, IsDue, AreLawfulAt, IsVisit, IsWorking, IsBegun}
use Rattle.sect_infer.specs.steps.Working.{IsSettled}
use Rattle.sect_infer.proofs.Extending.{extends_lock}
use Rattle.sect_infer.proofs.shared.Extending.{extends_back}

-- whether a number is there
is_there : (xs : List ℕ) (i : ℕ) → Has xs i ⊎ (Has xs i → ⊥)
is_there [] i = inr (λ h. absurd h)
is_there (x ∷ xs) i = elim (cases_eq x i) [
  | inl e ↦ inl (inl e)
  | inr n ↦ elim (is_there xs i) [ inl k ↦ inl (inr k) | inr m ↦ inr (λ h. elim h [ inl e ↦ n e | inr k ↦ m k ]) ]
]

module _ (s : SchemeView) (t : ℕ) (g : List Node) where
  -- nothing has been found, and all nodes wait
  pub work_begins : (a : NumberingView) (lists : List (List ℕ)) (waiting : List ℕ) → IsBegun g a lists
      → ((i : ℕ) → Has waiting i ↔ (i < length g)) → IsWorking s t g a lists waiting
  work_begins a lists waiting b all = record {
    numbered = record {
      numbering = record {
        count = ap length b.above ∙ sym (ap length b.keys);
        counted = ap length b.classes ∙ sym (ap length b.keys);
        apart = subst AreApart (sym b.keys) tt;
        classed = λ n l at. absurd (let w = slice_get_within a.keys n l at in omega (arith, w, ap length b.keys));
        told = λ n l at. absurd (let w = slice_get_within a.keys n l at in omega (arith, w, ap length b.keys));
      };
      count = b.count;
      numbers = λ j n h. absurd (none j n h);
      apart = λ j. subst AreApart (sym (b.none j)) tt;
    };
    derived = λ j l h. absurd (none j h.0 h.1);
    closed = λ j within. inl ((all j).1 within);
    nodes = λ j h. (all j).0 h;
  }
    where
      none : (j n : ℕ) → Has (slice_index_or lists j []) n → ⊥
      none j n h = subst (λ ns. Has ns n) (b.none j) h

  -- what is due where all that was found is derived is derived
  due_derived : (keys : List Lock) (lists : List (List ℕ))
      → ((j : ℕ) (l : Lock) → IsFoundAt keys lists j l → IsDerived s t g (need j l)) → (j : ℕ) (l : Lock)
      → IsDue s t g keys lists j l → IsDerived s t g (need j l)
  due_derived keys lists derived j l due = elim due [
    | inl h ↦ (0, h)
    | inr h ↦ (let d = derived h.1 h.2 h.5 in (suc d.0, (need h.1 h.2, d.1, (h.0, h.3, h.4, h.6))))
  ]

  -- node j was taken out and gone over; where there is more, the nodes before it wait
  module _ (a d : NumberingView) (before after : List (List ℕ)) (waiting later : List ℕ) (j : ℕ) (any : Bool)
      (w : IsWorking s t g a before waiting) (v : IsVisit s t g a before d after j any)
      (waits : (i : ℕ) → Has waiting i → (i ≡ j) ⊎ Has later i)
      (woken : any ≡ true → (i : ℕ) (y : Node) → slice_get g i ≡ Some y → LeadsTo y j → Has later i) where
    -- what was found at a node still is
    grown : (i : ℕ) (l : Lock) → (i ≡ j → ⊥) → IsFoundAt a.keys before i l → IsFoundAt d.keys after i l
    grown i l n h = subst (λ ns. HasLock d.keys ns l) (sym (v.others i n))
        (extends_lock a d v.longer (slice_index_or before i []) l h)

    -- what is found at another node was
    was : (i : ℕ) (l : Lock) → slice_index_or after i [] ≡ slice_index_or before i [] → IsFoundAt d.keys after i l
        → IsFoundAt a.keys before i l
    was i l same h = extends_back a d v.longer (slice_index_or before i []) (w.numbered.numbers i) l
        (subst (λ ns. HasLock d.keys ns l) same h)

    -- where there is no more, node j is as it was
    same_here : any ≡ false → slice_index_or after j [] ≡ slice_index_or before j []
    same_here off = v.here ∙ ap (λ m. slice_index_or before j [] ++ m) (v.none off)
        ∙ append-nil (slice_index_or before j [])

    -- a node that doesn't wait later sees what it saw before
    quiet : (i : ℕ) → (Has later i → ⊥) → (m : ℕ) (y : Node) (l : Lock) → slice_get g i ≡ Some y → LeadsTo y m
        → IsFoundAt d.keys after m l → IsFoundAt a.keys before m l
    quiet i absent m y l at leads h = elim (cases_eq m j) [
      | inr apart ↦ was m l (v.others m apart) h
      | inl e ↦ here e any refl
    ]
      where
        here : m ≡ j → (b : Bool) → any ≡ b → IsFoundAt a.keys before m l
        here e true on = absurd (absent (woken on i y at (subst (LeadsTo y) e leads)))
        here e false off = was m l (ap (λ k. slice_index_or after k []) e ∙ same_here off
            ∙ ap (λ k. slice_index_or before k []) (sym e)) h

    -- so the worklist goes on
    pub work_next : ((i : ℕ) → Has later i → i < length g) → IsWorking s t g d after later
    work_next nodes = record {
      numbered = v.numbered;
      derived = λ i l h. elim (cases_eq i j) [
        | inr apart ↦ w.derived i l (was i l (v.others i apart) h)
        | inl e ↦ subst (λ m. IsDerived s t g (need m l)) (sym e)
            (elim (v.only l (subst (λ m. IsFoundAt d.keys after m l) e h)) [
              | inl old ↦ w.derived j l old
              | inr due ↦ due_derived a.keys before w.derived j l due
            ])
      ];
      closed = λ i within. elim (is_there later i) [
        | inl held ↦ inl held
        | inr absent ↦ inr (λ l due.
            let old : IsDue s t g a.keys before i l =
            elim due [
              | inl h ↦ inl h
              | inr h ↦
                  inr (h.0, h.1, h.2, h.3, h.4, quiet i absent h.1 h.0 h.2 h.3 h.4 h.5, h.6)
            ] in
            elim (cases_eq i j) [
              | inl e ↦ subst (λ m. IsCoveredAt s d.keys after m l) (sym e)
                  (v.put l (subst (λ m. IsDue s t g a.keys before m l) e old))
              | inr apart ↦ elim (w.closed i within) [
                | inl held ↦ elim (waits i held) [ inl e ↦ absurd (apart e) | inr k ↦ absurd (absent k) ]
                | inr closed ↦ (let over = closed l old in (over.0, grown i over.0 apart over.1, over.2))
              ]
            ])
      ];
      nodes = nodes;
    }

  -- the last node that waits is a node of the graph
  pub last_within : (a : NumberingView) (lists : List (List ℕ)) (rest : List ℕ) (j : ℕ)
      → IsWorking s t g a lists (rest ++ j ∷ []) → j < length g
  last_within a lists rest j w = w.nodes j (Has-right rest (j ∷ []) j (inl refl))

  -- it is gone over
  module _ (a d : NumberingView) (before after : List (List ℕ)) (rest : List ℕ) (j : ℕ) (any : Bool)
      (w : IsWorking s t g a before (rest ++ j ∷ [])) (v : IsVisit s t g a before d after j any) where
    -- there is no more than was known: it is done
    pub work_quiet : any ≡ false → IsWorking s t g d after rest
    work_quiet off = work_next a d before after (rest ++ j ∷ []) rest j any w v
        (λ i h. elim ((behind rest j i).0 h) [ inl k ↦ inr k | inr e ↦ inl e ])
        (λ on i y at leads. absurd (true≢false (sym on ∙ off)))
        (λ i h. w.nodes i (Has-left rest (j ∷ []) i h))

    -- there is more: the nodes before it wait
    pub work_busy : (nodes later : List ℕ) → AreBefore g j nodes → ((i : ℕ) → Has later i ↔ (Has rest i ⊎ Has nodes i))
        → IsWorking s t g d after later
    work_busy nodes later are there = work_next a d before after (rest ++ j ∷ []) later j any w v
        (λ i h. elim ((behind rest j i).0 h) [ inl k ↦ inr ((there i).1 (inl k)) | inr e ↦ inl e ])
        (λ on i y at leads. (there i).1 (inr ((are i).1 (y, at, leads))))
        (λ i h. elim ((there i).0 h) [
          | inl k ↦ w.nodes i (Has-left rest (j ∷ []) i k)
          | inr k ↦ (let y = (are i).0 k in slice_get_within g i y.0 y.1)
        ])

  module _ (lawful : AreLawful s t g) where
    -- what is derived is a lock of the program at a node of the graph
    pub derived_lock : (k : ℕ) (x : Need) → Derived s t g k x → (x.node < length g) × IsLockOf s t x.lock
    derived_lock zero x h = (slice_get_within g x.node h.0 h.1, lawful.generated x.node h.0 h.1 x.lock h.2)
    derived_lock (suc k) x h =
        let c = h.2 in
        let before = derived_lock k h.0 h.1 in
        (slice_get_within g x.node c.0 c.1, lawful.carried x.node c.0 c.1 h.0.lock x.lock before.1 c.3)

    -- so is what was found
    pub lawful_at : (a : NumberingView) (lists : List (List ℕ))
        → ((j : ℕ) (l : Lock) → IsFoundAt a.keys lists j l → IsDerived s t g (need j l)) → AreLawfulAt s t a.keys lists
    lawful_at a lists derived j l h = let d = derived j l h in (derived_lock d.0 (need j l) d.1).1

    -- where no node waits, each lock that is derived is covered
    settled_covers : (a : NumberingView) (lists : List (List ℕ))
        → ((j : ℕ) → j < length g → (l : Lock) → IsDue s t g a.keys lists j l → IsCoveredAt s a.keys lists j l)
        → (k : ℕ) (x : Need) → Derived s t g k x → IsCoveredAt s a.keys lists x.node x.lock
    settled_covers a lists closed zero x h = closed x.node (slice_get_within g x.node h.0 h.1) x.lock (inl h)
    settled_covers a lists closed (suc k) x (n, d, (y, at, leads, c)) =
        let before = settled_covers a lists closed k n d in
        let over = lawful.respects x.node y at n.lock before.0 x.lock before.2 c in
        let top = closed x.node (slice_get_within g x.node y at) over.0
        (inr (y, n.node, before.0, at, leads, before.1, over.1)) in
        (top.0, top.1, covers_trans s top.0 over.0 x.lock top.2 over.2)

    -- so the work has settled
    pub work_ends : (a : NumberingView) (lists : List (List ℕ)) (waiting : List ℕ) → waiting ≡ []
        → IsWorking s t g a lists waiting → IsSettled s t g a lists
    work_ends a lists waiting none w = record {
      numbered = w.numbered;
      derived = w.derived;
      covered = λ j l h. settled_covers a lists
          (λ i within. elim (w.closed i within) [ inl held ↦ absurd (subst (λ ns. Has ns i) none held) | inr c ↦ c ])
          h.0 (need j l) h.1;
    }
