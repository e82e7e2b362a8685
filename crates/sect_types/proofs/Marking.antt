-- Procedures that are marked one after another.
use Rattle.std.proofs.Common.{◌≡◌, ◌≢◌, ◌⊎◌, inl, inr, ℕ, zero, suc, ◌+◌, ◌<◌, ◌≤◌, Bool, true, false, List, [], ◌∷◌}
use Rattle.std.proofs.Common.{◌++◌, Option, Some, None, length, take, get_or, refl, sym, ap, subst, ◌∙◌, arith}
use Rattle.std.proofs.{Common.{length-append, slice_get}, lemmas.Bool.{eqb-true, or_cases, or_left, or_right, cases_eq}}
use Rattle.std.proofs.{lemmas.List.{take_more, take_all, length-replicate}, lemmas.List.Folds.{list_any-append}}
use Rattle.std.proofs.lemmas.Option.{slice_get_within}
use Rattle.std.specs.{Prelude.{eqb, nat_eq, replicate, slice_index_or}, List.{list_any}}
use Rattle.sect_front.specs.declared.tree.Procedure.{Procedure}
use Rattle.sect_lemmas.specs.Lists.{put_at}
use Rattle.sect_types.specs.steps.Called.{IsAmong, Calls, IsMarked, marks, AreMarked, AreFound, Grows, AreClosed, Marks}
use Rattle.sect_types.specs.steps.{Called.{AreCallersBefore, callers_of}, Standing.{AreReturning}}
use Rattle.sect_types.specs.steps.Search.{returns, reaches}
use Rattle.sect_lemmas.proofs.{Options.{some_injective}, Elements.{is_there}, Changed.{get_there}}
use Rattle.sect_lemmas.proofs.Replaced.{put_same, put_other, length-put_at, at-put_at}
use Rattle.sect_types.proofs.{EnoughLaws.{same, there, calls_there}, ReachLaws.{returns_caller, closed_returns}}

-- one mark more
marks_put : (n : ℕ) (bs : List Bool) → slice_get bs n ≡ Some false → marks (put_at n true bs) ≡ marks bs + 1
marks_put n [] e = absurd cc
marks_put zero (false ∷ bs) e = omega arith
marks_put zero (true ∷ bs) e = absurd cc
marks_put (suc n) (true ∷ bs) e = omega (arith, marks_put n bs e)
marks_put (suc n) (false ∷ bs) e = omega (arith, marks_put n bs e)

pub few_marks : (bs : List Bool) → marks bs ≤ length bs
few_marks [] = omega arith
few_marks (true ∷ bs) = omega (arith, few_marks bs)
few_marks (false ∷ bs) = omega (arith, few_marks bs)

pub among_last : (xs : List ℕ) (n q : ℕ) → IsAmong (xs ++ n ∷ []) q → IsAmong xs q ⊎ (q ≡ n)
among_last xs n q h = elim (or_cases (list_any (eqb q) xs) (list_any (eqb q) (n ∷ []))
    (sym (list_any-append (eqb q) xs (n ∷ [])) ∙ h)) [
      | inl e ↦ inl e
      | inr e ↦ elim (or_cases (eqb q n) false e) [ inl i ↦ inr (eqb-true q n i) | inr i ↦ absurd cc ]
    ]

pub among_first : (xs : List ℕ) (n q : ℕ) → IsAmong xs q → IsAmong (xs ++ n ∷ []) q
among_first xs n q h =
    list_any-append (eqb q) xs (n ∷ []) ∙ or_left (list_any (eqb q) xs) (list_any (eqb q) (n ∷ [])) h

pub among_new : (xs : List ℕ) (n : ℕ) → IsAmong (xs ++ n ∷ []) n
among_new xs n =
    list_any-append (eqb n) xs (n ∷ [])
    ∙ or_right (list_any (eqb n) xs) (list_any (eqb n) (n ∷ [])) (or_left (eqb n n) false (same n))

kept_at : (xs : List ℕ) (n i q : ℕ) → slice_get xs i ≡ Some q → slice_get (xs ++ n ∷ []) i ≡ Some q
kept_at [] n i q e = absurd cc
kept_at (x ∷ xs) n zero q e = e
kept_at (x ∷ xs) n (suc i) q e = kept_at xs n i q e

stays_put : (n q : ℕ) (bs : List Bool) → slice_get bs n ≡ Some false → IsMarked bs q → IsMarked (put_at n true bs) q
stays_put n q bs off e = elim (cases_eq n q) [
  | inl same ↦ absurd (let both : Some false ≡ Some true = sym off ∙ ap (slice_get bs) same ∙ e in cc)
  | inr other ↦ put_other n q true bs other ∙ e
]

pub mark_is : (n : ℕ) (m : List Bool) (f : List ℕ) (k : List Bool) (g : List ℕ) → Marks n m f k g → IsMarked k n
mark_is n m f k g (inl (is, e, h)) = ap (λ x. slice_get x n) e ∙ is
mark_is n m f k g (inr (off, e, h)) = ap (λ x. slice_get x n) e ∙ put_same n false true m off

pub mark_grows : (n : ℕ) (m : List Bool) (f : List ℕ) (k : List Bool) (g : List ℕ) → Marks n m f k g → Grows m f k g
mark_grows n m f k g (inl (is, e, h)) = record {
  as_many = ap length e;
  stays = λ q s. ap (λ x. slice_get x q) e ∙ s;
  keeps = λ i q s. ap (λ x. slice_get x i) h ∙ s;
}
mark_grows n m f k g (inr (off, e, h)) = record {
  as_many = ap length e ∙ length-put_at n true m;
  stays = λ q s. ap (λ x. slice_get x q) e ∙ stays_put n q m off s;
  keeps = λ i q s. ap (λ x. slice_get x i) h ∙ kept_at f n i q s;
}

pub mark_found : (n : ℕ) (m : List Bool) (f : List ℕ) (k : List Bool) (g : List ℕ) → Marks n m f k g
    → AreFound m f → AreFound k g
mark_found n m f k g (inl (is, e, h)) all q s = subst (λ x. IsAmong x q) (sym h) (all q (subst (λ x. IsMarked x q) e s))
mark_found n m f k g (inr (off, e, h)) all q s =
    subst (λ x. IsAmong x q) (sym h) (elim (at-put_at n q true true m (subst (λ x. IsMarked x q) e s)) [
      | inl a ↦ subst (λ x. IsAmong (f ++ n ∷ []) x) a.0 (among_new f n)
      | inr b ↦ among_first f n q (all q b.1)
    ])

pub mark_right : (ps : List Procedure) (p n : ℕ) (m : List Bool) (f : List ℕ) (k : List Bool) (g : List ℕ)
    → Marks n m f k g → returns ps p n ≡ true → AreMarked ps p m f → AreMarked ps p k g
mark_right ps p n m f k g (inl (is, e, h)) r all =
    subst (λ x. AreMarked ps p x g) (sym e) (subst (AreMarked ps p m) (sym h) all)
mark_right ps p n m f k g (inr (off, e, h)) r all =
    subst (λ x. AreMarked ps p x g) (sym e) (subst (AreMarked ps p (put_at n true m)) (sym h) (record {
      as_many = length-put_at n true m ∙ all.as_many;
      counted = omega (arith, length-append f (n ∷ []), marks_put n m off, all.counted);
      found_marked = λ q s. elim (among_last f n q s) [
        | inl a ↦ stays_put n q m off (all.found_marked q a)
        | inr b ↦ subst (IsMarked (put_at n true m)) (sym b) (put_same n false true m off)
      ];
      right = λ q s. elim (at-put_at n q true true m s) [
        | inl a ↦ subst (λ x. returns ps p x ≡ true) a.0 r
        | inr b ↦ all.right q b.1
      ];
    }))

-- what has grown twice has grown
pub grows_on : (m : List Bool) (f : List ℕ) (k : List Bool) (g : List ℕ) (l : List Bool) (h : List ℕ)
    → Grows m f k g → Grows k g l h → Grows m f l h
grows_on m f k g l h a b = record {
  as_many = b.as_many ∙ a.as_many;
  stays = λ q s. b.stays q (a.stays q s);
  keeps = λ i q s. b.keeps i q (a.keeps i q s);
}

-- the first i of the callers cs of procedure n are marked
pub record AreCallersMarked (ps : List Procedure) (n : ℕ) (cs : List ℕ) (m : List Bool) (f : List ℕ) (i : ℕ)
    (k : List Bool) (g : List ℕ) : Type 0 where
  pub grows : Grows m f k g
  pub right : (p : ℕ) → AreMarked ps p m f → IsMarked m n → AreMarked ps p k g
  pub both : AreFound m f → AreFound k g
  pub callers : (c : ℕ) → IsAmong (take i cs) c → IsMarked k c

pub none_yet : (ps : List Procedure) (n : ℕ) (cs : List ℕ) (m : List Bool) (f : List ℕ)
    → AreCallersMarked ps n cs m f 0 m f
none_yet ps n cs m f = record {
  grows = record { as_many = refl; stays = λ q s. s; keeps = λ i q s. s };
  right = λ p s t. s;
  both = λ s. s;
  callers = λ c s. absurd (let off : false ≡ true = s in cc);
}

pub one_more : (ps : List Procedure) (n : ℕ) (cs : List ℕ) (m : List Bool) (f : List ℕ) (i c : ℕ)
    (k : List Bool) (g : List ℕ) (l : List Bool) (h : List ℕ) → i < length cs → c ≡ slice_index_or cs i 0 → Calls ps c n
    → AreCallersMarked ps n cs m f i k g → Marks c k g l h → AreCallersMarked ps n cs m f (i + 1) l h
one_more ps n cs m f i c k g l h within at calls so_far marked = record {
  grows = grows_on m f k g l h so_far.grows (mark_grows c k g l h marked);
  right = λ p s t.
      mark_right ps p c k g l h marked (returns_caller ps p c n calls (s.right n t)) (so_far.right p s t);
  both = λ s. mark_found c k g l h marked (so_far.both s);
  callers = λ d s. elim (among_last (take i cs) c d (subst (λ x. IsAmong x d) next s)) [
    | inl a ↦ (mark_grows c k g l h marked).stays d (so_far.callers d a)
    | inr b ↦ subst (IsMarked l) (sym b) (mark_is c k g l h marked)
  ];
}
  where
    next : take (i + 1) cs ≡ take i cs ++ c ∷ []
    next = take_more cs i 0 within ∙ ap (λ z. take i cs ++ z ∷ []) (sym at)

index_of : (xs : List ℕ) (q : ℕ) → IsAmong xs q → (i : ℕ) × (slice_get xs i ≡ Some q)
index_of [] q h = absurd (let off : false ≡ true = h in cc)
index_of (x ∷ xs) q h = elim (or_cases (eqb q x) (list_any (eqb q) xs) h) [
  | inl e ↦ (0, ap Some (sym (eqb-true q x e)))
  | inr e ↦ (let r = index_of xs q e in (suc r.0, r.1))
]

abbrev flag : Option Bool → Bool
flag None = false
flag (Some b) = b

flagged : (o : Option Bool) → flag o ≡ true → o ≡ Some true
flagged None e = absurd (let off : false ≡ true = e in cc)
flagged (Some true) e = refl
flagged (Some false) e = absurd (let off : false ≡ true = e in cc)

-- once all that were found have been gone through, those marked are p and what reaches it
pub all_marked : (ps : List Procedure) (p n : ℕ) (m : List Bool) (f : List ℕ) → AreMarked ps p m f → AreFound m f
    → AreClosed ps p m f n → length f ≤ n → AreReturning ps p m
all_marked ps p n m f right found closed enough = record { as_many = right.as_many; each = each }
  where
    up : (q r : ℕ) → Calls ps q r → flag (slice_get m r) ≡ true → flag (slice_get m q) ≡ true
    up q r c e =
        let at = index_of f r (found r (flagged (slice_get m r) e)) in
        ap flag (closed.callers at.0 r q (omega (arith, slice_get_within f at.0 r at.1, enough)) at.1 c)

    each : (q : ℕ) → q < length ps → slice_get m q ≡ Some (returns ps p q)
    each q lt = go (slice_get m q) refl (returns ps p q) refl
      where
        go : (o : Option Bool) → slice_get m q ≡ o → (b : Bool) → returns ps p q ≡ b → o ≡ Some b
        go None e b r = absurd (is_there m q (omega (arith, right.as_many, lt)) e)
        go (Some true) e b r = ap Some (sym (right.right q e) ∙ r)
        go (Some false) e false r = refl
        go (Some false) e true r =
            let on = closed_returns (λ x. flag (slice_get m x)) ps p q (ap flag closed.start) up r in
            absurd (let off : false ≡ true = sym (ap flag e) ∙ on in cc)

-- one found procedure more has been gone through
pub gone_through : (ps : List Procedure) (p n q : ℕ) (m : List Bool) (f : List ℕ) (k : List Bool) (g : List ℕ)
    → slice_get f n ≡ Some q → AreMarked ps p m f → AreClosed ps p m f n → Grows m f k g
    → ((c : ℕ) → Calls ps c q → IsMarked k c) → AreClosed ps p k g (n + 1)
gone_through ps p n q m f k g at right closed grows callers = record {
  start = grows.stays p closed.start;
  callers = λ i r c lt is calls. elim (cases_eq n i) [
    | inl same ↦ callers c (subst (Calls ps c) (some_injective r q (sym is ∙ ap (slice_get g) (sym same)
        ∙ grows.keeps n q at)) calls)
    | inr other ↦ grows.stays c (closed.callers i r c (omega (arith, lt, apart i other))
        (before i r (omega (arith, lt, apart i other)) is) calls)
  ];
}
  where
    apart : (i : ℕ) → n ≢ i → (i ≡ n → ⊥)
    apart i other e = other (sym e)

    before : (i r : ℕ) → i < n → slice_get g i ≡ Some r → slice_get f i ≡ Some r
    before i r lt is = go (slice_get f i) refl
      where
        go : (o : Option ℕ) → slice_get f i ≡ o → slice_get f i ≡ Some r
        go None e = absurd (is_there f i (omega (arith, slice_get_within f n q at, lt)) e)
        go (Some x) e = e ∙ (sym (grows.keeps i x e) ∙ is)

pub gone_past : (ps : List Procedure) (p n : ℕ) (m : List Bool) (f : List ℕ) → length f ≤ n
    → AreClosed ps p m f n → AreClosed ps p m f (n + 1)
gone_past ps p n m f past closed = record {
  start = closed.start;
  callers = λ i r c lt is calls.
      closed.callers i r c (omega (arith, slice_get_within f i r is, past)) is calls;
}

-- before anything is marked
none_marked : (n q : ℕ) → IsMarked (replicate n false) q → ⊥
none_marked zero q e = absurd cc
none_marked (suc n) zero e = absurd cc
none_marked (suc n) (suc q) e = none_marked n q e

no_marks : (n : ℕ) → marks (replicate n false) ≡ 0
no_marks zero = refl
no_marks (suc n) = no_marks n

pub unmarked : (ps : List Procedure) (p n : ℕ) → n ≡ length ps → AreMarked ps p (replicate n false) []
unmarked ps p n e = record {
  as_many = length-replicate n false ∙ e;
  counted = sym (no_marks n);
  found_marked = λ q h. absurd (let off : false ≡ true = h in cc);
  right = λ q h. absurd (none_marked n q h);
}

-- a procedure that is itself is returned to
pub itself : (ps : List Procedure) (p : ℕ) → returns ps p p ≡ true
itself ps p = or_left (nat_eq p p) (reaches (length ps) ps p p) (same p)

pub among_at : (xs : List ℕ) (i q : ℕ) → slice_get xs i ≡ Some q → IsAmong xs q
among_at [] i q e = absurd cc
among_at (x ∷ xs) zero q e =
    let here : x ≡ q = some_injective x q e in
    or_left (eqb q x) (list_any (eqb q) xs) (subst (λ y. eqb q y ≡ true) (sym here) (same q))
among_at (x ∷ xs) (suc i) q e = or_right (eqb q x) (list_any (eqb q) xs) (among_at xs i q e)

-- the search for those that reach p, of which the first n have been gone through
pub record IsSearched (ps : List Procedure) (p n : ℕ) (m : List Bool) (f : List ℕ) : Type 0 where
  pub right : AreMarked ps p m f
  pub found : AreFound m f
  pub closed : AreClosed ps p m f n

pub begun : (ps : List Procedure) (p n : ℕ) (k : List Bool) (g : List ℕ) → n ≡ length ps
    → Marks p (replicate n false) [] k g → IsSearched ps p 0 k g
begun ps p n k g e marked = record {
  right = mark_right ps p p (replicate n false) [] k g marked (itself ps p) (unmarked ps p n e);
  found = mark_found p (replicate n false) [] k g marked (λ q h. absurd (none_marked n q h));
  closed = record {
    start = mark_is p (replicate n false) [] k g marked;
    callers = λ i q c lt. absurd (omega (arith, lt));
  };
}

pub searched : (ps : List Procedure) (p n q : ℕ) (m : List Bool) (f : List ℕ) (k : List Bool) (g : List ℕ)
    → slice_get f n ≡ Some q → IsSearched ps p n m f
    → (AreMarked ps p m f → IsMarked m q → AreMarked ps p k g) → (AreFound m f → AreFound k g) → Grows m f k g
    → ((c : ℕ) → Calls ps c q → IsMarked k c) → IsSearched ps p (n + 1) k g
searched ps p n q m f k g at so_far right found grows callers = record {
  right = right so_far.right (so_far.right.found_marked q (among_at f n q at));
  found = found so_far.found;
  closed = gone_through ps p n q m f k g at so_far.right so_far.closed grows callers;
}

pub passed_by : (ps : List Procedure) (p n : ℕ) (m : List Bool) (f : List ℕ) → length f ≤ n
    → IsSearched ps p n m f → IsSearched ps p (n + 1) m f
passed_by ps p n m f past so_far =
    record { right = so_far.right; found = so_far.found; closed = gone_past ps p n m f past so_far.closed }

pub all_searched : (ps : List Procedure) (p n : ℕ) (m : List Bool) (f : List ℕ) → length ps ≤ n
    → IsSearched ps p n m f → AreReturning ps p m
all_searched ps p n m f all so_far =
    all_marked ps p n m f so_far.right so_far.found so_far.closed
    (omega (arith, few_marks m, so_far.right.counted, so_far.right.as_many, all))

-- a mark that was read
pub read_false : (m : List Bool) (n : ℕ) (b : Bool) → n < length m → b ≡ get_or m n b → b ≡ false
    → slice_get m n ≡ Some false
read_false [] n b lt at e = absurd (omega (arith, lt))
read_false (x ∷ m) zero b lt at e = ap Some (sym at ∙ e)
read_false (x ∷ m) (suc n) b lt at e = read_false m n b (omega (arith, lt)) at e

pub read_at : (xs : List ℕ) (i : ℕ) → i < length xs → slice_get xs i ≡ Some (slice_index_or xs i 0)
read_at [] i lt = absurd (omega (arith, lt))
read_at (x ∷ xs) zero lt = refl
read_at (x ∷ xs) (suc i) lt = read_at xs i (omega (arith, lt))

-- the callers of a procedure, as they are kept
pub calls_it : (ps : List Procedure) (callers : List (List ℕ)) (n : ℕ) (cs : List ℕ) (i c : ℕ)
    → AreCallersBefore (length ps) ps callers → cs ≡ callers_of callers n → i < length cs → c ≡ slice_index_or cs i 0
    → Calls ps c n
calls_it ps callers n cs i c h e lt at =
    h.each n c (subst (λ x. IsAmong x c) e
    (subst (IsAmong cs) (sym at) (among_at cs i (slice_index_or cs i 0) (read_at cs i lt))))

pub caller_there : (ps : List Procedure) (callers : List (List ℕ)) (n : ℕ) (cs : List ℕ) (i : ℕ)
    → AreCallersBefore (length ps) ps callers → cs ≡ callers_of callers n → i < length cs
    → slice_index_or cs i 0 < length ps
caller_there ps callers n cs i h e lt =
    let c : ℕ = slice_index_or cs i 0 in
    there ps c (slice_get ps c) refl
    (calls_there ps (slice_get ps c) n (calls_it ps callers n cs i c h e lt refl))

-- once all callers have been marked, whatever calls the procedure is marked
pub all_callers : (ps : List Procedure) (callers : List (List ℕ)) (n : ℕ) (cs : List ℕ) (i : ℕ) (m : List Bool)
    → AreCallersBefore (length ps) ps callers → cs ≡ callers_of callers n → length cs ≤ i
    → ((c : ℕ) → IsAmong (take i cs) c → IsMarked m c) → (c : ℕ) → Calls ps c n → IsMarked m c
all_callers ps callers n cs i m h e le marked c calls =
    marked c (subst (λ x. IsAmong x c) (sym (take_all i cs le)) (subst (λ x. IsAmong x c) (sym e)
    (h.all n c (there ps c (slice_get ps c) refl (calls_there ps (slice_get ps c) n calls)) calls)))

-- what was found is there
pub found_there : (ps : List Procedure) (p n : ℕ) (m : List Bool) (f : List ℕ) (q : ℕ) → n < length f → q ≡ get_or f n q
    → IsSearched ps p n m f → q < length ps
found_there ps p n m f q lt at so_far =
    let marked = so_far.right.found_marked q (among_at f n q (get_there n q f lt at)) in
    omega (arith, slice_get_within m q true marked, so_far.right.as_many)
