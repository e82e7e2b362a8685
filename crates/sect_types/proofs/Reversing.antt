-- The callers of each procedure, as they are gathered.
use Rattle.std.proofs.Common.{◌≡◌, ◌≢◌, ◌⊎◌, inl, inr, ℕ, zero, suc, ◌+◌, ◌<◌, ◌≤◌, true, false, List, [], ◌∷◌, ◌++◌}
use Rattle.std.proofs.Common.{Option, Some, None, length, take, get_or, append-nil, refl, sym, ap, subst, ◌∙◌, arith}
use Rattle.std.proofs.{Common.{slice_get}, lemmas.Bool.{eqb-true, or_cases, cases_eq}}
use Rattle.std.proofs.{lemmas.List.{take_more, take_all, length-map}, lemmas.Option.{slice_get-get_or}}
use Rattle.std.specs.{Prelude.{eqb, slice_index_or}, List.{list_any}}
use Rattle.sect_front.specs.declared.tree.Procedure.{Procedure}
use Rattle.sect_front.specs.Syntax.{StatementView, Primitive, If, IfElse, While, Atomic, Call, BlockView, End, Then}
use Rattle.sect_lemmas.specs.Lists.{put_at}
use Rattle.sect_types.specs.Sums.{number_of, names_of_procedures, calls_in, prepend, statement_calls, block_calls}
use Rattle.sect_types.specs.steps.Called.{IsAmong, Calls, callers_of, AreCallersBefore}
use Rattle.sect_lemmas.proofs.Replaced.{length-put_at}
use Rattle.sect_types.proofs.SoundLemmas.{place_within}
use Rattle.sect_types.proofs.Marking.{among_last, among_first, among_new, among_at, read_at}

-- a procedure that is called is there
mutual
  statement_below : (ps : List Procedure) (s : StatementView) (w : List ℕ) (q : ℕ) → IsAmong (statement_calls ps s w) q
      → (q < length ps) ⊎ IsAmong w q
  statement_below ps (Primitive p) w q h = inr h
  statement_below ps (If t a) w q h = block_below ps a w q h
  statement_below ps (IfElse t a b) w q h = elim (block_below ps a (block_calls ps b w) q h) [
    | inl e ↦ inl e
    | inr e ↦ block_below ps b w q e
  ]
  statement_below ps (While t a) w q h = block_below ps a w q h
  statement_below ps (Atomic l a) w q h = block_below ps a w q h
  statement_below ps (Call f vs) w q h = go (number_of ps f) refl h
    where
      go : (o : Option ℕ) → number_of ps f ≡ o → IsAmong (prepend o w) q → (q < length ps) ⊎ IsAmong w q
      go None e k = inr k
      go (Some r) e k = elim (or_cases (eqb q r) (list_any (eqb q) w) k) [
        | inl i ↦ inl (omega (
          arith,
          eqb-true q r i,
          place_within f (names_of_procedures ps) r e,
          length-map ps (λ (p : Procedure). p.name),
        ))
        | inr i ↦ inr i
      ]

  block_below : (ps : List Procedure) (b : BlockView) (w : List ℕ) (q : ℕ) → IsAmong (block_calls ps b w) q
      → (q < length ps) ⊎ IsAmong w q
  block_below ps End w q h = inr h
  block_below ps (Then s b) w q h = elim (statement_below ps s (block_calls ps b w) q h) [
    | inl e ↦ inl e
    | inr e ↦ block_below ps b w q e
  ]

pub calls_below : (ps : List Procedure) (b : BlockView) (q : ℕ) → IsAmong (block_calls ps b []) q → q < length ps
calls_below ps b q h = elim (block_below ps b [] q h) [ inl e ↦ e | inr e ↦ absurd (let off : false ≡ true = e in cc) ]

-- procedure n has been put to the callers of those in `done`
pub record AreReversed (n : ℕ) (ps : List Procedure) (callers : List (List ℕ)) (done : List ℕ) : Type 0 where
  pub before : AreCallersBefore n ps callers
  pub own : (q : ℕ) → IsAmong done q → IsAmong (callers_of callers q) n

row_put : (callers : List (List ℕ)) (q r : ℕ) (row : List ℕ) → q ≢ r
    → callers_of (put_at q row callers) r ≡ callers_of callers r
row_put [] q r row other = refl
row_put (c ∷ callers) zero zero row other = absurd (other refl)
row_put (c ∷ callers) zero (suc r) row other = refl
row_put (c ∷ callers) (suc q) zero row other = refl
row_put (c ∷ callers) (suc q) (suc r) row other = row_put callers q r row (λ e. other (ap suc e))

row_here : (callers : List (List ℕ)) (q : ℕ) (row : List ℕ) → q < length callers
    → callers_of (put_at q row callers) q ≡ row
row_here [] q row lt = absurd (omega (arith, lt))
row_here (c ∷ callers) zero row lt = refl
row_here (c ∷ callers) (suc q) row lt = row_here callers q row (omega (arith, lt))

pub one_reversed : (n : ℕ) (ps : List Procedure) (callers : List (List ℕ)) (all : List ℕ) (i q : ℕ) (row : List ℕ)
    → i < length all → q ≡ slice_index_or all i 0 → Calls ps n q → q < length ps → row ≡ callers_of callers q ++ n ∷ []
    → AreReversed n ps callers (take i all) → AreReversed n ps (put_at q row callers) (take (i + 1) all)
one_reversed n ps callers all i q row lt at calls there is so_far = record {
  before = record {
    as_many = length-put_at q row callers ∙ so_far.before.as_many;
    each = λ r c h. elim (cases_eq q r) [
      | inl e ↦ elim (among_last (callers_of callers q) n c (subst (λ x. IsAmong x c) (here ∙ is)
          (subst (λ x. IsAmong (callers_of (put_at q row callers) x) c) (sym e) h))) [
            | inl a ↦ subst (Calls ps c) e (so_far.before.each q c a)
            | inr b ↦ subst (Calls ps c) e (subst (λ x. Calls ps x q) (sym b) calls)
          ]
      | inr other ↦ so_far.before.each r c (subst (λ x. IsAmong x c) (row_put callers q r row other) h)
    ];
    all = λ r c below h. grown r c (so_far.before.all r c below h);
  };
  own = λ r h. elim (among_last (take i all) q r (subst (λ x. IsAmong x r) next h)) [
    | inl a ↦ grown r n (so_far.own r a)
    | inr b ↦ subst (λ x. IsAmong (callers_of (put_at q row callers) x) n) (sym b)
        (subst (λ x. IsAmong x n) (sym (here ∙ is)) (among_new (callers_of callers q) n))
  ];
}
  where
    here : callers_of (put_at q row callers) q ≡ row
    here = row_here callers q row (omega (arith, so_far.before.as_many, there))

    grown : (r c : ℕ) → IsAmong (callers_of callers r) c → IsAmong (callers_of (put_at q row callers) r) c
    grown r c h = elim (cases_eq q r) [
      | inl e ↦ subst (λ x. IsAmong (callers_of (put_at q row callers) x) c) e
          (subst (λ x. IsAmong x c) (sym (here ∙ is))
          (among_first (callers_of callers q) n c (subst (λ x. IsAmong (callers_of callers x) c) (sym e) h)))
      | inr other ↦ subst (λ x. IsAmong x c) (sym (row_put callers q r row other)) h
    ]

    next : take (i + 1) all ≡ take i all ++ q ∷ []
    next = take_more all i 0 lt ∙ ap (λ z. take i all ++ z ∷ []) (sym at)

-- once all that procedure n calls have been gone through
pub all_reversed : (n : ℕ) (ps : List Procedure) (callers : List (List ℕ)) (all : List ℕ) (i : ℕ) → length all ≤ i
    → all ≡ calls_in ps (slice_get ps n) → AreReversed n ps callers (take i all) → AreCallersBefore (n + 1) ps callers
all_reversed n ps callers all i le e so_far = record {
  as_many = so_far.before.as_many;
  each = so_far.before.each;
  all = λ q c lt h. elim (cases_eq n c) [
    | inl here ↦ subst (IsAmong (callers_of callers q)) here (so_far.own q (subst (λ x. IsAmong x q)
        (sym (take_all i all le ∙ e)) (subst (λ x. Calls ps x q) (sym here) h)))
    | inr other ↦ so_far.before.all q c (omega (arith, lt, apart c other)) h
  ];
}
  where
    apart : (c : ℕ) → n ≢ c → (c ≡ n → ⊥)
    apart c other e = other (sym e)

-- before any procedure has been gone through
pub no_callers : (ps : List Procedure) (callers : List (List ℕ)) → length callers ≡ length ps
    → ((q : ℕ) → callers_of callers q ≡ []) → AreCallersBefore 0 ps callers
no_callers ps callers e none = record {
  as_many = e;
  each = λ q c h. absurd (let off : false ≡ true = subst (λ x. IsAmong x c) (none q) h in cc);
  all = λ q c lt h. absurd (omega (arith, lt));
}

-- what a procedure calls is there
pub called_there : (ps : List Procedure) (n q : ℕ) → Calls ps n q → q < length ps
called_there ps n q h = go (slice_get ps n) h
  where
    go : (o : Option Procedure) → IsAmong (calls_in ps o) q → q < length ps
    go None k = absurd (let off : false ≡ true = k in cc)
    go (Some p) k = calls_below ps p.body q k

-- what was gathered of a procedure's body is what it calls
pub gathered : (ps : List Procedure) (n : ℕ) (p : Procedure) (start out : List ℕ) → n < length ps → p ≡ get_or ps n p
    → start ≡ [] → ((w : List ℕ) → out ++ w ≡ start ++ block_calls ps (get_or ps n p).body w)
    → out ≡ calls_in ps (slice_get ps n)
gathered ps n p start out lt at none put =
    sym (append-nil out) ∙ (put [] ∙ (ap (λ x. x ++ block_calls ps (get_or ps n p).body []) none
    ∙ sym (ap (calls_in ps) (slice_get-get_or ps n p lt))))

pub read_call : (ps : List Procedure) (n : ℕ) (all : List ℕ) (i : ℕ) → i < length all
    → all ≡ calls_in ps (slice_get ps n) → Calls ps n (slice_index_or all i 0)
read_call ps n all i lt e =
    subst (λ x. IsAmong x (slice_index_or all i 0)) e (among_at all i (slice_index_or all i 0) (read_at all i lt))

-- one empty row more
pub empty_row : (callers : List (List ℕ)) → ((q : ℕ) → callers_of callers q ≡ []) → (q : ℕ)
    → callers_of (callers ++ [] ∷ []) q ≡ []
empty_row [] h zero = refl
empty_row [] h (suc q) = refl
empty_row (c ∷ callers) h zero = h 0
empty_row (c ∷ callers) h (suc q) = empty_row callers (λ r. h (suc r)) q
