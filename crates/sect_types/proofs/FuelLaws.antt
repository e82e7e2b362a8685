-- Where calls stand in one another less than n deep, more than n says no more.
use Rattle.std.specs.{Prelude.{Bool, true, false, is_some}, List.{list_any}}
use Rattle.std.proofs.Common.{◌≡◌, ℕ, zero, suc, ◌+◌, List, [], Option, Some, None, refl, sym, ◌∙◌, ap, length}
use Rattle.std.proofs.lemmas.Bool.{or_parts}
use Rattle.sect_front.specs.Syntax.{StatementView, Primitive, If, IfElse, While, Atomic, Call, BlockView, End, Then}
use Rattle.sect_front.specs.declared.tree.Procedure.{Procedure}
use Rattle.sect_types.specs.declared.counting.sums.Sums.{Sums}
use Rattle.sect_types.specs.Sums.{nothing, both, around, call_sums, sums_at, number_of, statement_sums, block_sums}
use Rattle.sect_types.specs.Sums.{sums_within, prepend, statement_calls, block_calls, calls_in, sums_of}
use Rattle.sect_types.specs.Expanded.{procedure_numbered}
use Rattle.sect_types.proofs.CountLaws.{looked}

-- so many calls in a row from q
abbrev pub chain : ℕ → List Procedure → Option ℕ → Bool
chain zero ps q = is_some (procedure_numbered ps q)
chain (suc n) ps q = list_any (λ r. chain n ps (Some r)) (calls_in ps (procedure_numbered ps q))

-- the two tables agree at what the test leaves out
abbrev pub Agree : (ℕ → Bool) → List Sums → List Sums → Type 0
Agree test t u = (r : ℕ) → test r ≡ false → sums_at t (Some r) ≡ sums_at u (Some r)

same_call : (test : ℕ → Bool) (t u : List Sums) → Agree test t u → (q : Option ℕ) (w : List ℕ)
    → list_any test (prepend q w) ≡ false →
    (sums_at t q ≡ sums_at u q) × (list_any test w ≡ false)
same_call test t u h None w e = (refl, e)
same_call test t u h (Some r) w e =
    (h r (or_parts (test r) (list_any test w) e).0, (or_parts (test r) (list_any test w) e).1)

mutual
  pub same_statement : (test : ℕ → Bool) (ps : List Procedure) (t u : List Sums) → Agree test t u
      → (s : StatementView) (w : List ℕ)
      → list_any test (statement_calls ps s w) ≡ false →
      (statement_sums ps t s ≡ statement_sums ps u s) × (list_any test w ≡ false)
  same_statement test ps t u h (Primitive p) w e = (refl, e)
  same_statement test ps t u h (If v a) w e = let x = same_block test ps t u h a w e in (ap around x.0, x.1)
  same_statement test ps t u h (IfElse v a b) w e =
      let x = same_block test ps t u h a (block_calls ps b w) e in
      let y = same_block test ps t u h b w x.1 in
      ((λ i. around (both (x.0 i) (y.0 i))), y.1)
  same_statement test ps t u h (While v a) w e = let x = same_block test ps t u h a w e in (ap around x.0, x.1)
  same_statement test ps t u h (Atomic lock a) w e = let x = same_block test ps t u h a w e in (ap around x.0, x.1)
  same_statement test ps t u h (Call f vs) w e = same_call test t u h (number_of ps f) w e

  pub same_block : (test : ℕ → Bool) (ps : List Procedure) (t u : List Sums) → Agree test t u
      → (b : BlockView) (w : List ℕ)
      → list_any test (block_calls ps b w) ≡ false →
      (block_sums ps t b ≡ block_sums ps u b) × (list_any test w ≡ false)
  same_block test ps t u h End w e = (refl, e)
  same_block test ps t u h (Then s b) w e =
      let x = same_statement test ps t u h s (block_calls ps b w) e in
      let y = same_block test ps t u h b w x.1 in
      ((λ i. both (x.0 i) (y.0 i)), y.1)

same_sums : (test : ℕ → Bool) (ps : List Procedure) (t u : List Sums) → Agree test t u → (o : Option Procedure)
    → list_any test (calls_in ps o) ≡ false →
    sums_of ps t o ≡ sums_of ps u o
same_sums test ps t u h None e = refl
same_sums test ps t u h (Some p) e =
    ap (λ x. call_sums (length p.parameters + length p.locals) x) (same_block test ps t u h p.body [] e).0

nothing_numbered : (ps : List Procedure) (o : Option Procedure) → is_some o ≡ false → sums_of ps [] o ≡ nothing
nothing_numbered ps None e = refl
nothing_numbered ps (Some p) e = absurd (let off : true ≡ false = e in cc)

nothing_at : (q : Option ℕ) → sums_at [] q ≡ nothing
nothing_at None = refl
nothing_at (Some q) = refl

-- where n calls in a row aren't there, one more round changes nothing
pub one_more : (n : ℕ) (ps : List Procedure) (q : Option ℕ) → chain n ps q ≡ false
    → sums_at (sums_within (suc n) ps) q ≡ sums_at (sums_within n ps) q
one_more zero ps q e = looked ps [] q ∙ nothing_numbered ps (procedure_numbered ps q) e ∙ sym (nothing_at q)
one_more (suc n) ps q e =
    looked ps (sums_within (suc n) ps) q
    ∙ same_sums (λ r. chain n ps (Some r)) ps (sums_within (suc n) ps) (sums_within n ps)
    (λ r h. one_more n ps (Some r) h) (procedure_numbered ps q) e
    ∙ sym (looked ps (sums_within n ps) q)
