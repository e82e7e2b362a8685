-- The same of the fresh locals: more fuel than there are procedures changes none.
use Rattle.std.specs.{Prelude.{Bool, true, false, is_some}, List.{list_any}}
use Rattle.std.proofs.Common.{◌≡◌, ℕ, zero, suc, ◌+◌, List, [], ◌++◌, Option, Some, None, refl, ◌∙◌, ap, arith, inl}
use Rattle.std.proofs.{Common.{inr, length}, lemmas.Bool.{cases_Bool, or_parts}}
use Rattle.sect_front.specs.Syntax.{StatementView, Primitive, If, IfElse, While, Atomic, Call, BlockView, End, Then}
use Rattle.sect_front.specs.declared.tree.Procedure.{Procedure}
use Rattle.sect_types.specs.{Items.{variables}, declared.counting.sums.Sums.{Sums}}
use Rattle.sect_types.specs.Sums.{sums_within, statement_sums, block_sums, number_of, prepend, statement_calls}
use Rattle.sect_types.specs.Sums.{block_calls, calls_in}
use Rattle.sect_types.specs.Expanded.{Freshens, of_call, statement_fresh, block_fresh, fresh_of, fresh_within}
use Rattle.sect_types.specs.Expanded.{procedure_numbered}
use Rattle.sect_types.proofs.FuelLaws.{Agree, same_statement, same_block, chain, one_more}
use Rattle.sect_types.proofs.EnoughLaws.{IsAcyclic, ends, no_way}

abbrev SameAt : Freshens → Freshens → Option ℕ → Type 0
SameAt f g q = (c : ℕ) → f q c ≡ g q c

-- the cases_Bool agree at what the test leaves out
record AreSame (test : ℕ → Bool) (f g : Freshens) : Type 0 where
  some : (r : ℕ) → test r ≡ false → SameAt f g (Some r)
  none : SameAt f g None

call_fresh : (test : ℕ → Bool) (f g : Freshens) → AreSame test f g → (q : Option ℕ) (w : List ℕ)
    → list_any test (prepend q w) ≡ false → SameAt f g q
call_fresh test f g h None w e = h.none
call_fresh test f g h (Some r) w e = h.some r (or_parts (test r) (list_any test w) e).0

mutual
  same_statement_fresh : (test : ℕ → Bool) (ps : List Procedure) (t u : List Sums) (f g : Freshens) → Agree test t u
      → AreSame test f g → (c : ℕ) (s : StatementView) (w : List ℕ) → list_any test (statement_calls ps s w) ≡ false
      → statement_fresh ps t f c s ≡ statement_fresh ps u g c s
  same_statement_fresh test ps t u f g h m c (Primitive p) w e = refl
  same_statement_fresh test ps t u f g h m c (If v a) w e = same_block_fresh test ps t u f g h m c a w e
  same_statement_fresh test ps t u f g h m c (IfElse v a b) w e =
      let s = same_block test ps t u h a (block_calls ps b w) e in
      let x = same_block_fresh test ps t u f g h m c a (block_calls ps b w) e in
      let y : block_fresh ps t f (c + (block_sums ps t a).calls) b ≡ block_fresh ps u g (c + (block_sums ps u a).calls)
      b =
      same_block_fresh test ps t u f g h m (c + (block_sums ps t a).calls) b w s.1
      ∙ ap (λ (z : Sums). block_fresh ps u g (c + z.calls) b) s.0 in
      λ i. x i ++ y i
  same_statement_fresh test ps t u f g h m c (While v a) w e = same_block_fresh test ps t u f g h m c a w e
  same_statement_fresh test ps t u f g h m c (Atomic lock a) w e = same_block_fresh test ps t u f g h m c a w e
  same_statement_fresh test ps t u f g h m c (Call n vs) w e = call_fresh test f g m (number_of ps n) w e c

  same_block_fresh : (test : ℕ → Bool) (ps : List Procedure) (t u : List Sums) (f g : Freshens) → Agree test t u
      → AreSame test f g → (c : ℕ) (b : BlockView) (w : List ℕ) → list_any test (block_calls ps b w) ≡ false
      → block_fresh ps t f c b ≡ block_fresh ps u g c b
  same_block_fresh test ps t u f g h m c End w e = refl
  same_block_fresh test ps t u f g h m c (Then v b) w e =
      let s = same_statement test ps t u h v (block_calls ps b w) e in
      let x = same_statement_fresh test ps t u f g h m c v (block_calls ps b w) e in
      let y : block_fresh ps t f (c + (statement_sums ps t v).calls) b ≡ block_fresh ps u g
      (c + (statement_sums ps u v).calls) b =
      same_block_fresh test ps t u f g h m (c + (statement_sums ps t v).calls) b w s.1
      ∙ ap (λ (z : Sums). block_fresh ps u g (c + z.calls) b) s.0 in
      λ i. x i ++ y i

one_fresh : (test : ℕ → Bool) (ps : List Procedure) (t u : List Sums) (f g : Freshens) → Agree test t u
    → AreSame test f g
    → (o : Option Procedure) → list_any test (calls_in ps o) ≡ false → (c : ℕ)
    → fresh_of ps t f o c ≡ fresh_of ps u g o c
one_fresh test ps t u f g h m None e c = refl
one_fresh test ps t u f g h m (Some p) e c =
    ap (λ l. of_call c (variables p) ++ l) (same_block_fresh test ps t u f g h m (c + 1) p.body [] e)

nothing_fresh : (ps : List Procedure) (t : List Sums) (f : Freshens) (o : Option Procedure) → is_some o ≡ false
    → (c : ℕ)
    → fresh_of ps t f o c ≡ []
nothing_fresh ps t f None e c = refl
nothing_fresh ps t f (Some p) e c = absurd (let off : true ≡ false = e in cc)

unnamed : (n : ℕ) (ps : List Procedure) → SameAt (fresh_within (suc n) ps) (fresh_within n ps) None
unnamed zero ps c = refl
unnamed (suc n) ps c = refl

-- where n calls in a row aren't there, one more makes no fresh local
pub one_more_fresh : (n : ℕ) (ps : List Procedure) (q : Option ℕ) → chain n ps q ≡ false
    → SameAt (fresh_within (suc n) ps) (fresh_within n ps) q
one_more_fresh zero ps q e c = nothing_fresh ps [] (fresh_within zero ps) (procedure_numbered ps q) e c
one_more_fresh (suc n) ps q e c =
    one_fresh (λ r. chain n ps (Some r)) ps (sums_within (suc n) ps) (sums_within n ps) (fresh_within (suc n) ps)
    (fresh_within n ps) (λ r h. one_more n ps (Some r) h)
    (record { some = λ r h. one_more_fresh n ps (Some r) h; none = unnamed n ps }) (procedure_numbered ps q) e c

-- without recursion the fuel is enough: a call's fresh locals unfold once more to the same
pub enough_fresh : (ps : List Procedure) (q : ℕ) → IsAcyclic ps
    → SameAt (fresh_within (suc (length ps)) ps) (fresh_within (length ps) ps) (Some q)
enough_fresh ps q a c = elim (cases_Bool (chain (length ps) ps (Some q))) [
  | inl e ↦ absurd (ends (length ps) ps [] q a (no_way ps q) (omega arith) e)
  | inr e ↦ one_more_fresh (length ps) ps (Some q) e c
]
