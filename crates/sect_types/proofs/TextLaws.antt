-- The same of the expansion itself: more fuel than there are procedures changes no text.
use Rattle.std.specs.{Prelude.{Bool, true, false, is_some, option_map}, List.{list_any}}
use Rattle.std.proofs.Common.{◌≡◌, ℕ, zero, suc, ◌+◌, List, [], Option, Some, None, refl, ◌∙◌, ap, arith, inl, inr}
use Rattle.std.proofs.{Common.{length}, lemmas.Bool.{cases_Bool, or_parts}}
use Rattle.sect_front.specs.{declared.tree.Operand.{Operand}, declared.tree.Record.{Record}}
use Rattle.sect_front.specs.declared.tree.GlobalObject.{GlobalObject}
use Rattle.sect_front.specs.Syntax.{StatementView, Primitive, If, IfElse, While, Atomic, Call, BlockView, End, Then}
use Rattle.sect_front.specs.declared.tree.Procedure.{Procedure}
use Rattle.sect_types.specs.{Statements.{Stop, Choose, Loop, Section, joined}, Rules.{sight}, Items.{variables}}
use Rattle.sect_types.specs.declared.counting.sums.Sums.{Sums}
use Rattle.sect_types.specs.Sums.{sums_within, number_of, prepend, statement_calls, block_calls, calls_in}
use Rattle.sect_types.specs.Numbered.{of_both, of_all}
use Rattle.sect_types.specs.Expanded.{Scene, NextNumbers, Expander, past, past_statement, past_block}
use Rattle.sect_types.specs.Expanded.{statement_sections, block_sections, condition_at, expanded_statement}
use Rattle.sect_types.specs.Expanded.{expanded_block, expand_within, call_of, procedure_numbered, after_call}
use Rattle.sect_types.specs.Expanded.{set_parameters, clear_locals}
use Rattle.sect_types.proofs.FuelLaws.{Agree, same_statement, same_block, chain, one_more}
use Rattle.sect_types.proofs.EnoughLaws.{IsAcyclic, ends, no_way}

abbrev pub SameAt : Expander → Expander → Option ℕ → Type 0
SameAt f g q = (v : Scene) (a : NextNumbers) (vs : List Operand) → f q v a vs ≡ g q v a vs

-- the two expanders agree at what the test leaves out
pub record AreSame (test : ℕ → Bool) (f g : Expander) : Type 0 where
  pub some : (r : ℕ) → test r ≡ false → SameAt f g (Some r)
  pub none : SameAt f g None

call_text : (test : ℕ → Bool) (f g : Expander) → AreSame test f g → (q : Option ℕ) (w : List ℕ)
    → list_any test (prepend q w) ≡ false → SameAt f g q
call_text test f g h None w e = h.none
call_text test f g h (Some r) w e = h.some r (or_parts (test r) (list_any test w) e).0

mutual
  pub statement_text : (test : ℕ → Bool) (ps : List Procedure) (t u : List Sums) (f g : Expander) → Agree test t u
      → AreSame test f g → (v : Scene) (a : NextNumbers) (s : StatementView) (w : List ℕ)
      → list_any test (statement_calls ps s w) ≡ false
      → expanded_statement ps t f v a s ≡ expanded_statement ps u g v a s
  statement_text test ps t u f g h m v a (Primitive p) w e = refl
  statement_text test ps t u f g h m v a (If c b) w e =
      ap (of_both (λ d x. Choose d x Stop Stop) (condition_at v c)) (block_text test ps t u f g h m v a b w e)
  statement_text test ps t u f g h m v a (IfElse c b d) w e =
      let s = same_block test ps t u h b (block_calls ps d w) e in
      let x = block_text test ps t u f g h m v a b (block_calls ps d w) e in
      let y : expanded_block ps t f v (past_block ps t a b) d ≡ expanded_block ps u g v (past_block ps u a b) d =
      block_text test ps t u f g h m v (past_block ps t a b) d w s.1
      ∙ ap (λ (z : Sums). expanded_block ps u g v (past (record a {
        sections =
            a.sections + block_sections b;
      }) z) d) s.0 in
      λ j. of_all (λ q p r. Choose q p r Stop) (condition_at v c) (x j) (y j)
  statement_text test ps t u f g h m v a (While c b) w e =
      ap (of_both (λ d x. Loop d x Stop) (condition_at v c)) (block_text test ps t u f g h m v a b w e)
  statement_text test ps t u f g h m v a (Atomic lock b) w e =
      ap (option_map (λ x. Section a.sections x Stop))
      (block_text test ps t u f g h m v (record a { sections = a.sections + 1 }) b w e)
  statement_text test ps t u f g h m v a (Call n vs) w e = call_text test f g m (number_of ps n) w e v a vs

  pub block_text : (test : ℕ → Bool) (ps : List Procedure) (t u : List Sums) (f g : Expander) → Agree test t u
      → AreSame test f g → (v : Scene) (a : NextNumbers) (b : BlockView) (w : List ℕ)
      → list_any test (block_calls ps b w) ≡ false → expanded_block ps t f v a b ≡ expanded_block ps u g v a b
  block_text test ps t u f g h m v a End w e = refl
  block_text test ps t u f g h m v a (Then s b) w e =
      let x = same_statement test ps t u h s (block_calls ps b w) e in
      let y : expanded_block ps t f v (past_statement ps t a s) b ≡ expanded_block ps u g v (past_statement ps u a s)
      b =
      block_text test ps t u f g h m v (past_statement ps t a s) b w x.1
      ∙ ap (λ (z : Sums). expanded_block ps u g v (past (record a {
        sections =
            a.sections + statement_sections s;
      }) z) b) x.0 in
      let z = statement_text test ps t u f g h m v a s (block_calls ps b w) e in
      λ j. of_both joined (z j) (y j)

pub one_text : (test : ℕ → Bool) (rs : List Record) (gs : List GlobalObject) (ps : List Procedure) (t u : List Sums)
    (f g : Expander) → Agree test t u → AreSame test f g →
    (o : Option Procedure) → list_any test (calls_in ps o) ≡ false → (q : Option ℕ)
    → SameAt (call_of rs gs ps t f o) (call_of rs gs ps u g o) q
one_text test rs gs ps t u f g h m None e q v a vs = refl
one_text test rs gs ps t u f g h m (Some p) e q v a vs =
    ap (of_both (λ x y. joined x (joined (clear_locals (a.fresh + length p.parameters) p.locals) y))
    (set_parameters v a.fresh p.parameters vs))
    (block_text test ps t u f g h m (record { sight = sight rs gs (variables p); first = a.fresh }) (after_call a p)
    p.body [] e)

-- what isn't a procedure has no text
pub nothing_there : (rs : List Record) (gs : List GlobalObject) (ps : List Procedure) (t : List Sums) (f : Expander)
    (o : Option Procedure) → is_some o ≡ false →
    (q : Option ℕ) (v : Scene) (a : NextNumbers) (vs : List Operand) → call_of rs gs ps t f o q v a vs ≡ None
nothing_there rs gs ps t f None e q v a vs = refl
nothing_there rs gs ps t f (Some p) e q v a vs = absurd (let off : true ≡ false = e in cc)

unnamed : (n : ℕ) (rs : List Record) (gs : List GlobalObject) (ps : List Procedure)
    → SameAt (expand_within (suc n) rs gs ps) (expand_within n rs gs ps) None
unnamed zero rs gs ps v a vs = refl
unnamed (suc n) rs gs ps v a vs = refl

-- where n calls in a row aren't there, one more changes no text
pub one_more_text : (n : ℕ) (rs : List Record) (gs : List GlobalObject) (ps : List Procedure) (q : Option ℕ)
    → chain n ps q ≡ false →
    SameAt (expand_within (suc n) rs gs ps) (expand_within n rs gs ps) q
one_more_text zero rs gs ps q e v a vs =
    nothing_there rs gs ps [] (expand_within zero rs gs ps) (procedure_numbered ps q) e q v a vs
one_more_text (suc n) rs gs ps q e v a vs =
    one_text (λ r. chain n ps (Some r)) rs gs ps (sums_within (suc n) ps) (sums_within n ps)
    (expand_within (suc n) rs gs ps) (expand_within n rs gs ps)
    (λ r h. one_more n ps (Some r) h) (record {
      some = λ r h. one_more_text n rs gs ps (Some r) h;
      none = unnamed n rs gs ps;
    })
    (procedure_numbered ps q) e q v a vs

-- without recursion the fuel is enough: a call's text unfolds once more to the same
pub enough_text : (rs : List Record) (gs : List GlobalObject) (ps : List Procedure) (q : ℕ) → IsAcyclic ps →
    SameAt (expand_within (suc (length ps)) rs gs ps) (expand_within (length ps) rs gs ps) (Some q)
enough_text rs gs ps q c v a vs = elim (cases_Bool (chain (length ps) ps (Some q))) [
  | inl e ↦ absurd (ends (length ps) ps [] q c (no_way ps q) (omega arith) e)
  | inr e ↦ one_more_text (length ps) rs gs ps (Some q) e v a vs
]
