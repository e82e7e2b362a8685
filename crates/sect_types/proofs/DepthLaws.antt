-- The sums say how deep blocks stand in one another in the expansion.
use Rattle.std.specs.Prelude.{max}
use Rattle.std.proofs.Common.{◌≡◌, ℕ, zero, suc, ◌+◌, List, [], ◌∷◌, Option, Some, None, refl, sym, ◌∙◌, ap, arith}
use Rattle.std.proofs.{Common.{length}, Math.Nat.{max-zero, zero-max}}
use Rattle.sect_front.specs.{declared.tree.Operand.{Operand}, declared.tree.Declaration.{Declaration}}
use Rattle.sect_front.specs.{declared.tree.Record.{Record}, declared.tree.GlobalObject.{GlobalObject}}
use Rattle.sect_front.specs.{declared.tree.Procedure.{Procedure}, declared.tree.Thread.{Thread}, TreeView.{TreeView}}
use Rattle.sect_front.specs.Syntax.{StatementView, Primitive, If, IfElse, While, Atomic, Call, BlockView, End, Then}
use Rattle.sect_types.specs.declared.counting.sums.Sums.{Sums}
use Rattle.sect_types.specs.Statements.{TextView, Stop, Do, Choose, Loop, Section, joined, text_depth}
use Rattle.sect_types.specs.{Items.{variables}, Rules.{sight}}
use Rattle.sect_types.specs.Sums.{sums, sums_at, sums_of, sums_within, statement_sums, block_sums, number_of}
use Rattle.sect_types.specs.Expanded.{Scene, NextNumbers, past_statement, past_block, procedure_numbered, after_call}
use Rattle.sect_types.specs.steps.Written.{Writer, written_statement, written_block, written_within, written_call}
use Rattle.sect_types.specs.steps.Written.{write_parameters, write_locals, written_thread}
use Rattle.sect_types.proofs.CountLaws.{primitive_comes, looked}

max_first : (a b c : ℕ) → max a (max b c) ≡ max (max a b) c
max_first a b c = omega arith

joined_deep : (a k : TextView) → text_depth (joined a k) ≡ max (text_depth a) (text_depth k)
joined_deep Stop k = sym (zero-max (text_depth k))
joined_deep (Do a r) k = joined_deep r k
joined_deep (Choose t p q r) k =
    ap (max (1 + max (text_depth p) (text_depth q))) (joined_deep r k)
    ∙ max_first (1 + max (text_depth p) (text_depth q)) (text_depth r) (text_depth k)
joined_deep (Loop t p r) k =
    ap (max (1 + text_depth p)) (joined_deep r k) ∙ max_first (1 + text_depth p) (text_depth r) (text_depth k)
joined_deep (Section i p r) k =
    ap (max (1 + text_depth p)) (joined_deep r k) ∙ max_first (1 + text_depth p) (text_depth r) (text_depth k)

-- each call is as deep as the table says
abbrev DeepCalls : List Sums → Writer → Type 0
DeepCalls table call = (q : Option ℕ) (v : Scene) (a : NextNumbers) (vs : List Operand) (k : TextView) →
    text_depth (call q v a vs k) ≡ max (sums_at table q).deep (text_depth k)

mutual
  statement_deep : (ps : List Procedure) (table : List Sums) (call : Writer) → DeepCalls table call
      → (v : Scene) (a : NextNumbers) (s : StatementView) (k : TextView)
      → text_depth (written_statement ps table call v a s k) ≡ max (statement_sums ps table s).deep (text_depth k)
  statement_deep ps table call h v a (Primitive p) k =
      sym (ap (λ (s : Sums). max s.deep (text_depth k)) (primitive_comes p) ∙ zero-max (text_depth k))
  statement_deep ps table call h v a (If t b) k =
      ap (λ n. max (1 + n) (text_depth k))
      (max-zero (text_depth (written_block ps table call v a b)) ∙ block_deep ps table call h v a b)
  statement_deep ps table call h v a (IfElse t b c) k =
      let x = block_deep ps table call h v a b in
      let y = block_deep ps table call h v (past_block ps table a b) c in
      λ i. max (1 + max (x i) (y i)) (text_depth k)
  statement_deep ps table call h v a (While t b) k =
      ap (λ n. max (1 + n) (text_depth k)) (block_deep ps table call h v a b)
  statement_deep ps table call h v a (Atomic lock b) k =
      ap (λ n. max (1 + n) (text_depth k))
      (block_deep ps table call h v (record a { sections = a.sections + 1 }) b)
  statement_deep ps table call h v a (Call f vs) k = h (number_of ps f) v a vs k

  pub block_deep : (ps : List Procedure) (table : List Sums) (call : Writer) → DeepCalls table call
      → (v : Scene) (a : NextNumbers) (b : BlockView)
      → text_depth (written_block ps table call v a b) ≡ (block_sums ps table b).deep
  block_deep ps table call h v a End = refl
  block_deep ps table call h v a (Then s b) =
      statement_deep ps table call h v a s (written_block ps table call v (past_statement ps table a s) b)
      ∙ ap (max (statement_sums ps table s).deep) (block_deep ps table call h v (past_statement ps table a s) b)

cleared_deep : (x : ℕ) (ds : List Declaration) (k : TextView) → text_depth (write_locals x ds k) ≡ text_depth k
cleared_deep x [] k = refl
cleared_deep x (d ∷ ds) k = cleared_deep (x + 1) ds k

set_deep : (v : Scene) (x : ℕ) (ds : List Declaration) (vs : List Operand) (k : TextView)
    → text_depth (write_parameters v x ds vs k) ≡ text_depth k
set_deep v x [] vs k = refl
set_deep v x (d ∷ ds) [] k = set_deep v (x + 1) ds [] k
set_deep v x (d ∷ ds) (u ∷ us) k = set_deep v (x + 1) ds us k

call_deep : (rs : List Record) (gs : List GlobalObject) (ps : List Procedure) (table : List Sums) (call : Writer)
    → DeepCalls table call →
    (o : Option Procedure) (q : Option ℕ) (v : Scene) (a : NextNumbers) (vs : List Operand) (k : TextView)
    → text_depth (written_call rs gs ps table call o q v a vs k) ≡ max (sums_of ps table o).deep (text_depth k)
call_deep rs gs ps table call h None q v a vs k = sym (zero-max (text_depth k))
call_deep rs gs ps table call h (Some p) q v a vs k =
    let inner : Scene = record { sight = sight rs gs (variables p); first = a.fresh } in
    let text = written_block ps table call inner (after_call a p) p.body in
    set_deep v a.fresh p.parameters vs (write_locals (a.fresh + length p.parameters) p.locals (joined text k))
    ∙ cleared_deep (a.fresh + length p.parameters) p.locals (joined text k)
    ∙ joined_deep text k
    ∙ ap (λ n. max n (text_depth k)) (block_deep ps table call h inner (after_call a p) p.body)

-- the expansion of a call is as deep as the sums say
pub calls_deep : (n : ℕ) (rs : List Record) (gs : List GlobalObject) (ps : List Procedure)
    → DeepCalls (sums_within n ps) (written_within n rs gs ps)
calls_deep zero rs gs ps None v a vs k = sym (zero-max (text_depth k))
calls_deep zero rs gs ps (Some q) v a vs k = sym (zero-max (text_depth k))
calls_deep (suc n) rs gs ps q v a vs k =
    call_deep rs gs ps (sums_within n ps) (written_within n rs gs ps) (calls_deep n rs gs ps)
    (procedure_numbered ps q) q v a vs k
    ∙ ap (λ (s : Sums). max s.deep (text_depth k)) (sym (looked ps (sums_within n ps) q))

-- the text of a thread is as deep as the sums say
pub thread_deep : (t : TreeView) (a : NextNumbers) (h : Thread)
    → text_depth (written_thread t a h) ≡ (block_sums t.procedures (sums t.procedures) h.body).deep
thread_deep t a h =
    block_deep t.procedures (sums t.procedures) (written_within (length t.procedures) t.records t.globals t.procedures)
    (calls_deep (length t.procedures) t.records t.globals t.procedures) (record {
      sight = sight t.records t.globals h.locals;
      first = 0;
    })
    (record a { fresh = length h.locals }) h.body
