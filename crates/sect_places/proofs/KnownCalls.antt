-- In a program all calls come to an end.
use Rattle.std.proofs.Common.{◌≡◌, ℕ, zero, suc, List, [], ◌∷◌, length, Option, Some, None, slice_get, refl, ◌+◌}
use Rattle.sect_lemmas.proofs.Options.{none_or_some, map_part}
use Rattle.sect_front.specs.TreeView.{TreeView}
use Rattle.sect_front.specs.Syntax.{StatementView, BlockView, Primitive, If, IfElse, While, Atomic, Call, End, Then}
use Rattle.sect_front.specs.{declared.tree.Operand.{Operand}, declared.tree.Record.{Record}}
use Rattle.sect_front.specs.{declared.tree.GlobalObject.{GlobalObject}, declared.tree.Procedure.{Procedure}}
use Rattle.sect_front.specs.declared.tree.Thread.{Thread}
use Rattle.sect_types.specs.{declared.counting.sums.Sums.{Sums}, Sums.{number_of, sums_within}, Rules.{sight}}
use Rattle.sect_types.specs.{Items.{variables}, Statements.{TextView, Stop, Choose, Loop, Section, joined}}
use Rattle.sect_types.specs.Expanded.{Scene, NextNumbers, Expander, condition_at, expanded_statement, expanded_block}
use Rattle.sect_types.specs.Expanded.{past_block, past_statement, past_thread, clear_locals, set_parameters, after_call}
use Rattle.sect_types.specs.Expanded.{call_of, expand_within, expanded_thread, expanded_threads}
use Rattle.sect_places.specs.steps.Ending.{StatementEnds, BlockEnds, CallEnds, EndsWithin, ThreadsEnd}
use Rattle.sect_places.proofs.Parts.{both_parts, all_parts}

-- what has a text ends
abbrev pub CallsKnown : Expander → (Option ℕ → Type 0) → Type 0
CallsKnown expander Ends = (o : Option ℕ) (v : Scene) (a : NextNumbers) (vs : List Operand) (text : TextView)
    → expander o v a vs ≡ Some text → Ends o

module _ (ps : List Procedure) (table : List Sums) (expander : Expander) (Ends : Option ℕ → Type 0)
    (g : CallsKnown expander Ends) (v : Scene) where
  mutual
    statement_known : (a : NextNumbers) (s : StatementView) (text : TextView)
        → expanded_statement ps table expander v a s ≡ Some text → StatementEnds ps Ends s
    statement_known a (Primitive p) text e = tt
    statement_known a (If t b) text e =
        let r = both_parts (λ x y. Choose x y Stop Stop) (condition_at v t) (expanded_block ps table expander v a b)
        text e in
        block_known a b r.1 r.3
    statement_known a (IfElse t b d) text e =
        let r = all_parts (λ x y z. Choose x y z Stop) (condition_at v t) (expanded_block ps table expander v a b)
        (expanded_block ps table expander v (past_block ps table a b) d) text e in
        (block_known a b r.1 r.4, block_known (past_block ps table a b) d r.2 r.5)
    statement_known a (While t b) text e =
        let r = both_parts (λ x y. Loop x y Stop) (condition_at v t) (expanded_block ps table expander v a b) text e in
        block_known a b r.1 r.3
    statement_known a (Atomic l b) text e =
        let inner : NextNumbers = record a { sections = a.sections + 1 } in
        let r = map_part (λ x. Section a.sections x Stop) (expanded_block ps table expander v inner b) text e in
        block_known inner b r.0 r.1
    statement_known a (Call f vs) text e = g (number_of ps f) v a vs text e

    pub block_known : (a : NextNumbers) (b : BlockView) (text : TextView)
        → expanded_block ps table expander v a b ≡ Some text → BlockEnds ps Ends b
    block_known a End text e = tt
    block_known a (Then s b) text e =
        let r = both_parts joined (expanded_statement ps table expander v a s)
        (expanded_block ps table expander v (past_statement ps table a s) b) text e in
        (statement_known a s r.0 r.2, block_known (past_statement ps table a s) b r.1 r.3)

called_known : (n : ℕ) (rs : List Record) (gs : List GlobalObject) (ps : List Procedure) (q : ℕ)
    (r : Option Procedure) (v : Scene) (a : NextNumbers) (vs : List Operand) (text : TextView)
    → CallsKnown (expand_within n rs gs ps) (EndsWithin ps n) → slice_get ps q ≡ r
    → call_of rs gs ps (sums_within n ps) (expand_within n rs gs ps) r (Some q) v a vs ≡ Some text
    → CallEnds ps (EndsWithin ps n) (Some q)
called_known n rs gs ps q None v a vs text g there e = absurd (none_or_some text e)
called_known n rs gs ps q (Some p) v a vs text g there e =
    let inner : Scene = record { sight = sight rs gs (variables p); first = a.fresh } in
    let r = both_parts (λ x y. joined x (joined (clear_locals (a.fresh + length p.parameters) p.locals) y))
    (set_parameters v a.fresh p.parameters vs)
    (expanded_block ps (sums_within n ps) (expand_within n rs gs ps) inner (after_call a p) p.body) text e in (
      p,
      there,
      block_known ps (sums_within n ps) (expand_within n rs gs ps) (EndsWithin ps n) g inner (after_call a p) p.body
          r.1 r.3,
    )

calls_known : (n : ℕ) (rs : List Record) (gs : List GlobalObject) (ps : List Procedure)
    → CallsKnown (expand_within n rs gs ps) (EndsWithin ps n)
calls_known zero rs gs ps o v a vs text e = absurd (none_or_some text e)
calls_known (suc n) rs gs ps None v a vs text e = absurd (none_or_some text e)
calls_known (suc n) rs gs ps (Some q) v a vs text e =
    called_known n rs gs ps q (slice_get ps q) v a vs text (calls_known n rs gs ps) refl e

pub threads_known : (t : TreeView) (a : NextNumbers) (hs : List Thread) (texts : List TextView)
    → expanded_threads t a hs ≡ Some texts
    → ThreadsEnd t.procedures (EndsWithin t.procedures (length t.procedures)) hs
threads_known t a [] texts e = tt
threads_known t a (h ∷ hs) texts e =
    let n : ℕ = length t.procedures in
    let r = both_parts (λ x xs. x ∷ xs) (expanded_thread t a h) (expanded_threads t (past_thread t a h) hs) texts e in (
      block_known t.procedures (sums_within n t.procedures) (expand_within n t.records t.globals t.procedures)
          (EndsWithin t.procedures n) (calls_known n t.records t.globals t.procedures)
          (record { sight = sight t.records t.globals h.locals; first = 0 })
          (record a { fresh = length h.locals }) h.body r.0 r.2,
      threads_known t (past_thread t a h) hs r.1 r.3,
    )
