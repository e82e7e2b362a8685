-- Where there is a text by numbers, it is what the code writes.
use Rattle.std.proofs.Common.{◌≡◌, ℕ, zero, suc, ◌+◌, List, [], ◌∷◌, Option, Some, None, refl, sym, ap, ◌∙◌, length}
use Rattle.sect_front.specs.{declared.tree.Declaration.{Declaration}, declared.tree.Operand.{Operand}}
use Rattle.sect_front.specs.{declared.tree.Test.{Test}, declared.tree.Record.{Record}}
use Rattle.sect_front.specs.{declared.tree.GlobalObject.{GlobalObject}, declared.tree.Procedure.{Procedure}}
use Rattle.sect_front.specs.{declared.tree.Thread.{Thread}, TreeView.{TreeView}}
use Rattle.sect_front.specs.Syntax.{StatementView, Primitive, If, IfElse, While, Atomic, Call, BlockView, End, Then}
use Rattle.sect_types.specs.{declared.counting.sums.Sums.{Sums}, declared.expansion.action.Value.{Value}}
use Rattle.sect_types.specs.{declared.expansion.action.Action.{Action}, declared.expansion.action.Condition.{Condition}}
use Rattle.sect_types.specs.{Items.{variables}, Rules.{sight}, Sight.{operand_of}}
use Rattle.sect_types.specs.Statements.{TextView, Stop, Do, Choose, Loop, Section, joined}
use Rattle.sect_types.specs.Sums.{sums, sums_within, number_of}
use Rattle.sect_types.specs.Numbered.{value_by, value_of, action_of, condition_of}
use Rattle.sect_types.specs.Expanded.{Scene, NextNumbers, Expander, moved_value, moved_action, moved_condition}
use Rattle.sect_types.specs.Expanded.{action_at, condition_at, past_statement, past_block, past_thread, cleared}
use Rattle.sect_types.specs.Expanded.{expanded_statement, expanded_block, clear_locals, set_parameters, after_call}
use Rattle.sect_types.specs.Expanded.{call_of, procedure_numbered, expand_within, expanded_thread, expanded_threads}
use Rattle.sect_types.specs.Expanded.{texts_of}
use Rattle.sect_types.specs.steps.Written.{Writer, action_in, condition_in, argument_in, written_action}
use Rattle.sect_types.specs.steps.Written.{written_statement, written_block, write_locals, write_parameters}
use Rattle.sect_types.specs.steps.Written.{written_call, written_within, written_thread, written_threads, written_texts}
use Rattle.sect_types.proofs.Optional.{both_parts, three_parts}
use Rattle.sect_lemmas.proofs.Options.{some_injective, none_or_some, map_part}
use Rattle.sect_types.proofs.shared.Joining.{joined_again}
use Rattle.sect_front.specs.declared.tree.Primitive as leaf
use Rattle.sect_types.specs.declared.expansion.action.Action.TheVariants as action

-- a statement without a block, a test and an argument
action_written : (v : Scene) (a : NextNumbers) (p : leaf.Primitive) (x : Action) → action_at v a p ≡ Some x
    → written_action v a p ≡ x
action_written v a p x e =
    let m = map_part (moved_action v.first) (action_of v.sight a.sites p) x e in
    ap (λ o. moved_action v.first (action_in o)) m.1 ∙ m.2

condition_written : (v : Scene) (t : Test) (x : Condition) → condition_at v t ≡ Some x
    → moved_condition v.first (condition_in (condition_of v.sight t)) ≡ x
condition_written v t x e =
    let m = map_part (moved_condition v.first) (condition_of v.sight t) x e in
    ap (λ o. moved_condition v.first (condition_in o)) m.1 ∙ m.2

argument_written : (v : Scene) (u : Operand) (w : Value) → value_of v.sight u ≡ Some w
    → argument_in v.first (operand_of v.sight u) ≡ moved_value v.first w
argument_written v u w e =
    let m = map_part value_by (operand_of v.sight u) w e in
    ap (argument_in v.first) m.1 ∙ ap (moved_value v.first) m.2

-- where a call has a text, that is what is put in its place
abbrev pub Writes : Expander → Writer → Type 0
Writes f g = (q : Option ℕ) (v : Scene) (a : NextNumbers) (vs : List Operand) (x : TextView) → f q v a vs ≡ Some x
    → (k : TextView) → g q v a vs k ≡ joined x k

mutual
  pub statement_written : (ps : List Procedure) (table : List Sums) (f : Expander) (g : Writer) → Writes f g
      → (v : Scene) (a : NextNumbers) (s : StatementView) (x : TextView)
      → expanded_statement ps table f v a s ≡ Some x
      → (k : TextView) → written_statement ps table g v a s k ≡ joined x k
  statement_written ps table f g h v a (Primitive p) x e k =
      let m = map_part (λ y. Do y Stop) (action_at v a p) x e in
      ap (λ y. Do y k) (action_written v a p m.0 m.1) ∙ ap (λ y. joined y k) m.2
  statement_written ps table f g h v a (If t b) x e k =
      let m = both_parts (λ c y. Choose c y Stop Stop) (condition_at v t) (expanded_block ps table f v a b) x e in
      let c = condition_written v t m.first m.first_is in
      let y = block_written ps table f g h v a b m.second m.second_is in
      (λ i. Choose (c i) (y i) Stop k) ∙ ap (λ z. joined z k) m.is
  statement_written ps table f g h v a (IfElse t b d) x e k =
      let m = three_parts (λ c y z. Choose c y z Stop) (condition_at v t) (expanded_block ps table f v a b)
      (expanded_block ps table f v (past_block ps table a b) d) x e in
      let c = condition_written v t m.first m.first_is in
      let y = block_written ps table f g h v a b m.second m.second_is in
      let z = block_written ps table f g h v (past_block ps table a b) d m.third m.third_is in
      (λ i. Choose (c i) (y i) (z i) k) ∙ ap (λ w. joined w k) m.is
  statement_written ps table f g h v a (While t b) x e k =
      let m = both_parts (λ c y. Loop c y Stop) (condition_at v t) (expanded_block ps table f v a b) x e in
      let c = condition_written v t m.first m.first_is in
      let y = block_written ps table f g h v a b m.second m.second_is in
      (λ i. Loop (c i) (y i) k) ∙ ap (λ z. joined z k) m.is
  statement_written ps table f g h v a (Atomic l b) x e k =
      let inner : NextNumbers = record a { sections = a.sections + 1 } in
      let m = map_part (λ y. Section a.sections y Stop) (expanded_block ps table f v inner b) x e in
      let y = block_written ps table f g h v inner b m.0 m.1 in
      ap (λ z. Section a.sections z k) y ∙ ap (λ z. joined z k) m.2
  statement_written ps table f g h v a (Call n vs) x e k = h (number_of ps n) v a vs x e k

  pub block_written : (ps : List Procedure) (table : List Sums) (f : Expander) (g : Writer) → Writes f g
      → (v : Scene) (a : NextNumbers) (b : BlockView) (x : TextView) → expanded_block ps table f v a b ≡ Some x
      → written_block ps table g v a b ≡ x
  block_written ps table f g h v a End x e = some_injective Stop x e
  block_written ps table f g h v a (Then s b) x e =
      let next = past_statement ps table a s in
      let m = both_parts joined (expanded_statement ps table f v a s) (expanded_block ps table f v next b) x e in
      ap (written_statement ps table g v a s) (block_written ps table f g h v next b m.second m.second_is)
      ∙ statement_written ps table f g h v a s m.first m.first_is m.second ∙ m.is

locals_written : (x : ℕ) (ds : List Declaration) (k : TextView) → write_locals x ds k ≡ joined (clear_locals x ds) k
locals_written x [] k = refl
locals_written x (d ∷ ds) k = ap (Do (action.Assign x (cleared d.kind))) (locals_written (x + 1) ds k)

parameters_written : (v : Scene) (n : ℕ) (ds : List Declaration) (us : List Operand) (x : TextView)
    → set_parameters v n ds us ≡ Some x → (k : TextView) → write_parameters v n ds us k ≡ joined x k
parameters_written v n [] [] x e k = ap (λ y. joined y k) (some_injective Stop x e)
parameters_written v n [] (u ∷ us) x e k = absurd (none_or_some x e)
parameters_written v n (d ∷ ds) [] x e k = absurd (none_or_some x e)
parameters_written v n (d ∷ ds) (u ∷ us) x e k =
    let m = both_parts (λ w y. Do (action.Assign n (moved_value v.first w)) y) (value_of v.sight u)
    (set_parameters v (n + 1) ds us) x e in
    let w = argument_written v u m.first m.first_is in
    let y = parameters_written v (n + 1) ds us m.second m.second_is k in
    (λ i. Do (action.Assign n (w i)) (y i)) ∙ ap (λ z. joined z k) m.is

call_written : (rs : List Record) (gs : List GlobalObject) (ps : List Procedure) (table : List Sums) (f : Expander)
    (g : Writer) → Writes f g → (o : Option Procedure) → Writes (call_of rs gs ps table f o)
    (written_call rs gs ps table g o)
call_written rs gs ps table f g h None q v a vs x e k = absurd (none_or_some x e)
call_written rs gs ps table f g h (Some p) q v a vs x e k =
    let own = clear_locals (a.fresh + length p.parameters) p.locals in
    let inner : Scene = record { sight = sight rs gs (variables p); first = a.fresh } in
    let m = both_parts (λ y z. joined y (joined own z)) (set_parameters v a.fresh p.parameters vs)
    (expanded_block ps table f inner (after_call a p) p.body) x e in
    let body = block_written ps table f g h inner (after_call a p) p.body m.second m.second_is in
    parameters_written v a.fresh p.parameters vs m.first m.first_is _
    ∙ ap (joined m.first) (locals_written (a.fresh + length p.parameters) p.locals _
    ∙ ap (λ y. joined own (joined y k)) body ∙ sym (joined_again own m.second k))
    ∙ sym (joined_again m.first (joined own m.second) k) ∙ ap (λ y. joined y k) m.is

pub within_written : (n : ℕ) (rs : List Record) (gs : List GlobalObject) (ps : List Procedure)
    → Writes (expand_within n rs gs ps) (written_within n rs gs ps)
within_written zero rs gs ps q v a vs x e k = absurd (none_or_some x e)
within_written (suc n) rs gs ps q v a vs x e k =
    call_written rs gs ps (sums_within n ps) (expand_within n rs gs ps) (written_within n rs gs ps)
    (within_written n rs gs ps) (procedure_numbered ps q) q v a vs x e k

-- a thread
pub thread_written : (t : TreeView) (a : NextNumbers) (h : Thread) (x : TextView) → expanded_thread t a h ≡ Some x
    → written_thread t a h ≡ x
thread_written t a h x e =
    let n = length t.procedures in
    block_written t.procedures (sums t.procedures) (expand_within n t.records t.globals t.procedures)
    (written_within n t.records t.globals t.procedures) (within_written n t.records t.globals t.procedures)
    (record { sight = sight t.records t.globals h.locals; first = 0 }) (record a { fresh = length h.locals }) h.body x e

threads_written : (t : TreeView) (a : NextNumbers) (hs : List Thread) (xs : List TextView)
    → expanded_threads t a hs ≡ Some xs → written_threads t a hs ≡ xs
threads_written t a [] xs e = some_injective [] xs e
threads_written t a (h ∷ hs) xs e =
    let m = both_parts (λ y ys. y ∷ ys) (expanded_thread t a h) (expanded_threads t (past_thread t a h) hs) xs e in
    let y = thread_written t a h m.first m.first_is in
    let ys = threads_written t (past_thread t a h) hs m.second m.second_is in
    (λ i. y i ∷ ys i) ∙ m.is

-- all of them
pub texts_written : (t : TreeView) (xs : List TextView) → texts_of t ≡ Some xs → written_texts t ≡ xs
texts_written t xs e =
    threads_written t (record { sites = length t.globals; sections = 0; fresh = 0 }) t.threads xs e
