-- The expanded text as the code writes it: each function is given what follows, and puts its statements before that.
-- Where a name isn't known, where arguments are too few, and where calls are too deep this says nothing. Where there is
-- a text by numbers it is that text.
use Rattle.std.specs.Prelude.{ℕ, zero, suc, ◌+◌, List, [], ◌∷◌, length, Option, Some, None}
use Rattle.sect_front.specs.{declared.tree.Operand.{Operand}, declared.tree.Declaration.{Declaration}}
use Rattle.sect_front.specs.{declared.tree.Record.{Record}, declared.tree.GlobalObject.{GlobalObject}}
use Rattle.sect_front.specs.{declared.tree.Procedure.{Procedure}, declared.tree.Thread.{Thread}, TreeView.{TreeView}}
use Rattle.sect_front.specs.Syntax.{StatementView, Primitive, If, IfElse, While, Atomic, Call, BlockView, End, Then}
use Rattle.sect_types.specs.{declared.counting.sums.Sums.{Sums}, declared.rules.resolve.Given.{Given}}
use Rattle.sect_types.specs.{declared.expansion.action.Value.{Value}, declared.expansion.action.Condition.{Condition}}
use Rattle.sect_types.specs.{declared.expansion.action.Action.{Action}, Sight.{operand_of}, Items.{variables}}
use Rattle.sect_types.specs.{Numbered.{value_by, action_of, condition_of}, Rules.{sight}}
use Rattle.sect_types.specs.Statements.{TextView, Stop, Do, Choose, Loop, Section, joined}
use Rattle.sect_types.specs.Sums.{sums, sums_within, number_of}
use Rattle.sect_types.specs.Expanded.{moved_value, moved_action, moved_condition, Scene, NextNumbers, past_statement}
use Rattle.sect_types.specs.Expanded.{past_block, past_thread, cleared, after_call, procedure_numbered}
use Rattle.sect_front.specs.declared.tree.Comparison.TheVariants as comparison
use Rattle.sect_front.specs.declared.tree.Primitive as leaf
use Rattle.sect_types.specs.declared.expansion.action.Value.TheVariants as value
use Rattle.sect_types.specs.declared.expansion.action.Action.TheVariants as action

abbrev pub action_in : Option Action → Action
action_in (Some a) = a
action_in None = action.Print value.Null

abbrev pub condition_in : Option Condition → Condition
condition_in (Some c) = c
condition_in None = record { left = value.Null; comparison = comparison.Equal; right = value.Null }

-- what is put for a call of that procedure with these arguments, and what follows it
abbrev pub Writer : Type 0
Writer = Option ℕ → Scene → NextNumbers → List Operand → TextView → TextView

abbrev pub written_action : Scene → NextNumbers → leaf.Primitive → Action
written_action v a p = moved_action v.first (action_in (action_of v.sight a.sites p))

abbrev mutual
  -- a statement by numbers, and what follows it
  pub written_statement : List Procedure → List Sums → Writer → Scene → NextNumbers → StatementView → TextView
      → TextView
  written_statement ps table call v a (Primitive p) k = Do (written_action v a p) k
  written_statement ps table call v a (If t b) k =
      Choose (moved_condition v.first (condition_in (condition_of v.sight t)))
      (written_block ps table call v a b) Stop k
  written_statement ps table call v a (IfElse t b c) k =
      Choose (moved_condition v.first (condition_in (condition_of v.sight t))) (written_block ps table call v a b)
      (written_block ps table call v (past_block ps table a b) c) k
  written_statement ps table call v a (While t b) k =
      Loop (moved_condition v.first (condition_in (condition_of v.sight t))) (written_block ps table call v a b) k
  written_statement ps table call v a (Atomic l b) k =
      Section a.sections (written_block ps table call v (record a { sections = a.sections + 1 }) b) k
  written_statement ps table call v a (Call f vs) k = call (number_of ps f) v a vs k

  pub written_block : List Procedure → List Sums → Writer → Scene → NextNumbers → BlockView → TextView
  written_block ps table call v a End = Stop
  written_block ps table call v a (Then s b) =
      written_statement ps table call v a s (written_block ps table call v (past_statement ps table a s) b)

-- the locals from number x on are set to 0 or null
abbrev pub write_locals : ℕ → List Declaration → TextView → TextView
write_locals x [] k = k
write_locals x (d ∷ ds) k = Do (action.Assign x (cleared d.kind)) (write_locals (x + 1) ds k)

-- the argument, by numbers; where it isn't typed this says nothing
abbrev pub argument_in : ℕ → Option Given → Value
argument_in n None = value.Null
argument_in n (Some v) = moved_value n (value_by v)

-- the parameters from number x on are set to the arguments; where these are too few this says nothing
abbrev pub write_parameters : Scene → ℕ → List Declaration → List Operand → TextView → TextView
write_parameters v x [] vs k = k
write_parameters v x (d ∷ ds) [] k = Do (action.Assign x value.Null) (write_parameters v (x + 1) ds [] k)
write_parameters v x (d ∷ ds) (u ∷ us) k =
    Do (action.Assign x (argument_in v.first (operand_of v.sight u))) (write_parameters v (x + 1) ds us k)

-- one assignment a parameter, one a local, then the body, whose variables are the next fresh locals
abbrev pub written_call : List Record → List GlobalObject → List Procedure → List Sums → Writer
    → Option Procedure → Writer
written_call rs gs ps table call None q v a vs k = k
written_call rs gs ps table call (Some p) q v a vs k =
    write_parameters v a.fresh p.parameters vs
    (write_locals (a.fresh + length p.parameters) p.locals
    (joined (written_block ps table call (record { sight = sight rs gs (variables p); first = a.fresh })
    (after_call a p) p.body) k))

-- a call, where calls stand in one another at most n deep; deeper ones vanish, and in a typed text there are none
abbrev pub written_within : ℕ → List Record → List GlobalObject → List Procedure → Writer
written_within zero rs gs ps q v a vs k = k
written_within (suc n) rs gs ps q v a vs k =
    written_call rs gs ps (sums_within n ps) (written_within n rs gs ps) (procedure_numbered ps q) q v a vs k

-- the text of a thread
abbrev pub written_thread : TreeView → NextNumbers → Thread → TextView
written_thread t a h =
    written_block t.procedures (sums t.procedures)
    (written_within (length t.procedures) t.records t.globals t.procedures)
    (record { sight = sight t.records t.globals h.locals; first = 0 }) (record a { fresh = length h.locals }) h.body

abbrev pub written_threads : TreeView → NextNumbers → List Thread → List TextView
written_threads t a [] = []
written_threads t a (h ∷ hs) = written_thread t a h ∷ written_threads t (past_thread t a h) hs

-- the texts of the threads, by number
abbrev pub written_texts : TreeView → List TextView
written_texts t = written_threads t (record { sites = length t.globals; sections = 0; fresh = 0 }) t.threads
