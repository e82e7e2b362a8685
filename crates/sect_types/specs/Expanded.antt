-- The expanded text of a thread, by numbers.
use Rattle.std.specs.Prelude.{ℕ, zero, suc, ◌+◌, List, [], ◌∷◌, ◌++◌, length, map, Option, Some, None, slice_get}
use Rattle.std.specs.Prelude.{option_map}
use Rattle.sect_front.specs.{declared.tree.Operand.{Operand}, declared.tree.Test.{Test}, declared.tree.Kind.{Kind}}
use Rattle.sect_front.specs.{declared.tree.Declaration.{Declaration}, declared.tree.Record.{Record}}
use Rattle.sect_front.specs.{declared.tree.GlobalObject.{GlobalObject}, declared.tree.Procedure.{Procedure}}
use Rattle.sect_front.specs.{declared.tree.Thread.{Thread}, TreeView.{TreeView}}
use Rattle.sect_front.specs.Syntax.{StatementView, Primitive, If, IfElse, While, Atomic, Call, BlockView, End, Then}
use Rattle.sect_types.specs.{declared.declarations.types.ValueType.{ValueType}, declared.expansion.action.Base.{Base}}
use Rattle.sect_types.specs.{declared.expansion.action.Value.{Value}, declared.expansion.action.Condition.{Condition}}
use Rattle.sect_types.specs.{declared.expansion.action.Action.{Action}, Sight.{Sight, names_of_records}}
use Rattle.sect_types.specs.Numbered.{of_both, of_all, value_of, action_of, condition_of}
use Rattle.sect_types.specs.{Environments.{type_of, types_of}, Rules.{sight}}
use Rattle.sect_types.specs.{Statements.{TextView, Stop, Do, Choose, Loop, Section, joined}, Items.{variables}}
use Rattle.sect_types.specs.{declared.counting.sums.Sums.{Sums}, declared.expansion.expand.Fresh.{Fresh}}
use Rattle.sect_types.specs.Sums.{sums, sums_within, statement_sums, block_sums, number_of}
use Rattle.sect_front.specs.declared.tree.Primitive as leaf
use Rattle.sect_front.specs.declared.tree.Kind.TheVariants as kind
use Rattle.sect_types.specs.declared.expansion.action.Base.TheVariants as base
use Rattle.sect_types.specs.declared.expansion.action.Value.TheVariants as value
use Rattle.sect_types.specs.declared.expansion.action.Action.TheVariants as action

-- the variables from number n on
abbrev pub moved_value : ℕ → Value → Value
moved_value n (value.Local i) = value.Local (n + i)
moved_value n v = v

abbrev pub moved_base : ℕ → Base → Base
moved_base n (base.Local i) = base.Local (n + i)
moved_base n (base.Global g) = base.Global g

abbrev pub moved_action : ℕ → Action → Action
moved_action n (action.Assign x v) = action.Assign (n + x) (moved_value n v)
moved_action n (action.Compute x v o w) = action.Compute (n + x) (moved_value n v) o (moved_value n w)
moved_action n (action.New x r site) = action.New (n + x) r site
moved_action n (action.Load x b f) = action.Load (n + x) (moved_base n b) f
moved_action n (action.Store b f v) = action.Store (moved_base n b) f (moved_value n v)
moved_action n (action.Print v) = action.Print (moved_value n v)

abbrev pub moved_condition : ℕ → Condition → Condition
moved_condition n c = record { left = moved_value n c.left; comparison = c.comparison; right = moved_value n c.right }

-- what statements see, and the number of the first of their variables: 0 in a thread's own text
pub record Scene : Type 0 where
  pub sight : Sight
  pub first : ℕ

-- the numbers that the next `new`, the next section and the next fresh local get
pub record NextNumbers : Type 0 where
  pub sites : ℕ
  pub sections : ℕ
  pub fresh : ℕ

abbrev pub past : NextNumbers → Sums → NextNumbers
past a s = record a { sites = a.sites + s.sites; fresh = a.fresh + s.fresh }

-- what stands for a call of that procedure with these arguments, if anything does
abbrev pub Expander : Type 0
Expander = Option ℕ → Scene → NextNumbers → List Operand → Option TextView

-- how many sections stand in statements
abbrev mutual
  pub statement_sections : StatementView → ℕ
  statement_sections (Primitive p) = 0
  statement_sections (If t a) = block_sections a
  statement_sections (IfElse t a b) = block_sections a + block_sections b
  statement_sections (While t a) = block_sections a
  statement_sections (Atomic l a) = 1 + block_sections a
  statement_sections (Call f vs) = 0

  pub block_sections : BlockView → ℕ
  block_sections End = 0
  block_sections (Then s b) = statement_sections s + block_sections b

abbrev pub past_statement : List Procedure → List Sums → NextNumbers → StatementView → NextNumbers
past_statement ps table a s =
    past (record a { sections = a.sections + statement_sections s }) (statement_sums ps table s)

abbrev pub past_block : List Procedure → List Sums → NextNumbers → BlockView → NextNumbers
past_block ps table a b = past (record a { sections = a.sections + block_sections b }) (block_sums ps table b)

abbrev pub action_at : Scene → NextNumbers → leaf.Primitive → Option Action
action_at v a p = option_map (moved_action v.first) (action_of v.sight a.sites p)

abbrev pub condition_at : Scene → Test → Option Condition
condition_at v t = option_map (moved_condition v.first) (condition_of v.sight t)

abbrev mutual
  -- a statement by numbers, if all names in it are known
  pub expanded_statement : List Procedure → List Sums → Expander → Scene → NextNumbers → StatementView
      → Option TextView
  expanded_statement ps table call v a (Primitive p) = option_map (λ x. Do x Stop) (action_at v a p)
  expanded_statement ps table call v a (If t b) =
      of_both (λ c x. Choose c x Stop Stop) (condition_at v t) (expanded_block ps table call v a b)
  expanded_statement ps table call v a (IfElse t b d) =
      of_all (λ c x y. Choose c x y Stop) (condition_at v t) (expanded_block ps table call v a b)
      (expanded_block ps table call v (past_block ps table a b) d)
  expanded_statement ps table call v a (While t b) =
      of_both (λ c x. Loop c x Stop) (condition_at v t) (expanded_block ps table call v a b)
  expanded_statement ps table call v a (Atomic l b) =
      option_map (λ x. Section a.sections x Stop)
      (expanded_block ps table call v (record a { sections = a.sections + 1 }) b)
  expanded_statement ps table call v a (Call f vs) = call (number_of ps f) v a vs

  -- the statements of a block, one after another
  pub expanded_block : List Procedure → List Sums → Expander → Scene → NextNumbers → BlockView → Option TextView
  expanded_block ps table call v a End = Some Stop
  expanded_block ps table call v a (Then s b) =
      of_both joined (expanded_statement ps table call v a s)
      (expanded_block ps table call v (past_statement ps table a s) b)

-- 0 or null
abbrev pub cleared : Kind → Value
cleared kind.Int = value.Number 0
cleared (kind.Record r) = value.Null

-- the locals from number x on are set to 0 or null
abbrev pub clear_locals : ℕ → List Declaration → TextView
clear_locals x [] = Stop
clear_locals x (d ∷ ds) = Do (action.Assign x (cleared d.kind)) (clear_locals (x + 1) ds)

-- the parameters from number x on are set to the arguments, of which there are as many
abbrev pub set_parameters : Scene → ℕ → List Declaration → List Operand → Option TextView
set_parameters v x [] [] = Some Stop
set_parameters v x (d ∷ ds) (u ∷ us) =
    of_both (λ w k. Do (action.Assign x (moved_value v.first w)) k) (value_of v.sight u)
    (set_parameters v (x + 1) ds us)
set_parameters v x _ _ = None

abbrev pub after_call : NextNumbers → Procedure → NextNumbers
after_call a p = record a { fresh = a.fresh + (length p.parameters + length p.locals) }

-- one assignment a parameter, one a local, then the body, whose variables are the next fresh locals
abbrev pub call_of : List Record → List GlobalObject → List Procedure → List Sums → Expander
    → Option Procedure → Expander
call_of rs gs ps table call None q v a vs = None
call_of rs gs ps table call (Some p) q v a vs =
    of_both (λ x y. joined x (joined (clear_locals (a.fresh + length p.parameters) p.locals) y))
    (set_parameters v a.fresh p.parameters vs)
    (expanded_block ps table call (record { sight = sight rs gs (variables p); first = a.fresh }) (after_call a p)
    p.body)

abbrev pub procedure_numbered : List Procedure → Option ℕ → Option Procedure
procedure_numbered ps None = None
procedure_numbered ps (Some q) = slice_get ps q

-- a call, where calls stand in one another at most n deep; in a typed text none stands deeper than there are
-- procedures
abbrev pub expand_within : ℕ → List Record → List GlobalObject → List Procedure → Expander
expand_within zero rs gs ps q v a vs = None
expand_within (suc n) rs gs ps q v a vs =
    call_of rs gs ps (sums_within n ps) (expand_within n rs gs ps) (procedure_numbered ps q) q v a vs

-- the text of a thread
abbrev pub expanded_thread : TreeView → NextNumbers → Thread → Option TextView
expanded_thread t a h =
    expanded_block t.procedures (sums t.procedures)
    (expand_within (length t.procedures) t.records t.globals t.procedures)
    (record { sight = sight t.records t.globals h.locals; first = 0 }) (record a { fresh = length h.locals }) h.body

abbrev pub past_thread : TreeView → NextNumbers → Thread → NextNumbers
past_thread t a h = past_block t.procedures (sums t.procedures) a h.body

abbrev pub expanded_threads : TreeView → NextNumbers → List Thread → Option (List TextView)
expanded_threads t a [] = Some []
expanded_threads t a (h ∷ hs) =
    of_both (λ x xs. x ∷ xs) (expanded_thread t a h) (expanded_threads t (past_thread t a h) hs)

-- the texts of the threads by number, if all names are known and all calls come to an end; so in each typed text
abbrev pub texts_of : TreeView → Option (List TextView)
texts_of t = expanded_threads t (record { sites = length t.globals; sections = 0; fresh = 0 }) t.threads

abbrev pub of_call : ℕ → List Declaration → List Fresh
of_call c ds = map (λ d. record { declared = d; call = c }) ds

-- the fresh locals of a call that has that number
abbrev pub Freshens : Type 0
Freshens = Option ℕ → ℕ → List Fresh

abbrev mutual
  pub statement_fresh : List Procedure → List Sums → Freshens → ℕ → StatementView → List Fresh
  statement_fresh ps table call c (Primitive p) = []
  statement_fresh ps table call c (If t a) = block_fresh ps table call c a
  statement_fresh ps table call c (IfElse t a b) =
      block_fresh ps table call c a ++ block_fresh ps table call (c + (block_sums ps table a).calls) b
  statement_fresh ps table call c (While t a) = block_fresh ps table call c a
  statement_fresh ps table call c (Atomic l a) = block_fresh ps table call c a
  statement_fresh ps table call c (Call f vs) = call (number_of ps f) c

  pub block_fresh : List Procedure → List Sums → Freshens → ℕ → BlockView → List Fresh
  block_fresh ps table call c End = []
  block_fresh ps table call c (Then s b) =
      statement_fresh ps table call c s ++ block_fresh ps table call (c + (statement_sums ps table s).calls) b

-- its parameters, its locals, and then those of the calls in its body, which have the next numbers
abbrev pub fresh_of : List Procedure → List Sums → Freshens → Option Procedure → ℕ → List Fresh
fresh_of ps table call None c = []
fresh_of ps table call (Some p) c = of_call c (variables p) ++ block_fresh ps table call (c + 1) p.body

abbrev pub fresh_within : ℕ → List Procedure → Freshens
fresh_within zero ps q c = []
fresh_within (suc n) ps q c = fresh_of ps (sums_within n ps) (fresh_within n ps) (procedure_numbered ps q) c

-- the fresh locals of a thread: where it declares n locals, number n + i is the i-th of these, and where that is q of
-- call c it is called `q#c`
abbrev pub fresh_in : TreeView → Thread → List Fresh
fresh_in t h = block_fresh t.procedures (sums t.procedures) (fresh_within (length t.procedures) t.procedures) 0 h.body

-- the types of the locals of a thread, the fresh ones after its own
abbrev pub local_types_of : TreeView → Thread → List ValueType
local_types_of t h =
    types_of (names_of_records t.records) h.locals
    ++ map (λ (f : Fresh). type_of (names_of_records t.records) f.declared.kind) (fresh_in t h)

abbrev pub all_local_types : TreeView → List (List ValueType)
all_local_types t = map (local_types_of t) t.threads
