-- The items of a text, in order, each with what it has to agree with.
use Rattle.std.specs.Prelude.{ℕ, ◌+◌, Bool, true, false, List, [], ◌∷◌, ◌++◌}
use Rattle.sect_front.specs.{declared.tree.Test.{Test}, declared.tree.Operand.{Operand}, declared.tree.Kind.{Kind}}
use Rattle.sect_front.specs.{declared.tree.Record.{Record}, declared.tree.GlobalObject.{GlobalObject}}
use Rattle.sect_front.specs.{declared.tree.Declaration.{Declaration}, declared.tree.Procedure.{Procedure}}
use Rattle.sect_front.specs.{declared.tree.Thread.{Thread}, TreeView.{TreeView}}
use Rattle.sect_front.specs.Syntax.{StatementView, Primitive, If, IfElse, While, Atomic, Call, BlockView, End, Then}
use Rattle.sect_types.specs.declared.rules.place.Place.{Place}
use Rattle.sect_types.specs.declared.rules.place.Place.TheVariants.{InThread, InProcedure}
use Rattle.sect_front.specs.declared.tree.Primitive as leaf

-- a statement without its blocks
pub data Head : Type 0 where
  PrimitiveHead : leaf.Primitive → Head
  TestHead : Test → Head
  AtomicHead : Head
  CallHead : List ℕ → List Operand → Head

-- in one more block
abbrev pub deeper : Place → Place
deeper (InThread inside depth) = InThread inside (depth + 1)
deeper (InProcedure p) = InProcedure p

-- in a section
abbrev pub in_section : Place → Place
in_section (InThread inside depth) = InThread true (depth + 1)
in_section (InProcedure p) = InProcedure p

-- what may touch what threads share: a section, and a procedure
abbrev pub is_inside : Place → Bool
is_inside (InThread inside depth) = inside
is_inside (InProcedure p) = true

-- an item. `before` are the names that stand before it in its list. A parameter is an item as a local is
pub data Item : Type 0 where
  ARecord : (name : List ℕ) (before : List (List ℕ)) → Item
  AField : (kind : Kind) (name : List ℕ) (before : List (List ℕ)) → Item
  AGlobal : (kind name : List ℕ) (before : List (List ℕ)) → Item
  AProcedure : (name : List ℕ) (before : List (List ℕ)) → Item
  AThread : (name : List ℕ) (before : List (List ℕ)) → Item
  ALocal : (kind : Kind) (name : List ℕ) (before : List (List ℕ)) → Item
  AStatement : (head : Head) (locals : List Declaration) (at : Place) → Item

abbrev mutual
  -- the items of a statement, before those of what follows
  pub statement_items : List Declaration → Place → StatementView → List Item → List Item
  statement_items ls at (Primitive p) w = AStatement (PrimitiveHead p) ls at ∷ w
  statement_items ls at (If t a) w = AStatement (TestHead t) ls at ∷ block_items ls (deeper at) a w
  statement_items ls at (IfElse t a b) w = AStatement (TestHead t) ls at
      ∷ block_items ls (deeper at) a (block_items ls (deeper at) b w)
  statement_items ls at (While t a) w = AStatement (TestHead t) ls at ∷ block_items ls (deeper at) a w
  statement_items ls at (Atomic l a) w = AStatement AtomicHead ls at ∷ block_items ls (in_section at) a w
  statement_items ls at (Call f vs) w = AStatement (CallHead f vs) ls at ∷ w

  pub block_items : List Declaration → Place → BlockView → List Item → List Item
  block_items ls at End w = w
  block_items ls at (Then s b) w = statement_items ls at s (block_items ls at b w)

abbrev pub field_items : List (List ℕ) → List Declaration → List Item → List Item
field_items before [] w = w
field_items before (d ∷ ds) w = AField d.kind d.name before ∷ field_items (before ++ d.name ∷ []) ds w

abbrev pub record_items : List (List ℕ) → List Record → List Item → List Item
record_items before [] w = w
record_items before (r ∷ rs) w = ARecord r.name before
    ∷ field_items [] r.fields (record_items (before ++ r.name ∷ []) rs w)

abbrev pub global_items : List (List ℕ) → List GlobalObject → List Item → List Item
global_items before [] w = w
global_items before (g ∷ gs) w = AGlobal g.of g.name before ∷ global_items (before ++ g.name ∷ []) gs w

abbrev pub local_items : List (List ℕ) → List Declaration → List Item → List Item
local_items before [] w = w
local_items before (d ∷ ds) w = ALocal d.kind d.name before ∷ local_items (before ++ d.name ∷ []) ds w

-- the parameters of a procedure, then its locals
abbrev pub variables : Procedure → List Declaration
variables p = p.parameters ++ p.locals

-- the items of procedures, of which the first has the number i
abbrev pub procedure_items : ℕ → List (List ℕ) → List Procedure → List Item → List Item
procedure_items i before [] w = w
procedure_items i before (p ∷ ps) w =
    AProcedure p.name before
    ∷ local_items [] (variables p) (block_items (variables p) (InProcedure i) p.body
    (procedure_items (i + 1) (before ++ p.name ∷ []) ps w))

-- a thread's braces are depth 1
abbrev pub thread_items : List (List ℕ) → List Thread → List Item → List Item
thread_items before [] w = w
thread_items before (t ∷ ts) w =
    AThread t.name before
    ∷ local_items [] t.locals (block_items t.locals (InThread false 1) t.body
    (thread_items (before ++ t.name ∷ []) ts w))

-- the items of a text
abbrev pub items : TreeView → List Item
items t = record_items [] t.records (global_items [] t.globals (procedure_items 0 [] t.procedures
    (thread_items [] t.threads [])))
