-- How many items the parts of a tree have.
use Rattle.std.specs.Prelude.{ℕ, ◌+◌, List, [], ◌∷◌, length}
use Rattle.sect_front.specs.Syntax.{StatementView, BlockView, Primitive, If, IfElse, While, Atomic, Call, End, Then}
use Rattle.sect_front.specs.{declared.tree.Record.{Record}, declared.tree.Procedure.{Procedure}}
use Rattle.sect_front.specs.declared.tree.Thread.{Thread}

abbrev mutual
  pub items_in_statement : StatementView → ℕ
  items_in_statement (Primitive p) = 1
  items_in_statement (If t a) = 1 + items_in_block a
  items_in_statement (IfElse t a b) = 1 + items_in_block a + items_in_block b
  items_in_statement (While t a) = 1 + items_in_block a
  items_in_statement (Atomic l a) = 1 + items_in_block a
  items_in_statement (Call f vs) = 1

  pub items_in_block : BlockView → ℕ
  items_in_block End = 0
  items_in_block (Then s b) = items_in_statement s + items_in_block b

-- a record and its fields
abbrev pub items_in_records : List Record → ℕ
items_in_records [] = 0
items_in_records (r ∷ rs) = 1 + length r.fields + items_in_records rs

-- a procedure, its parameters, its locals and its statements
abbrev pub items_in_procedure : Procedure → ℕ
items_in_procedure p = 1 + length p.parameters + length p.locals + items_in_block p.body

abbrev pub items_in_procedures : List Procedure → ℕ
items_in_procedures [] = 0
items_in_procedures (p ∷ ps) = items_in_procedure p + items_in_procedures ps

-- a thread, its locals and its statements
abbrev pub items_in_thread : Thread → ℕ
items_in_thread t = 1 + length t.locals + items_in_block t.body
