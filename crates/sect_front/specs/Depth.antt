-- How deep blocks stand in one another.
use Rattle.std.specs.Prelude.{ℕ, ◌+◌, List, [], ◌∷◌, max}
use Rattle.sect_front.specs.Syntax.{StatementView, BlockView, Primitive, If, IfElse, While, Atomic, Call, End, Then}
use Rattle.sect_front.specs.{TreeView.{TreeView}, declared.tree.Procedure.{Procedure}, declared.tree.Thread.{Thread}}

abbrev mutual
  -- the most blocks of a statement that stand in one another
  pub statement_depth : StatementView → ℕ
  statement_depth (Primitive p) = 0
  statement_depth (If t a) = block_depth a + 1
  statement_depth (IfElse t a b) = max (block_depth a) (block_depth b) + 1
  statement_depth (While t a) = block_depth a + 1
  statement_depth (Atomic l a) = block_depth a + 1
  statement_depth (Call f vs) = 0

  pub block_depth : BlockView → ℕ
  block_depth End = 0
  block_depth (Then s b) = max (statement_depth s) (block_depth b)

abbrev pub procedures_depth : List Procedure → ℕ
procedures_depth [] = 0
procedures_depth (p ∷ ps) = max (block_depth p.body + 1) (procedures_depth ps)

abbrev pub threads_depth : List Thread → ℕ
threads_depth [] = 0
threads_depth (t ∷ ts) = max (block_depth t.body + 1) (threads_depth ts)

-- the depth of the deepest block: the braces of a procedure or a thread are depth 1
abbrev pub depth : TreeView → ℕ
depth s = max (procedures_depth s.procedures) (threads_depth s.threads)
