-- What the tree of the code stands for.
use Rattle.std.specs.Prelude.{ℕ, ◌+◌, List, [], ◌∷◌}
use Rattle.sect_front.specs.Syntax.{StatementView, Primitive, If, IfElse, While, Atomic, Call, BlockView, End, Then}
use Rattle.sect_front.specs.declared.tree.Statement.{Statement}
use Rattle.sect_front.specs.declared.tree.Statement.TheVariants as code

-- a statement of the code
abbrev pub statement_of : Statement → StatementView
statement_of (code.Primitive p) = Primitive p
statement_of (code.If v a) = If v a
statement_of (code.IfElse v a b) = IfElse v a b
statement_of (code.While v a) = While v a
statement_of (code.Atomic l a) = Atomic l a
statement_of (code.Call f vs) = Call f vs

abbrev pub block_of : List Statement → BlockView
block_of [] = End
block_of (s ∷ ss) = Then (statement_of s) (block_of ss)

abbrev mutual
  pub statement_size : StatementView → ℕ
  statement_size (Primitive p) = 0
  statement_size (If v a) = block_size a + 1
  statement_size (IfElse v a b) = block_size a + block_size b + 1
  statement_size (While v a) = block_size a + 1
  statement_size (Atomic l a) = block_size a + 1
  statement_size (Call f vs) = 0

  pub block_size : BlockView → ℕ
  block_size End = 0
  block_size (Then s b) = statement_size s + block_size b

-- one more statement at the end
abbrev pub append : BlockView → StatementView → BlockView
append End s = Then s End
append (Then t b) s = Then t (append b s)
