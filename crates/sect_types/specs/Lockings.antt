-- Which locks the sections of a text take. `Program::locking` says so of each.
use Rattle.std.specs.Prelude.{List, [], ◌∷◌}
use Rattle.sect_front.specs.Syntax.{StatementView, Primitive, If, IfElse, While, Atomic, Call, BlockView, End, Then}
use Rattle.sect_front.specs.{TreeView.{TreeView}, declared.tree.Locking.{Locking}, declared.tree.Thread.{Thread}}

abbrev mutual
  -- what the sections of a statement take, in text order, before those of what follows; no section stands in a section
  pub statement_lockings : StatementView → List Locking → List Locking
  statement_lockings (Primitive p) w = w
  statement_lockings (If t a) w = block_lockings a w
  statement_lockings (IfElse t a b) w = block_lockings a (block_lockings b w)
  statement_lockings (While t a) w = block_lockings a w
  statement_lockings (Atomic l a) w = l ∷ w
  statement_lockings (Call f vs) w = w

  pub block_lockings : BlockView → List Locking → List Locking
  block_lockings End w = w
  block_lockings (Then s b) w = statement_lockings s (block_lockings b w)

abbrev pub threads_lockings : List Thread → List Locking → List Locking
threads_lockings [] w = w
threads_lockings (t ∷ ts) w = block_lockings t.body (threads_lockings ts w)

-- what each section takes, by its number
abbrev pub lockings_of : TreeView → List Locking
lockings_of t = threads_lockings t.threads []
