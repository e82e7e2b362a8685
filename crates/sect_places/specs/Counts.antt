-- How many tokens the grammar gives to each part of a tree.
use Rattle.std.specs.Prelude.{ℕ, ◌+◌, ◌*◌, List, [], ◌∷◌, length}
use Rattle.sect_front.specs.TreeView.{TreeView}
use Rattle.sect_front.specs.Syntax.{StatementView, BlockView, Primitive, If, IfElse, While, Atomic, Call, End, Then}
use Rattle.sect_front.specs.{declared.tree.Operand.{Operand}, declared.tree.Locking.{Locking}}
use Rattle.sect_front.specs.{declared.tree.Declaration.{Declaration}, declared.tree.Record.{Record}}
use Rattle.sect_front.specs.{declared.tree.Procedure.{Procedure}, declared.tree.Thread.{Thread}}
use Rattle.sect_front.specs.declared.tree.Primitive as leaf
use Rattle.sect_front.specs.declared.tree.Primitive.TheVariants as primitive
use Rattle.sect_front.specs.declared.tree.Locking.TheVariants as locking

-- the `;` counted
abbrev pub primitive_count : leaf.Primitive → ℕ
primitive_count (primitive.Assign x v) = 4
primitive_count (primitive.Compute x v o u) = 6
primitive_count (primitive.New x r) = 5
primitive_count (primitive.Load x y f) = 6
primitive_count (primitive.Store y f v) = 6
primitive_count (primitive.Print v) = 3

-- the word `all`
abbrev pub locking_count : Locking → ℕ
locking_count locking.Inferred = 0
locking_count locking.All = 1

-- the arguments, and a comma between each two
abbrev pub operands_count : List Operand → ℕ
operands_count [] = 0
operands_count (v ∷ vs) = 1 + 2 * length vs

-- the parameters, two tokens each, and a comma between each two
abbrev pub parameters_count : List Declaration → ℕ
parameters_count [] = 0
parameters_count (d ∷ ds) = 2 + 3 * length ds

-- a test with its word, its parentheses and the `{`: `if ( v cmp v ) {`
abbrev pub test_count : ℕ
test_count = 7

abbrev mutual
  -- all braces counted; `} else {` stands between two blocks, and `call f (` and `) ;` round the arguments
  pub statement_count : StatementView → ℕ
  statement_count (Primitive p) = primitive_count p
  statement_count (If t a) = test_count + block_count a + 1
  statement_count (IfElse t a b) = test_count + block_count a + 3 + block_count b + 1
  statement_count (While t a) = test_count + block_count a + 1
  statement_count (Atomic l a) = 1 + locking_count l + 1 + block_count a + 1
  statement_count (Call f vs) = 3 + operands_count vs + 2

  pub block_count : BlockView → ℕ
  block_count End = 0
  block_count (Then s b) = statement_count s + block_count b

-- `record NAME`, two for each hint, `{`, three for each field, `}`
abbrev pub record_count : Record → ℕ
record_count r = 2 + 2 * length r.hints + 1 + 3 * length r.fields + 1

-- `proc NAME (`, the parameters, `) {`, three for each local, the statements, `}`
abbrev pub procedure_count : Procedure → ℕ
procedure_count p = 3 + parameters_count p.parameters + 2 + 3 * length p.locals + block_count p.body + 1

-- `thread NAME {`, three for each local, the statements, `}`
abbrev pub thread_count : Thread → ℕ
thread_count t = 3 + 3 * length t.locals + block_count t.body + 1

abbrev pub records_count : List Record → ℕ
records_count [] = 0
records_count (r ∷ rs) = record_count r + records_count rs

abbrev pub procedures_count : List Procedure → ℕ
procedures_count [] = 0
procedures_count (p ∷ ps) = procedure_count p + procedures_count ps

abbrev pub threads_count : List Thread → ℕ
threads_count [] = 0
threads_count (t ∷ ts) = thread_count t + threads_count ts

-- four for each global
abbrev pub tree_count : TreeView → ℕ
tree_count t =
    0 + records_count t.records + 4 * length t.globals + procedures_count t.procedures + threads_count t.threads
