-- A block that stands in another is smaller: the checker wants it of a type that holds itself.
use Rattle.std.specs.Prelude.{◌≤◌, List, [], ◌∷◌}
use Rattle.std.proofs.Common.{arith}
use denote.Param.Weighed.{most}
use Rattle.sect_front.specs.Trees.{statement_of, statement_size, block_of, block_size}
use Rattle.sect_front.specs.{declared.tree.Statement.{Statement}, declared.tree.Block.TheDeep.{deep-Statement}}
use Rattle.sect_front.specs.declared.tree.Statement.TheVariants as code

statement_falls : (s : Statement) → deep-Statement s ≤ statement_size (statement_of s)
statement_falls (code.Primitive p) = omega arith
statement_falls (code.If v a) = omega arith
statement_falls (code.IfElse v a b) = omega arith
statement_falls (code.While v a) = omega arith
statement_falls (code.Atomic l a) = omega arith
statement_falls (code.Call f vs) = omega arith

pub falls : (ss : List Statement) → most deep-Statement ss ≤ block_size (block_of ss)
falls [] = omega arith
falls (s ∷ ss) = omega (arith, statement_falls s, falls ss)
