-- A source text as a tree.
use Rattle.std.specs.Prelude.{List}
use Rattle.sect_front.specs.{declared.tree.Record.{Record}, declared.tree.GlobalObject.{GlobalObject}}
use Rattle.sect_front.specs.{declared.tree.Procedure.{Procedure}, declared.tree.Thread.{Thread}}

-- its declarations, each kind in text order
pub record TreeView : Type 0 where
  pub records : List Record
  pub globals : List GlobalObject
  pub procedures : List Procedure
  pub threads : List Thread
