-- Statements as plain data: what is written, and not where it lies in memory. `Tree`, `Block` and all that is said of
-- them in contracts go by these.
use Rattle.std.specs.Prelude.{ℕ, List}
use Rattle.sect_front.specs.{declared.tree.Operand.{Operand}, declared.tree.Test.{Test}}
use Rattle.sect_front.specs.declared.tree.Locking.{Locking}
use Rattle.sect_front.specs.declared.tree.Primitive as leaf

mutual
  -- a statement
  pub data StatementView : Type 0 where
    Primitive : leaf.Primitive → StatementView
    If : Test → BlockView → StatementView
    IfElse : Test → BlockView → BlockView → StatementView
    While : Test → BlockView → StatementView
    Atomic : Locking → BlockView → StatementView
    Call : List ℕ → List Operand → StatementView

  -- statements, one after another
  pub data BlockView : Type 0 where
    End : BlockView
    Then : StatementView → BlockView → BlockView
