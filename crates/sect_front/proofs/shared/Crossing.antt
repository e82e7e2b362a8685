-- A tree may be read by several threads at a time, and a list of what may be read so.
use denote.RattleType.{RattleType}
use denote.Param.Send.{IsSync, sendable}
use Rattle.sect_front.specs.contracts.tree.Tree as tree
use Rattle.sect_front.specs.contracts.tree.Thread as thread
use Rattle.sect_front.specs.contracts.tree.Procedure as procedure
use Rattle.sect_front.specs.contracts.tree.Block as block
use Rattle.sect_front.specs.contracts.tree.Locking as locking_shown
use Rattle.sect_front.specs.contracts.items.Items as items_shown
use Rattle.sect_front.proofs.tree.Block.TheLaws.TheKnot as knot
use Rattle.sect_front.proofs.tree.Declarations.TheSendSync as declarations
use Rattle.sect_front.proofs.tree.Record.TheSendSync as records
use Rattle.sect_front.proofs.tree.GlobalObject.TheSendSync as globals
use Rattle.sect_front.proofs.tree.Test.TheSendSync as tests
use Rattle.sect_front.proofs.tree.Primitive.TheSendSync as primitives
use Rattle.sect_front.proofs.items.Items.TheSendSync as items
use Rattle.sect_front.proofs.tree.Operand.TheSendSync as operand
use Rattle.sect_front.proofs.literal.Literal.TheSendSync as literal
use Rattle.sect_front.proofs.tree.Locking.TheSendSync as locking
use Rattle.sect_front.proofs.name.Name.TheSendSync as name
use Rattle.std.proofs.vec.Vec.TheSendSync as vec
use Rattle.std.proofs.alloc.Global.TheSendSync as heap

pub items_sync : (T : RattleType) → IsSync T → IsSync (items_shown.the_row T)
items_sync = items.the_sync

pub locking_sync : IsSync locking_shown.the_row
locking_sync = locking.the_sync

block_sync : IsSync block.the_row
block_sync = search (
  knot.sync-Block,
  sendable,
  vec.the_sync,
  heap.the_sync,
  tests.the_sync,
  primitives.the_sync,
  items.the_sync,
  operand.the_sync,
  literal.the_sync,
  name.the_sync,
  locking.the_sync,
) depth 20

thread_sync : IsSync thread.the_row
thread_sync = search (sendable, block_sync, declarations.the_sync, name.the_sync) depth 20

procedure_sync : IsSync procedure.the_row
procedure_sync = search (sendable, block_sync, declarations.the_sync, name.the_sync) depth 20

pub tree_sync : IsSync tree.the_row
tree_sync = search (
  sendable,
  thread_sync,
  procedure_sync,
  records.the_sync,
  globals.the_sync,
  vec.the_sync,
  heap.the_sync,
) depth 20
