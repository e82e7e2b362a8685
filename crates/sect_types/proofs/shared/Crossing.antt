-- A program may be read by several threads at a time.
use denote.Struct.Declared.{shape}
use denote.Param.Send.{AllSync, IsSync, sendable}
use Rattle.sect_front.proofs.shared.Crossing.{tree_sync, items_sync, locking_sync}
use Rattle.sect_types.specs.contracts.program.Program as program
use Rattle.sect_types.specs.contracts.program.Program.TheInside as inside
use Rattle.sect_types.specs.contracts.expansion.text.Text as text
use Rattle.sect_types.proofs.expansion.text.Text.TheLaws.TheKnot as knot
use Rattle.sect_types.proofs.expansion.action.Action.TheSendSync as actions
use Rattle.sect_types.proofs.expansion.action.Condition.TheSendSync as conditions
use Rattle.sect_types.proofs.expansion.expand.Fresh.TheSendSync as fresh
use Rattle.sect_types.proofs.declarations.types.ValueType.TheSendSync as types
use Rattle.std.proofs.vec.Vec.TheSendSync as vec
use Rattle.std.proofs.alloc.Global.TheSendSync as heap

text_sync : IsSync text.the_row
text_sync = search (
  knot.sync-Text,
  sendable,
  vec.the_sync,
  heap.the_sync,
  actions.the_sync,
  conditions.the_sync,
) depth 20

-- its fields, in order
parts : AllSync (shape inside.the_type).fields
parts = (
  search (sendable, tree_sync),
  (
    search (sendable, types.the_sync, items_sync, vec.the_sync, heap.the_sync),
    (
      search (sendable, vec.the_sync, heap.the_sync),
      (
        search (sendable, types.the_sync, items_sync, vec.the_sync, heap.the_sync),
        (
          search (sendable, fresh.the_sync, items_sync, vec.the_sync, heap.the_sync),
          (
            search (sendable, text_sync, vec.the_sync, heap.the_sync),
            (
              search (sendable, locking_sync, vec.the_sync, heap.the_sync),
              (
                search sendable,
                (
                  search sendable,
                  (search sendable, tt),
                ),
              ),
            ),
          ),
        ),
      ),
    ),
  ),
)

pub program_sync : IsSync program.the_row
program_sync = search (sendable, parts)
