-- A compiled program may be read by several threads at a time.
use denote.Struct.Declared.{shape}
use denote.Param.Send.{AllSync, IsSync, sendable}
use Rattle.sect_names.proofs.shared.Crossing.{scheme_sync}
use Rattle.sect_infer.proofs.shared.Crossing.{locks_sync}
use Rattle.std.proofs.alloc.Global.TheSendSync as heap
use Rattle.std.proofs.vec.Vec.TheSendSync as vec
use Rattle.sect_emit.proofs.plan.Grip.TheSendSync as grip
use Rattle.sect_emit.specs.contracts.compiled.Compiled as compiled
use Rattle.sect_emit.specs.contracts.compiled.Compiled.TheInside as inside

-- its fields, in order
parts : AllSync (shape inside.the_type).fields
parts = (
  search (sendable, scheme_sync),
  (
    search (sendable, locks_sync, vec.the_sync, heap.the_sync),
    (search (sendable, grip.the_sync, vec.the_sync, heap.the_sync), tt),
  ),
)

pub compiled_sync : IsSync compiled.the_row
compiled_sync = search (sendable, parts)
