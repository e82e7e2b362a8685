-- A scheme may be read by several threads at a time.
use denote.Struct.Declared.{shape}
use denote.Param.Send.{AllSync, IsSync, sendable}
use Rattle.sect_types.proofs.shared.Crossing.{program_sync}
use Rattle.sect_points.proofs.shared.Crossing.{classes_sync}
use Rattle.sect_hints.proofs.shared.Crossing.{guards_sync}
use Rattle.sect_graph.proofs.shared.Crossing.{graph_sync}
use Rattle.sect_names.specs.contracts.scheme.Scheme as scheme
use Rattle.sect_names.specs.contracts.scheme.Scheme.TheInside as inside

-- its fields, in order
parts : AllSync (shape inside.the_type).fields
parts = (program_sync, (search sendable, (classes_sync, (guards_sync, (graph_sync, tt)))))

pub scheme_sync : IsSync scheme.the_row
scheme_sync = search (sendable, parts)
