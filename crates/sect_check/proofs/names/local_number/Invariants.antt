use Rattle.std.specs.Prelude.{slice_index_or, []}
use Rattle.sect_types.specs.LocalNames.{all_local_names}
use Rattle.sect_check.proofs.LocalLaws.{NoneCalled}
use Rattle.sect_check.proofs.names.local_number.Given as goal

abbrev pub invariant-loop-number : goal.invariant-loop-number
invariant-loop-number l =
    NoneCalled l.name (slice_index_or (all_local_names l.program.source) l.thread []) l.number
