use Rattle.std.proofs.Common.{◌≡◌, map}
use Rattle.std.specs.List.{range_with_len}
use Rattle.serde_json.specs.View.{view}
use Rattle.sect_emit.specs.Compiled.{program_of}
use Rattle.sect_json.specs.Turns.{local_json}
use Rattle.sect_json.proofs.turns.locals_value.Given as goal

abbrev pub invariant-loop-local : goal.invariant-loop-local
invariant-loop-local l = map view l.values.items
    ≡ map (local_json (program_of l.compiled) l.work l.thread) (range_with_len 0 l.local)
