use Rattle.std.proofs.Common.{◌≡◌, map, take}
use Rattle.serde_json.specs.View.{view}
use Rattle.sect_json.specs.Calls.{procedure_json}
use Rattle.sect_json.proofs.calls.procedure_values.Given as goal

abbrev pub invariant-loop-procedure : goal.invariant-loop-procedure
invariant-loop-procedure l =
    map view l.values.items
    ≡ map (procedure_json l.of.source.now l.of.names.now) (take l.procedure-index l.procedures)
