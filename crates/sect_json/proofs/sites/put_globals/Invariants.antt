use Rattle.std.proofs.Common.{◌≡◌, ◌++◌, map, drop}
use Rattle.serde_json.specs.View.{view}
use Rattle.sect_json.specs.{Values.{by_place}, Sites.{global_json}}
use Rattle.sect_json.proofs.sites.put_globals.Given as goal

abbrev pub invariant-loop-number : goal.invariant-loop-number
invariant-loop-number l =
    (let told = global_json l.of.compiled.now l.of.source.now l.of.names.now in
    record {
      added : map view l.values.items ++ by_place told l.number (drop l.number l.globals)
          ≡ map view l.fn.values.items ++ by_place told 0 l.globals;
    })
