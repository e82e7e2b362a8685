use Rattle.std.proofs.Common.{◌≡◌, ◌++◌, map, drop}
use Rattle.serde_json.specs.View.{view}
use Rattle.sect_types.specs.Sight.{names_of_declared}
use Rattle.sect_json.specs.{Values.{by_place}, Sites.{field_json}}
use Rattle.sect_json.proofs.sites.fields_value.Given as goal

abbrev pub invariant-loop-number : goal.invariant-loop-number
invariant-loop-number l = record {
  added : map view l.values.items
      ++ by_place (field_json l.points l.site) l.number (drop l.number (names_of_declared l.fields))
      ≡ by_place (field_json l.points l.site) 0 (names_of_declared l.fields);
}
