use Rattle.std.proofs.Common.{◌≡◌, ◌++◌, map, drop}
use Rattle.serde_json.specs.View.{view}
use Rattle.sect_types.specs.Sight.{names_of_declared}
use Rattle.sect_json.specs.{Values.{by_place}, Objects.{field_json}}
use Rattle.sect_json.proofs.objects.object_value.Given as goal

abbrev pub invariant-loop-number : goal.invariant-loop-number
invariant-loop-number l = record {
  added : map view l.fields.items
      ++ by_place (field_json l.printer (names_of_declared l.declared)) l.number (drop l.number l.datum-items)
      ≡ by_place (field_json l.printer (names_of_declared l.declared)) 0 l.datum-items;
}
