use Rattle.std.proofs.Common.{◌≡◌, ◌++◌, map, drop}
use Rattle.serde_json.specs.View.{view}
use Rattle.sect_json.specs.{Values.{by_place}, Objects.{made_json}}
use Rattle.sect_json.proofs.objects.push_row.Given as goal

abbrev pub invariant-loop-number : goal.invariant-loop-number
invariant-loop-number l = record {
  added : map view l.values.items ++ by_place (made_json l.printer l.thread) l.number-counter
      (drop l.number-counter l.row) ≡ map view l.fn.values.items ++ by_place (made_json l.printer l.thread) 0 l.row;
}
