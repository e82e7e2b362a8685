use Rattle.std.proofs.Common.{◌≡◌, ◌++◌, map, drop}
use Rattle.serde_json.specs.View.{view}
use Rattle.sect_json.specs.{Values.{by_place, all_by_place}, Objects.{global_json, row_json}}
use Rattle.sect_json.proofs.objects.objects_value.Given as goal

abbrev pub invariant-loop-global : goal.invariant-loop-global
invariant-loop-global l = record {
  added : map view l.values.items ++ by_place (global_json l.printer) l.global (drop l.global l.object-items)
      ≡ by_place (global_json l.printer) 0 l.object-items;
}

abbrev pub invariant-loop-thread : goal.invariant-loop-thread
invariant-loop-thread l = record {
  added : map view l.values.items ++ all_by_place (row_json l.printer) l.thread (drop l.thread l.row-items)
      ≡ by_place (global_json l.printer) 0 l.store.globals ++ all_by_place (row_json l.printer) 0 l.row-items;
}
