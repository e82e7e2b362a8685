use Rattle.std.proofs.Common.{◌≡◌, ◌++◌, map, drop}
use Rattle.serde_json.specs.View.{view}
use Rattle.sect_types.specs.declared.meaning.store.ObjectName.TheVariants.{Made}
use Rattle.sect_store.specs.Printing.{fields_at}
use Rattle.sect_json.specs.{Values.{by_place}, steps.Changing.{first_json}}
use Rattle.sect_json.proofs.changes.first_values.Given as goal

abbrev pub invariant-loop-number : goal.invariant-loop-number
invariant-loop-number l = (
    let p = l.by.printer.now in
    let of = first_json p (Made l.by.thread l.by.work.now.made) (fields_at p l.site) in
    record {
      added : map view l.values.items ++ by_place of l.number (drop l.number l.types) ≡ by_place of 0 l.types;
    })
