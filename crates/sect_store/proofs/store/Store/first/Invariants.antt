use Rattle.std.proofs.Common.{◌≡◌, ◌++◌, drop, replicate, []}
use Rattle.sect_types.specs.Whole.{global_objects}
use Rattle.sect_store.proofs.store.Store.first.Given as goal

abbrev pub invariant-loop-of : goal.invariant-loop-of
invariant-loop-of l = record {
  site : l.site ≡ l.of-index;
  made : l.globals ++ global_objects l.program.records l.of-index (drop l.of-index l.of-items) ≡ global_objects
      l.program.records 0 l.of-items;
}

abbrev pub invariant-loop : goal.invariant-loop
invariant-loop l = record { none : l.made.items ≡ replicate l.counter [] }
