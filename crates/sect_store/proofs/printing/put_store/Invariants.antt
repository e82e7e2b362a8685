use Rattle.std.proofs.Common.{◌≡◌, ◌++◌, drop}
use Rattle.std.specs.String.{string_bytes}
use Rattle.sect_store.specs.Printing.{by_place, global_line, made_lines}
use Rattle.sect_store.proofs.printing.put_store.Given as goal

abbrev pub invariant-loop-global : goal.invariant-loop-global
invariant-loop-global l = record {
  added : string_bytes l.text ++ by_place (global_line l.program) l.global (drop l.global l.object-items) ≡ string_bytes
      l.fn.text ++ by_place (global_line l.program) 0 l.object-items;
}

abbrev pub invariant-loop-thread : goal.invariant-loop-thread
invariant-loop-thread l = record {
  added : string_bytes l.text ++ by_place (made_lines l.program) l.thread (drop l.thread l.row-items)
      ≡ (string_bytes l.fn.text ++ by_place (global_line l.program) 0 l.store.globals)
      ++ by_place (made_lines l.program) 0 l.row-items;
}
