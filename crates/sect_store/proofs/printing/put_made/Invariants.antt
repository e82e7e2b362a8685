use Rattle.std.proofs.Common.{◌≡◌, ◌++◌, drop}
use Rattle.std.specs.String.{string_bytes}
use Rattle.sect_store.specs.Printing.{by_place, made_line}
use Rattle.sect_store.proofs.printing.put_made.Given as goal

abbrev pub invariant-loop-number : goal.invariant-loop-number
invariant-loop-number l = record {
  added : string_bytes l.text ++ by_place (made_line l.program l.thread) l.number (drop l.number l.row)
      ≡ string_bytes l.fn.text ++ by_place (made_line l.program l.thread) 0 l.row;
}
