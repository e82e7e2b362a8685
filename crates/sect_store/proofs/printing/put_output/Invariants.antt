use Rattle.std.proofs.Common.{◌≡◌, ◌++◌, drop}
use Rattle.std.specs.{String.{string_bytes}, List.{flat_map}}
use Rattle.sect_store.specs.Printing.{out_line}
use Rattle.sect_store.proofs.printing.put_output.Given as goal

abbrev pub invariant-loop-number : goal.invariant-loop-number
invariant-loop-number l = record {
  added : string_bytes l.text ++ flat_map out_line (drop l.number-index l.output) ≡ string_bytes l.fn.text
      ++ flat_map out_line l.output;
}
