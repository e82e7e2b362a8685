use Rattle.std.proofs.Common.{◌≡◌, ◌++◌, drop}
use Rattle.std.specs.String.{string_bytes}
use Rattle.sect_asking.specs.Printing.{more_text}
use Rattle.sect_asking.proofs.printing.put_more.Given as goal

abbrev pub invariant-loop-number : goal.invariant-loop-number
invariant-loop-number l = record {
  added : string_bytes l.text ++ more_text (drop l.number-index l.numbers) ≡ string_bytes l.fn.text
      ++ more_text l.numbers;
}
