use Rattle.std.proofs.Common.{◌≡◌, ◌++◌, drop, map}
use Rattle.sect_asking.specs.Meaning.{integer}
use Rattle.sect_asking.proofs.resolving.integers.Given as goal

abbrev pub invariant-loop-numeral : goal.invariant-loop-numeral
invariant-loop-numeral l = record {
  added : l.integers.items ++ map integer (drop l.numeral-index l.numerals) ≡ map integer l.numerals;
}
