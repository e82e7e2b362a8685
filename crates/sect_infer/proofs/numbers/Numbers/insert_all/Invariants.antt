use Rattle.std.proofs.Common.{◌≡◌, take}
use Rattle.sect_infer.specs.Numbers.{with_numbers}
use Rattle.sect_infer.proofs.numbers.Numbers.insert_all.Given as goal

abbrev pub invariant-loop-number : goal.invariant-loop-number
invariant-loop-number l = l.self ≡ with_numbers l.fn.self (take l.number-index l.numbers)
