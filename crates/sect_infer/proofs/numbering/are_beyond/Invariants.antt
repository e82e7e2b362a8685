use Rattle.std.proofs.Common.{◌<◌, ℕ, take}
use Rattle.sect_lemmas.specs.Lists.{Has}
use Rattle.sect_infer.proofs.numbering.are_beyond.Given as goal

abbrev pub invariant-loop-number : goal.invariant-loop-number
invariant-loop-number l = (n : ℕ) → Has (take l.number-index l.numbers) n → l.most < n
