use Rattle.std.proofs.Common.{ℕ, take}
use Rattle.sect_lemmas.specs.Lists.{Has}
use Rattle.sect_infer.specs.steps.Putting.{IsWithin, AreWithin}
use Rattle.sect_infer.proofs.numbering.Numbering.highest_with.Given as goal

abbrev pub invariant-loop-number : goal.invariant-loop-number
invariant-loop-number l = record {
  there : AreWithin l.highest l.self.above;
  behind : (n : ℕ) → Has (take l.number-index l.numbers) n → IsWithin l.highest n;
}
