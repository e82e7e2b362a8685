use Rattle.std.proofs.Common.{take}
use Rattle.sect_answers.specs.Naming.{AreNumbers}
use Rattle.sect_answers.proofs.naming.numbers_alone.Given as goal

abbrev pub invariant-loop-word : goal.invariant-loop-word
invariant-loop-word l = AreNumbers (take l.word-index l.words) l.numbers.items
