use Rattle.std.proofs.Common.{take}
use Rattle.sect_answers.specs.Naming.{AreNamed}
use Rattle.sect_answers.proofs.naming.numbers_of.Given as goal

abbrev pub invariant-loop-word : goal.invariant-loop-word
invariant-loop-word l = AreNamed l.threads (take l.word-index l.words) l.numbers.items
