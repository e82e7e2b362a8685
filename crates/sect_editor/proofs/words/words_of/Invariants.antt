use Rattle.std.proofs.Common.{length}
use Rattle.sect_editor.specs.Words.{Begins}
use Rattle.sect_editor.proofs.words.words_of.Given as goal

-- the words so far, and the rest
abbrev pub invariant-loop-rest : goal.invariant-loop-rest
invariant-loop-rest l = Begins l.bytes l.words.items l.rest

abbrev pub decreases-loop-rest : goal.decreases-loop-rest
decreases-loop-rest l = length l.rest
