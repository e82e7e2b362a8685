use Rattle.std.proofs.Common.{arith}
use Rattle.sect_command.specs.Ruling.{SaysWhich}
use Rattle.sect_command.proofs.Words.{words_more}
use Rattle.sect_command.proofs.ruling.warnings_of.Goals as goal

pub loop-word-preserved : goal.loop-word-preserved
loop-word-preserved c = rw c.in_ok-push.ensures.items (words_more (SaysWhich c.args.level) (λ v. v.now)
    c.in-Some.words.now c.loop-word.word-index _ c.loop-word.named.items _ (omega arith) c.loop-word.invariant
    c.in_ok-which_of.ensures)
