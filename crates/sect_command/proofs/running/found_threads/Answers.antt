use Rattle.std.proofs.Common.{arith}
use Rattle.sect_command.specs.Saying.{SaysThread}
use Rattle.sect_command.proofs.Words.{words_more}
use Rattle.sect_command.proofs.running.found_threads.Goals as goal

pub loop-word-preserved : goal.loop-word-preserved
loop-word-preserved c = rw c.in_ok-push.ensures.items (words_more SaysThread (λ v. v.now) c.in-Some.words.now
    c.loop-word.word-index _ c.loop-word.threads.items _ (omega arith) c.loop-word.invariant c.in_ok-thread_of.ensures)
