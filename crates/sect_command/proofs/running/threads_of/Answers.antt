use Rattle.std.proofs.Common.{arith, codes, subst}
use Rattle.std.specs.String.{string_bytes}
use Rattle.clap.specs.Matches.{found_of}
use Rattle.sect_command.specs.Saying.{SaysThread, values_in}
use Rattle.sect_command.proofs.Words.{words_more_behind}
use Rattle.sect_command.proofs.running.threads_of.Goals as goal

pub loop-word-preserved : goal.loop-word-preserved
loop-word-preserved c =
    let found = values_in (found_of c.args.matches.now) (codes "threads") in
    rw c.in_ok-push.ensures.items (words_more_behind SaysThread string_bytes found c.args.untold.now
    c.loop-word.word-index c.word-item.result c.loop-word.threads.items _ (omega arith) c.loop-word.invariant
    (subst (λ w. SaysThread (string_bytes w) c.in_ok-thread_of.field-0) c.word-item.is
    (subst (λ w. SaysThread w c.in_ok-thread_of.field-0) c.as_str.ensures.value c.in_ok-thread_of.ensures)))
