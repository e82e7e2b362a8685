use Rattle.std.proofs.Common.{[], arith}
use Rattle.sect_command.proofs.Said.{turns_more}
use Rattle.sect_command.proofs.turns.found_turns.Goals as goal

pub loop-word-preserved : goal.loop-word-preserved
loop-word-preserved c =
    turns_more (λ v. v.now) [] c.in-Some.words.now c.loop-word.word-index _ c.loop-word.turns c.add_turns.new.turns
    (omega arith) c.loop-word.invariant c.in_ok-add_turns.ensures
