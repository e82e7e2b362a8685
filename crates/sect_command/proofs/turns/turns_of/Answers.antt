use Rattle.std.proofs.Common.{arith, codes, subst}
use Rattle.std.specs.String.{string_bytes}
use Rattle.clap.specs.Matches.{found_of}
use Rattle.sect_command.specs.{Saying.{values_in}, steps.Turning.{AddsTurns}}
use Rattle.sect_command.proofs.Said.{turns_more}
use Rattle.sect_command.proofs.turns.turns_of.Goals as goal

pub loop-word-preserved : goal.loop-word-preserved
loop-word-preserved c =
    let old = c.loop-word.turns in
    let new = c.add_turns.new.turns in
    turns_more string_bytes (values_in (found_of c.args.matches.now) (codes "threads")) c.args.untold.now
    c.loop-word.word-index c.word-item.result old new (omega arith) c.loop-word.invariant
    (subst (λ w. AddsTurns (string_bytes w) old new) c.word-item.is
    (subst (λ w. AddsTurns w old new) c.as_str.ensures.value c.in_ok-add_turns.ensures))
