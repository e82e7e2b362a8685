use Rattle.sect_command.proofs.Said.{times_more}
use Rattle.sect_command.proofs.turns.add_times.Goals as goal

pub loop-turn-preserved : goal.loop-turn-preserved
loop-turn-preserved c =
    times_more c.loop-turn.turns.items c.push.new.self.items _ c.args.count c.loop-turn._turn c.args.thread
    c.loop-turn-test.true c.in_ok-push.ensures.items c.loop-turn.invariant
