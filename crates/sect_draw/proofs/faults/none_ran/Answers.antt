use Rattle.sect_draw.proofs.Placed.{none_more}
use Rattle.sect_draw.proofs.faults.none_ran.Goals as goal

pub loop-thread-preserved : goal.loop-thread-preserved
loop-thread-preserved c =
    none_more c.loop-thread.ran.items c.push.new.self.items _ c.args.threads c.loop-thread._thread
    c.loop-thread-test.true c.in_ok-push.ensures.items c.loop-thread.invariant
