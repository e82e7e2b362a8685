use Rattle.sect_names.proofs.Named.{other_there}
use Rattle.sect_names.proofs.printing.put_locks.Goals as goal

pub put_lock-requires-in-loop-lock : goal.put_lock-requires-in-loop-lock
put_lock-requires-in-loop-lock c =
    other_there c.args.program.now c.in-Some.first.now c.args.locks.now c.in-Some.others.now c.in-Some.ensures.cases.0
    c.requires c.loop-lock.lock-index _ c.loop-lock-test.true c.lock-item.is
