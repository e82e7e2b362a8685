use Rattle.sect_cert.proofs.WriteLaws.{list_written}
use Rattle.sect_cert.proofs.writing.put_list.Goals as goal

pub returns : goal.returns
returns c = rw c.in-Some.ensures.cases.0
    (list_written c.in-Some.first.now c.in-Some.others.now c.loop-lock.lock-index _ _ c.put_lock.new.out.items
    c.in_ok-put_lock.ensures c.loop-lock-test.false c.loop-lock.invariant)
