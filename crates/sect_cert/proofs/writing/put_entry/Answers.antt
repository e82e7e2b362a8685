use Rattle.sect_cert.proofs.WriteLaws.{entry_written}
use Rattle.sect_cert.proofs.writing.put_entry.Goals as goal

pub returns : goal.returns
returns c = rw (c.in_ok-push.ensures.items, c.in_ok-put_list.ensures, c.in_ok-extend_from_slice.ensures.items)
    (entry_written c.args.out.now.items c.args.locks.now)
