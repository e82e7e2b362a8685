use Rattle.sect_cert.proofs.WriteLaws.{none_written}
use Rattle.sect_cert.proofs.writing.begin_cert.Goals as goal

pub returns : goal.returns
returns c = rw (c.in_ok-put_front.ensures, c.new-text.ensures.items) (none_written c.args.k c.args.sections)
