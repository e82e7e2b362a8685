use Rattle.sect_cert.proofs.WriteLaws.{front_written}
use Rattle.sect_cert.proofs.writing.put_front.Goals as goal

pub returns : goal.returns
returns c = rw (
  c.in_ok-push.ensures.items,
  c.in_ok-put_number-2.ensures,
  c.in_ok-extend_from_slice-2.ensures.items,
  c.in_ok-put_number.ensures,
  c.in_ok-extend_from_slice.ensures.items,
)
    (front_written c.args.out.now.items c.args.k c.args.sections)
