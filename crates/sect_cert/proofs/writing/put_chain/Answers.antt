use Rattle.sect_cert.proofs.WriteLaws.{chain_written}
use Rattle.sect_cert.proofs.writing.put_chain.Goals as goal

pub returns : goal.returns
returns c = rw (
  c.in_ok-push-2.ensures.items,
  c.in_ok-put_steps.ensures,
  c.in_ok-push.ensures.items,
  c.in_ok-put_number.ensures,
  c.in_ok-extend_from_slice.ensures.items,
)
    (chain_written c.args.out.now.items c.args.chain.now)
