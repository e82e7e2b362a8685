use Rattle.sect_cert.proofs.WriteLaws.{node_written}
use Rattle.sect_cert.proofs.writing.put_node.Goals as goal

pub returns : goal.returns
returns c = λ locks is. rw (
  c.in_ok-push-2.ensures.items,
  c.in_ok-extend_from_slice-2.ensures.items,
  is,
  c.in_ok-push.ensures.items,
  c.in_ok-put_number.ensures,
  c.in_ok-extend_from_slice.ensures.items,
)
    (node_written c.args.out.now.items c.args.node locks)
