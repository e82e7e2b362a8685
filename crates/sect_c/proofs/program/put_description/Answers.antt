use Rattle.std.proofs.lemmas.List.{append_assoc}
use Rattle.sect_c.proofs.program.put_description.Goals as goal

pub returns : goal.returns
returns c =
    simp (
      c.in_ok-push_str-2.ensures.bytes,
      c.in_ok-write.ensures.bytes,
      c.in_ok-push_str.ensures.bytes,
      c.thread_count-threads.ensures.count,
      append_assoc,
    )
