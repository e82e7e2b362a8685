use Rattle.std.proofs.lemmas.List.{append_assoc}
use Rattle.sect_c.proofs.program.put_thread_list.Goals as goal

pub returns : goal.returns
returns c = simp (c.in_ok-push_str-2.ensures.bytes, c.in_ok-put_thread_entries.ensures, c.in_ok-push_str.ensures.bytes, append_assoc)
