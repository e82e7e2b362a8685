use Rattle.std.proofs.lemmas.List.{append_assoc}
use Rattle.sect_c.proofs.statements.put_print.Goals as goal

pub returns : goal.returns
returns c =
    simp (
      c.in_ok-push_str-2.ensures.bytes,
      c.in_ok-put_value.ensures,
      c.in_ok-push_str.ensures.bytes,
      append_assoc,
    )
