use Rattle.std.proofs.lemmas.List.{append_assoc}
use Rattle.sect_c.proofs.sections.put_first.Goals as goal

pub returns : goal.returns
returns c =
    simp (
      c.in_ok-push_str-3.ensures.bytes,
      c.in_ok-put_variable.ensures,
      c.in_ok-push_str-2.ensures.bytes,
      c.in_ok-put_type.ensures,
      c.variable_type.ensures.holds,
      c.in_ok-push_str.ensures.bytes,
      append_assoc,
    )
