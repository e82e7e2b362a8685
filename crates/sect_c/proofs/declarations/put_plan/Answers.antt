use Rattle.std.proofs.lemmas.List.{append_assoc}
use Rattle.sect_c.proofs.declarations.put_plan.Goals as goal

pub returns : goal.returns
returns c =
    simp (
      c.in_ok-push_str.ensures.bytes,
      c.in_ok-put_grips.ensures,
      c.in_ok-write.ensures.bytes,
      append_assoc,
    )
