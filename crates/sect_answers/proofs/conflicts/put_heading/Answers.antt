use Rattle.std.proofs.lemmas.List.{append_assoc}
use Rattle.sect_answers.proofs.conflicts.put_heading.Goals as goal

pub returns : goal.returns
returns c =
    simp append_assoc (rw (
      c.pairs_called-called.ensures,
      c.count_always-always.ensures,
      c.count_sometimes-sometimes.ensures,
      c.count_never-never.ensures,
    ) at c.in_ok-write.ensures.bytes)
