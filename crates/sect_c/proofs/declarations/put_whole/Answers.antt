use Rattle.std.proofs.lemmas.List.{append_assoc}
use Rattle.sect_c.proofs.declarations.put_whole.Goals as goal

pub returns : goal.returns
returns c = simp append_assoc c.in_ok-write.ensures.bytes
