use Rattle.sect_conflicts.proofs.Clashing.{always_clashing}
use Rattle.sect_conflicts.proofs.laws.sections_always_clash.Goals as goal

pub returns : goal.returns
returns c = always_clashing
