use Rattle.sect_conflicts.proofs.Clashing.{never_clashing}
use Rattle.sect_conflicts.proofs.laws.sections_that_go_together_never_clash.Goals as goal

pub returns : goal.returns
returns c = never_clashing
