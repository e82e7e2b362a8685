use Rattle.sect_conflicts.proofs.Clashing.{together_at_the_start}
use Rattle.sect_conflicts.proofs.laws.sections_may_go_together_at_the_start.Goals as goal

pub returns : goal.returns
returns c = together_at_the_start
