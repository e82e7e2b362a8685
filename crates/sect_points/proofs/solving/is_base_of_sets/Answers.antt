use Rattle.sect_points.proofs.RoundLaws.{base_waits}
use Rattle.sect_points.proofs.solving.is_base_of_sets.Goals as goal

pub returns-in-Local : goal.returns-in-Local
returns-in-Local c _ = base_waits c.args.base _ c.in-Local.is
