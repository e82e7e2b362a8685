use Rattle.sect_conflicts.proofs.Clashing.{clash_where_paths_meet}
use Rattle.sect_conflicts.proofs.laws.plans_clash_where_paths_meet.Goals as goal

pub returns : goal.returns
returns c = clash_where_paths_meet
