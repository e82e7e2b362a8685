use Rattle.sect_world.proofs.MeetingPaths.{clash_where_paths_meet}
use Rattle.sect_world.proofs.laws.sections_clash_where_paths_meet.Goals as goal

pub returns : goal.returns
returns c = λ m ok. clash_where_paths_meet m ok (c.plans_clash_where_paths_meet.ensures m ok)
