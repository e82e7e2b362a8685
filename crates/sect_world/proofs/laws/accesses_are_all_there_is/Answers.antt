use Rattle.sect_world.proofs.StepChanges.{change_is_asked, same_step}
use Rattle.sect_world.proofs.laws.accesses_are_all_there_is.Goals as goal

pub returns-clause-changes : goal.returns-clause-changes
returns-clause-changes c = change_is_asked

pub returns-clause-loads : goal.returns-clause-loads
returns-clause-loads c = same_step
