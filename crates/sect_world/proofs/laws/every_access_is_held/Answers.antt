use Rattle.sect_world.proofs.GoodRuns.{accesses_are_held, good_holds_enough}
use Rattle.sect_world.proofs.laws.every_access_is_held.Goals as goal

pub returns-clause-runs : goal.returns-clause-runs
returns-clause-runs c = accesses_are_held

pub returns-clause-good : goal.returns-clause-good
returns-clause-good c = good_holds_enough
