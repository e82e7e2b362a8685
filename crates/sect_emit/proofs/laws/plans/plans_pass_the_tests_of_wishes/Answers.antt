use Rattle.sect_emit.proofs.shared.PlanModes.{plan_passes}
use Rattle.sect_emit.proofs.laws.plans.plans_pass_the_tests_of_wishes.Goals as goal

pub returns : goal.returns
returns c s locks part is store locals = plan_passes s part locks store locals is
