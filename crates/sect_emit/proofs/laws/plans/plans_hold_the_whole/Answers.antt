use Rattle.sect_emit.proofs.shared.PlanModes.{plan_whole}
use Rattle.sect_emit.proofs.laws.plans.plans_hold_the_whole.Goals as goal

pub returns : goal.returns
returns c s locks part is store locals = plan_whole s part locks store locals is
