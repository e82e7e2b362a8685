use Rattle.sect_emit.proofs.shared.PlanModes.{plan_meets}
use Rattle.sect_emit.proofs.laws.plans.plans_meet_wishes.Goals as goal

pub returns : goal.returns
returns c s scheme locks part is store locals = plan_meets s part locks store locals is scheme
