use Rattle.sect_emit.proofs.shared.Plans.{plan_ascends}
use Rattle.sect_emit.proofs.laws.plans.plans_ascend.Goals as goal

pub returns : goal.returns
returns c s locks part is store locals = plan_ascends s part locks store locals is
