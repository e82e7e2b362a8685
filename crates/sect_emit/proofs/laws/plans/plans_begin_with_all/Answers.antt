use Rattle.sect_emit.proofs.shared.PlanModes.{plan_begins}
use Rattle.sect_emit.proofs.PlanModes.{no_plan}
use Rattle.sect_emit.proofs.laws.plans.plans_begin_with_all.Goals as goal

pub returns-clause-first : goal.returns-clause-first
returns-clause-first c s locks part is store locals = plan_begins s part locks store locals is

pub returns-clause-none : goal.returns-clause-none
returns-clause-none c s part is store locals = no_plan s part store locals is
