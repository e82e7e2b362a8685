use Rattle.sect_emit.proofs.shared.Pointing.{step_pointed, others_pointed}
use Rattle.sect_emit.proofs.laws.values.steps_keep_references_in_their_sets.Goals as goal

pub returns-clause-own : goal.returns-clause-own
returns-clause-own c s scheme typed t step there store after w v pointed does =
    step_pointed s scheme typed t store w pointed step there after v does

pub returns-clause-others : goal.returns-clause-others
returns-clause-others c = others_pointed
