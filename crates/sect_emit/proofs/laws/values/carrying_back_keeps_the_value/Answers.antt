use Rattle.sect_emit.proofs.Valuing.{step_value}
use Rattle.sect_emit.proofs.laws.values.carrying_back_keeps_the_value.Goals as goal

pub returns : goal.returns
returns c s scheme typed t step there store after w v pointed does p r o to own value =
    step_value s scheme typed t store w pointed step there after v does p r o to own value
