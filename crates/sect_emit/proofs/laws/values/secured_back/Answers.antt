use Rattle.sect_emit.proofs.shared.Securing.{secured_by, needed_secures}
use Rattle.sect_emit.proofs.laws.values.secured_back.Goals as goal

pub returns-clause-step : goal.returns-clause-step
returns-clause-step c s scheme typed t step there store after w v pointed does p e o own value =
    secured_by s scheme typed t store w pointed step there after v does p e o own value

pub returns-clause-text : goal.returns-clause-text
returns-clause-text c s scheme typed t last ends text stands store after w v pointed step rest leads does p e o needed
    value =
    needed_secures s scheme typed t last ends text stands store w pointed step rest leads after v does p e o needed
    value
