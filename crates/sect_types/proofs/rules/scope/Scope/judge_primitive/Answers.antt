use Rattle.sect_types.proofs.rules.scope.Scope.judge_primitive.Goals as goal

pub returns-in-Compute : goal.returns-in-Compute
returns-in-Compute c = rw c.in-Compute.is (c.judge_computed.ensures c.in-Compute.field-2)
