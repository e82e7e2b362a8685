use Rattle.std.proofs.Common.{subst}
use Rattle.sect_asking.specs.Asking.{IsNoQuestion}
use Rattle.sect_asking.proofs.reading.read_question.Goals as goal

pub returns-in_default-clause-fault : goal.returns-in_default-clause-fault
returns-in_default-clause-fault c = subst IsNoQuestion c.new-cursor.ensures c.in_default.ensures.none
