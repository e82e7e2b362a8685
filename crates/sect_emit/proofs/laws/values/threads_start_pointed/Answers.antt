use Rattle.sect_emit.proofs.shared.Starting.{starts_pointed}
use Rattle.sect_emit.proofs.laws.values.threads_start_pointed.Goals as goal

pub returns : goal.returns
returns c = starts_pointed
