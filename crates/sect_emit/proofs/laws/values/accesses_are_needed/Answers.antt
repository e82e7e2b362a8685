use Rattle.sect_emit.proofs.shared.NeedingAccesses.{access_needed}
use Rattle.sect_emit.proofs.laws.values.accesses_are_needed.Goals as goal

pub returns : goal.returns
returns c = access_needed
