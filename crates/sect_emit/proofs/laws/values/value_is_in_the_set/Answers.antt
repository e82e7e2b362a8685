use Rattle.sect_emit.proofs.shared.Pointing.{denoted}
use Rattle.sect_emit.proofs.laws.values.value_is_in_the_set.Goals as goal

pub returns : goal.returns
returns c = denoted
