use Rattle.sect_names.proofs.Uniqueness.{one_least}
use Rattle.sect_names.proofs.laws.least_sets_are_one.Goals as goal

pub returns : goal.returns
returns c = one_least
