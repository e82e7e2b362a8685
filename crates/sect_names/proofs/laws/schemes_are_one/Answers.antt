use Rattle.sect_names.proofs.shared.OneScheme.{one_scheme}
use Rattle.sect_names.proofs.laws.schemes_are_one.Goals as goal

pub returns : goal.returns
returns c = one_scheme
