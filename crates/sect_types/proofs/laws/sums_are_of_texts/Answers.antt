use Rattle.sect_types.proofs.Unfolding.{sums_count}
use Rattle.sect_types.proofs.laws.sums_are_of_texts.Goals as goal

pub returns : goal.returns
returns c = sums_count
