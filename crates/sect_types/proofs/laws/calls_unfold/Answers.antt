use Rattle.sect_types.proofs.Unfolding.{sums_unfold, texts_unfold, fresh_unfold}
use Rattle.sect_types.proofs.laws.calls_unfold.Goals as goal

pub returns-clause-sums : goal.returns-clause-sums
returns-clause-sums c = sums_unfold

pub returns-clause-texts : goal.returns-clause-texts
returns-clause-texts c = texts_unfold

pub returns-clause-fresh : goal.returns-clause-fresh
returns-clause-fresh c = fresh_unfold
