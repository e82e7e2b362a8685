use Rattle.sect_endings.proofs.Rounding.{one_verdict}
use Rattle.sect_endings.proofs.laws.verdicts_are_one.Goals as goal

pub returns : goal.returns
returns c = one_verdict
