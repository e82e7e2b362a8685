use Rattle.sect_serial.proofs.OneList.{outcomes_are_one}
use Rattle.sect_serial.proofs.laws.outcomes_are_one.Goals as goal

pub returns : goal.returns
returns c = outcomes_are_one
