use Rattle.sect_check.proofs.Least.{entries_least}
use Rattle.sect_check.proofs.laws.valid_entry_lists_are_least.Goals as goal

pub returns : goal.returns
returns c = entries_least
