use Rattle.std.proofs.Common.{rules}
use Rattle.sect_table.proofs.Whole.{placed_sized}
use Rattle.sect_table.proofs.lists.Lists.reserve_lists.Goals as goal

pub returns-clause-placed : goal.returns-clause-placed
returns-clause-placed c = placed_sized _ _ _ _ _ (search rules) (search rules)
