use Rattle.std.proofs.{Common.{rules, arith}, lemmas.Grind.{common_steps}}
use Rattle.sect_table.proofs.Whole.{placed_sized}
use Rattle.sect_table.proofs.lists.Lists.add_list.Goals as goal

pub invariant_of-self : goal.invariant_of-self
invariant_of-self c = grind (arith, common_steps)

pub returns-clause-placed : goal.returns-clause-placed
returns-clause-placed c = placed_sized _ _ _ _ _ (search rules) (invariant_of-self c)
