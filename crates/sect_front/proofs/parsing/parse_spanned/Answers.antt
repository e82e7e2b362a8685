use Rattle.std.proofs.Common.{arith}
use Rattle.sect_front.proofs.parsing.parse_spanned.Goals as goal

pub returns-in-Ok-clause-tree : goal.returns-in-Ok-clause-tree
returns-in-Ok-clause-tree c = record {
  fits = omega arith;
  places = c.in-Ok.ensures.tree.places;
  spells = c.in-Ok.ensures.tree.spells;
  parses = c.in-Ok.ensures.tree.is;
}
