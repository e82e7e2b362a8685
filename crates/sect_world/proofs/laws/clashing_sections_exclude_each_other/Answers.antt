use Rattle.sect_world.proofs.Together.{clashing_exclude}
use Rattle.sect_world.proofs.laws.clashing_sections_exclude_each_other.Goals as goal

pub returns : goal.returns
returns c = clashing_exclude
