use Rattle.sect_world.proofs.Closing.{runs_exclude}
use Rattle.sect_world.proofs.laws.readers_and_writers_exclude.Goals as goal

pub returns : goal.returns
returns c = runs_exclude
