use Rattle.sect_world.proofs.GoingOn.{something_happens}
use Rattle.sect_world.proofs.laws.something_happens.Goals as goal

pub returns : goal.returns
returns c = something_happens
