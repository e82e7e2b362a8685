use Rattle.sect_free.proofs.Freely.{free_ends_are_one}
use Rattle.sect_free.proofs.laws.free_ends_are_one.Goals as goal

pub returns : goal.returns
returns c = free_ends_are_one
