use Rattle.sect_world.proofs.Stuck.{no_state_is_stuck}
use Rattle.sect_world.proofs.laws.no_state_is_stuck.Goals as goal

pub returns : goal.returns
returns c = no_state_is_stuck
