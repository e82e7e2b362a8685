use Rattle.sect_world.proofs.TakingEnough.{taken_keys_are_enough}
use Rattle.sect_world.proofs.loose.taken_keys_are_enough.Goals as goal

pub returns : goal.returns
returns c = taken_keys_are_enough
