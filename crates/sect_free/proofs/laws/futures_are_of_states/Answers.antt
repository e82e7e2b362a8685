use Rattle.sect_free.proofs.States.{futures_are_of_states}
use Rattle.sect_free.proofs.laws.futures_are_of_states.Goals as goal

pub returns : goal.returns
returns c = futures_are_of_states
