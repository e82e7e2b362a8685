use Rattle.sect_world.proofs.Closing.{runs_are_serial}
use Rattle.sect_world.proofs.laws.every_run_is_serial.Goals as goal

pub returns : goal.returns
returns c = runs_are_serial
