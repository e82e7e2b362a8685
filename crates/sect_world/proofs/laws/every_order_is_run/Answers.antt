use Rattle.sect_world.proofs.WholeOrders.{orders_are_runs}
use Rattle.sect_world.proofs.laws.every_order_is_run.Goals as goal

pub returns : goal.returns
returns c = orders_are_runs
