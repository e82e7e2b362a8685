-- The thread stands before all of its text.
use Rattle.std.proofs.Common.{refl}
use Rattle.sect_world.proofs.Opening.{first_is}
use Rattle.sect_world.proofs.runner.first_runner.Goals as goal

pub returns : goal.returns
returns c = first_is c.args.compiled.now c.args.fuel c.args.thread _ refl refl c.in_ok-first_work.ensures
    c.first_end.ensures c.new.ensures.items
