use Rattle.std.proofs.Common.{arith}
use Rattle.sect_types.proofs.Reversing.{no_callers}
use Rattle.sect_types.proofs.rules.called.callers_of.Goals as goal

pub loop-number-init : goal.loop-number-init
loop-number-init c =
    no_callers c.args.procedures.now c.loop.callers.items (omega (arith, c.loop.invariant.0)) c.loop.invariant.1
