use Rattle.sect_run.specs.steps.Shares.{AreBelow, IsSameRun, threads_in}
use Rattle.sect_run.proofs.Turning.{AreMade}
use Rattle.sect_run.proofs.turn.waking_turns_of.Given as goal

abbrev pub invariant-loop-made : goal.invariant-loop-made
invariant-loop-made l =
    IsSameRun l.fn.world l.world
    × AreBelow (threads_in l.fn.world.compiled) l.woken.items
    × AreMade l.thread l.most l._made l.turned l.woken.items l.fn.world l.world
