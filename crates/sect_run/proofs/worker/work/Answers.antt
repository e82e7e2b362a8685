use Rattle.std.proofs.Common.{sym, subst}
use Rattle.std.specs.Prelude.{IfSome}
use Rattle.sect_world.specs.Stretches.{IsStretchOf}
use Rattle.sect_run.proofs.worker.work.Goals as goal

pub loop-init : goal.loop-init
loop-init g c =
    subst (λ o. IfSome o (IsStretchOf c.args.compiled.now c.drop_stretch.new.self.thread)) (sym c.drop_stretch.ensures.none)
    tt
