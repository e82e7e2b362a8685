use Rattle.std.proofs.Common.{ap, sym, ◌∙◌, subst, Some, None}
use Rattle.sect_types.specs.{Programs.{environment_at}, Whole.{FrameView, ahead}}
use Rattle.sect_serial.specs.steps.Frames.{IsReady}
use Rattle.sect_serial.proofs.SoundLemmas.{after_step}
use Rattle.sect_serial.proofs.frame.Frame.run_ahead.Goals as goal

pub steps-preserved : goal.steps-preserved
steps-preserved c =
    let e = environment_at c.args.program.now c.args.thread in
    let after = after_step e c.args.program.now c.args.thread _ _ c.steps.store c.step.new.rest c.step.new.work
    c.step.new.store _ (Some c.in-Some.fault) _
    c.self.view_is c.is_standing.ensures c.steps-test.true c.steps.invariant.ready c.in-Some.is c.in_ok-step.ensures in
    record {
      ready = after.kept.ready;
      same = after.kept.same ∙ c.steps.invariant.same;
      store =
          after.store ∙ c.steps.invariant.store;
    }

pub steps-smaller : goal.steps-smaller
steps-smaller c =
    let e = environment_at c.args.program.now c.args.thread in
    let after = after_step e c.args.program.now c.args.thread _ _ c.steps.store c.step.new.rest c.step.new.work
    c.step.new.store _ (Some c.in-Some.fault) _
    c.self.view_is c.is_standing.ensures c.steps-test.true c.steps.invariant.ready c.in-Some.is c.in_ok-step.ensures in
    after.kept.less

pub steps-preserved-in-None : goal.steps-preserved-in-None
steps-preserved-in-None c =
    let p = c.args.program.now in
    let t = c.args.thread in
    let e = environment_at p t in
    let after = after_step e p t _ _ c.steps.store c.step.new.rest c.step.new.work c.step.new.store _ None _
    c.self.view_is c.is_standing.ensures c.steps-test.true c.steps.invariant.ready c.in-None.is c.in_ok-step.ensures in
    let now = c.settle.ensures (ap (λ (x : FrameView). x.ended) c.self.view_is ∙ after.none) in
    record {
      ready = subst (IsReady e) (sym now) after.kept.ready;
      same = ap (ahead p t) now ∙ after.kept.same ∙ c.steps.invariant.same;
      store = after.store ∙ c.steps.invariant.store;
    }
