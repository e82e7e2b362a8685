use Rattle.std.proofs.Common.{◌+◌, subst, sym}
use Rattle.sect_endings.specs.steps.Lasting.{IsPassed, IsLess}
use Rattle.sect_endings.proofs.Candidates.{pass_begun, pass_changed, pass_kept}
use Rattle.sect_endings.proofs.lasting.pass.Goals as goal
use Rattle.sect_endings.proofs.lasting.pass.Goals.{then-branch, else-branch}

pub loop-thread-init : goal.loop-thread-init
loop-thread-init c = pass_begun c.args.graph.now c.args.threads c.args.marks.now c.narrow_to_moves.new.marks
    c.in_ok-changed.changed c.in_ok-changed.ensures.less c.in_ok-changed.ensures.stays c.in_ok-changed.ensures.moves

pub loop-thread-preserved : goal.loop-thread-preserved
loop-thread-preserved c =
    let g = c.args.graph.now in
    let n = c.args.threads in
    let t = c.loop-thread.thread in
    let old = c.loop-thread.marks in
    let new = c.narrow_to_thread.new.marks in
    let told = c.in_ok-narrow_to_thread in
    elim c.if-branch.branch [
      | then-branch w ↦ subst (IsPassed g n (t + 1) c.args.marks.now new) (sym w.changed-is)
          (pass_changed g n t c.args.marks.now old new c.loop-thread.changed c.loop-thread.invariant
          (subst (IsLess old new) w.if-branch.true told.ensures.less)
          (told.ensures.stays n c.loop-thread-test.true))
      | else-branch w ↦ subst (IsPassed g n (t + 1) c.args.marks.now new) (sym w.changed-is)
          (pass_kept g n t c.args.marks.now old new c.loop-thread.changed c.loop-thread.invariant
          (subst (IsLess old new) w.if-branch.false told.ensures.less) (told.ensures.meets w.if-branch.false))
    ]
