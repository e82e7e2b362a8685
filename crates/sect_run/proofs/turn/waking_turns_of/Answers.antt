-- The turns that were made, one after another.
use Rattle.std.proofs.Common.{◌≡◌, ◌∙◌, ◌++◌, refl, sym, subst, true≢false}
use Rattle.sect_run.specs.steps.Shares.{AreBelow, threads_in}
use Rattle.sect_run.proofs.Turning.{first_made, next_made, next_broken_off, all_made, more_below, of_refusal}
use Rattle.sect_run.proofs.turn.waking_turns_of.Goals as goal

pub loop-made-init : goal.loop-made-init
loop-made-init c =
    let e = c.in_ok-turned.ensures in
    let let_in = subst (λ ts. c.waking_turn_of.new.woken.items ≡ ts ++ c.waking_turn_of.new.world.granted)
    c.clear.ensures.items e.woken in (
      e.same,
      subst (AreBelow (threads_in c.args.world.now.compiled)) (sym let_in) e.below,
      first_made _ _ _ _ _ _ e.turned let_in,
    )

pub returns-in_err-turned-2-clause-err : goal.returns-in_err-turned-2-clause-err
returns-in_err-turned-2-clause-err c =
    of_refusal c.from_residual-in_err-turned-2.result
    (next_broken_off _ _ _ _ _ _ _ _ c.loop-made.invariant.2 c.loop-made-test.true (c.if-not-may_go_on.ensures.0 refl)
    c.in_err-turned-2.ensures.err)

pub loop-made-preserved : goal.loop-made-preserved
loop-made-preserved c =
    let i = c.loop-made.invariant in
    let e = c.in_ok-turned-2.ensures in
    let granted = c.waking_turn_of-in-loop-made.new.world.granted in (
      (e.same.0 ∙ i.0.0, e.same.1 ∙ i.0.1),
      more_below _ _ _ _ e.woken i.1 (subst (λ z. AreBelow (threads_in z) granted) i.0.0 e.below),
      next_made _ _ _ _ _ _ _ _ _ _ i.2 c.loop-made-test.true (c.if-not-may_go_on.ensures.0 refl) e.turned e.woken,
    )

pub returns-after-loop-made-clause-turned : goal.returns-after-loop-made-clause-turned
returns-after-loop-made-clause-turned c =
    let most = c.loop-made-test.false in
    all_made _ _ _ _ _ _ _ c.loop-made.invariant.2 (λ may. most)

pub returns-then-not-may_go_on-clause-turned : goal.returns-then-not-may_go_on-clause-turned
returns-then-not-may_go_on-clause-turned c =
    all_made _ _ _ _ _ _ _ c.loop-made.invariant.2
    (λ may. absurd (true≢false (sym (c.if-not-may_go_on.ensures.1 may))))
