use Rattle.std.proofs.Common.{◌≡◌, ◌∙◌, refl, sym, ap, arith, true≢false}
use Rattle.sect_types.specs.{Statements.{Stop, weight, statement_count}, Texts.{step_then}}
use Rattle.sect_serial.specs.steps.Rests.{after_first}
use Rattle.sect_serial.proofs.Comparing.{not_stop, same_firsts, same_rests, same_together, first_lighter, rest_lighter}
use Rattle.sect_serial.proofs.Comparing.{rest_shorter}
use Rattle.sect_serial.proofs.same.+same.Goals as goal

pub same_statements-loop-ours-init : goal.same_statements-loop-ours-init
same_statements-loop-ours-init t c = record { light = omega arith; alike = (λ e. e, λ e. e) }

pub same_statements-returns-in-None-None : goal.same_statements-returns-in-None-None
same_statements-returns-in-None-None t c = (
  λ yes. c.loop-ours.invariant.alike.0 (c.in-None-None.ensures.next ∙ sym c.in-None-None.ensures'.next),
  λ e. refl,
)

pub same_statements-same_step-requires : goal.same_statements-same_step-requires
same_statements-same_step-requires t c =
    let s = c.in-Some-Some.ours.now in
    let k = after_first c.loop-ours.left in (
      omega (
        arith,
        first_lighter s k,
        ap weight c.in-Some-Some.ensures.next,
        c.loop-ours.invariant.light,
        c.decreases,
      ),
      tt,
    )

pub same_statements-returns-then-not-same_step : goal.same_statements-returns-then-not-same_step
same_statements-returns-then-not-same_step t c =
    let s = c.in-Some-Some.ours.now in
    let r = c.in-Some-Some.theirs.now in
    let k = after_first c.loop-ours.left in
    let l = after_first c.loop-ours.right in (
      λ f. absurd (true≢false (sym f)),
      λ e.
          let both : step_then s k ≡ step_then r l =
          sym c.in-Some-Some.ensures.next ∙ c.loop-ours.invariant.alike.1 e ∙ c.in-Some-Some.ensures'.next in
          absurd (true≢false (sym (c.same_step.ensures.1 (same_firsts s r k l both)) ∙ c.if-not-same_step.true)),
    )

pub same_statements-loop-ours-smaller : goal.same_statements-loop-ours-smaller
same_statements-loop-ours-smaller t c =
    let s = c.in-Some-Some.ours.now in
    let k = after_first c.loop-ours.left in
    omega (
      arith,
      rest_shorter s k,
      ap statement_count c.in-Some-Some.ensures.next,
      ap statement_count c.in-Some-Some.ensures.rest,
    )

pub same_statements-loop-ours-preserved : goal.same_statements-loop-ours-preserved
same_statements-loop-ours-preserved t c =
    let s = c.in-Some-Some.ours.now in
    let r = c.in-Some-Some.theirs.now in
    let k = after_first c.loop-ours.left in
    let l = after_first c.loop-ours.right in
    let ours = c.in-Some-Some.ensures.next in
    let theirs = c.in-Some-Some.ensures'.next in
    let our_rest = c.in-Some-Some.ensures.rest in
    let their_rest = c.in-Some-Some.ensures'.rest in
    let alike = c.loop-ours.invariant.alike in
    let one = c.same_step.ensures.0 c.if-not-same_step.false in
    record {
      light = omega (arith, rest_lighter s k, ap weight ours, ap weight our_rest, c.loop-ours.invariant.light);
      alike = (
        λ e. alike.0 (ours ∙ same_together s r k l one (sym our_rest ∙ e ∙ their_rest) ∙ sym theirs),
        λ e. our_rest ∙ same_rests s r k l (sym ours ∙ alike.1 e ∙ theirs) ∙ sym their_rest,
      );
    }

pub same_statements-returns-in_default : goal.same_statements-returns-in_default
same_statements-returns-in_default t c = (
  λ f. absurd (true≢false (sym f)),
  λ e. absurd (not_stop c.in_default.field-0-1.now (after_first c.loop-ours.right)
      (sym c.in_default.ensures'.next ∙ sym (c.loop-ours.invariant.alike.1 e) ∙ c.in_default.ensures.next)),
)

pub same_statements-returns-in_default-2 : goal.same_statements-returns-in_default-2
same_statements-returns-in_default-2 t c = (
  λ f. absurd (true≢false (sym f)),
  λ e. absurd (not_stop c.in_default.field-0-0.now (after_first c.loop-ours.left)
      (sym c.in_default.ensures.next ∙ c.loop-ours.invariant.alike.1 e ∙ c.in_default.ensures'.next)),
)

pub same_step-same_statements-requires : goal.same_step-same_statements-requires
same_step-same_statements-requires t c = (
  omega (
    arith,
    ap (λ s. weight (step_then s Stop)) c.in-If-If.is-0,
    ap weight c.of.ensures,
    c.decreases,
  ),
  tt,
)

pub same_step-same_statements-requires-then-same_statements :
    goal.same_step-same_statements-requires-then-same_statements
same_step-same_statements-requires-then-same_statements t c = (
  omega (
    arith,
    ap (λ s. weight (step_then s Stop)) c.in-If-If.is-0,
    ap weight c.of-then-same_statements.ensures,
    c.decreases,
  ),
  tt,
)

pub same_step-same_statements-requires-then-same_condition-2 :
    goal.same_step-same_statements-requires-then-same_condition-2
same_step-same_statements-requires-then-same_condition-2 t c = (
  omega (
    arith,
    ap (λ s. weight (step_then s Stop)) c.in-While-While.is-0,
    ap weight c.of-then-same_condition-2.ensures,
    c.decreases,
  ),
  tt,
)

pub same_step-same_statements-requires-then-n-m : goal.same_step-same_statements-requires-then-n-m
same_step-same_statements-requires-then-n-m t c = (
  omega (
    arith,
    ap (λ s. weight (step_then s Stop)) c.in-Section-Section.is-0,
    ap weight c.of-then-n-m.ensures,
    c.decreases,
  ),
  tt,
)
