use Rattle.std.proofs.Common.{arith, ap}
use Rattle.sect_types.specs.{Statements.{Stop, weight}, Texts.{step_then}}
use Rattle.sect_types.proofs.shared.FindLemmas.{weight_at}
use Rattle.sect_types.proofs.FindLemmas.{here, not_here, nowhere}
use Rattle.sect_types.proofs.expansion.text.+find.Goals as goal

pub Text::section-section-requires : goal.Text::section-section-requires
Text::section-section-requires t c = (
  omega (
    arith,
    weight_at c.as_slice-step-items.result.now c.loop-step.step-index c.step-item.result (omega arith),
    ap (λ s. weight (step_then s Stop)) c.step-item.is,
    ap weight c.loop-step.invariant.whole,
    c.decreases,
  ),
  tt,
)

pub Text::section-returns-in-Some : goal.Text::section-returns-in-Some
Text::section-returns-in-Some t c =
    here c.args.number c.args.self.now c.as_slice-step-items.result.now c.loop-step.step-index c.step-item.result
    c.in-Some.body.now (omega arith) c.step-item.is c.in-Some.ensures c.loop-step.invariant

pub Text::section-loop-step-preserved : goal.Text::section-loop-step-preserved
Text::section-loop-step-preserved t c =
    not_here c.args.number c.args.self.now c.as_slice-step-items.result.now c.loop-step.step-index c.step-item.result
    (omega arith) c.step-item.is c.in_default.ensures c.loop-step.invariant

pub Text::section-returns : goal.Text::section-returns
Text::section-returns t c =
    nowhere c.args.number c.args.self.now c.as_slice-step-items.result.now c.loop-step.step-index (omega arith)
    c.loop-step.invariant
