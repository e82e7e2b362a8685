use Rattle.std.proofs.Common.{arith, ap}
use Rattle.sect_types.specs.{Statements.{Stop, weight}, Texts.{step_then}}
use Rattle.sect_types.proofs.shared.FindLemmas.{weight_at}
use Rattle.sect_store.proofs.site.+made.Goals as goal

pub put_made-put_made_by-requires : goal.put_made-put_made_by-requires
put_made-put_made_by-requires t c = (
  omega (
    arith,
    weight_at c.as_slice-step-items.result.now c.loop-step.step-index c.step-item.result (omega arith),
    ap (λ s. weight (step_then s Stop)) c.step-item.is,
    ap weight c.loop-step.invariant.whole,
    c.decreases,
  ),
  tt,
)
