use Rattle.std.proofs.Common.{arith, ap}
use Rattle.sect_types.specs.{Statements.{Stop, weight}, Texts.{step_then}, Traces.{node_count}}
use Rattle.sect_types.proofs.shared.FindLemmas.{weight_at}
use Rattle.sect_graph.proofs.Emitting.{count_more}
use Rattle.sect_graph.proofs.emit.+count.Goals as goal

pub text_count-step_count-count-requires : goal.text_count-step_count-count-requires
text_count-step_count-count-requires t c =
    let xs = c.as_slice-step-items.result.now in
    let i = c.loop-step.step-index in
    let s = c.step-item.result in (
      omega (
        arith,
        weight_at xs i s (omega arith),
        ap (λ x. weight (step_then x Stop)) c.step-item.is,
        ap weight c.loop-step.invariant.whole,
        c.decreases,
      ),
      omega (
        arith,
        count_more xs i s (omega arith),
        ap (λ x. node_count (step_then x Stop)) c.step-item.is,
        c.loop-step.invariant.count,
        c.requires,
      ),
    )
