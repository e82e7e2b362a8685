use Rattle.std.proofs.Common.{arith, ap}
use Rattle.sect_types.specs.{Statements.{Stop, weight, statement_count}, Texts.{step_then}}
use Rattle.sect_types.specs.declared.expansion.text.Step.{Step}
use Rattle.sect_types.proofs.shared.FindLemmas.{weight_at}
use Rattle.sect_graph.proofs.Graphs.{nodes_few, statements_at}
use Rattle.sect_graph.proofs.graph.+put.Goals as goal

pub put_step-flow_of-requires : goal.put_step-flow_of-requires
put_step-flow_of-requires t c =
    omega (
      arith,
      nodes_few c.in-Section.body,
      ap (λ (s : Step). statement_count (step_then s Stop)) c.in-Section.is,
      c.requires,
    )

pub put_text-put_step-requires : goal.put_text-put_step-requires
put_text-put_step-requires t c =
    let xs = c.as_slice-step-items.result.now in
    let i = c.loop-step.step-index in
    let s = c.step-item.result in (
      omega (
        arith,
        weight_at xs i s (omega arith),
        ap (λ (x : Step). weight (step_then x Stop)) c.step-item.is,
        ap weight c.loop-step.invariant.whole,
        c.decreases,
      ),
      omega (
        arith,
        statements_at xs i s (omega arith),
        ap (λ (x : Step). statement_count (step_then x Stop)) c.step-item.is,
        ap statement_count c.loop-step.invariant.whole,
        c.requires,
      ),
    )
