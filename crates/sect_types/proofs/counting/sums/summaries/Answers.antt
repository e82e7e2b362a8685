use Rattle.std.proofs.Common.{◌∙◌, ap, arith, map}
use Rattle.sect_front.specs.declared.tree.Procedure.{Procedure}
use Rattle.sect_types.specs.Sums.{procedure_sums}
use Rattle.sect_types.specs.steps.Capped.{capped}
use Rattle.sect_types.proofs.Summing.{all_summaries}
use Rattle.sect_types.proofs.counting.sums.summaries.Goals as goal

pub returns : goal.returns
returns c = record {
  small = c.loop-procedure.invariant.1;
  sums = λ table.
      all_summaries c.procedures-procedure-items.result.now _ _ c.loop-procedure.procedure-index
      (λ (p : Procedure). capped (procedure_sums c.args.called.now table p)) (omega arith)
      (c.loop-procedure.invariant.2 table)
      ∙ ap (λ ps. map (λ (p : Procedure). capped (procedure_sums c.args.called.now table p)) ps)
      c.loop-procedure.invariant.0;
}
