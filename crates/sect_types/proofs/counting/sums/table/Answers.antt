use Rattle.std.proofs.Common.{◌≡◌, ◌∙◌, ap, arith, map, length}
use Rattle.sect_types.specs.{Sums.{sums_within}, declared.counting.sums.Summary.{Summary}}
use Rattle.sect_types.specs.steps.{Capped.{capped}, Summaries.{summary_sums}}
use Rattle.sect_types.proofs.{Capping.{one_round}, Summing.{as_many_summaries}}
use Rattle.sect_types.proofs.counting.sums.table.Goals as goal

pub loop-preserved : goal.loop-preserved
loop-preserved c = (
  one_round c.args.called.now c.loop.counter c.loop.table.items c.in_ok-table.table.items c.loop.invariant.0
      (c.in_ok-table.ensures.sums
      ∙ (λ i. map (λ (s : Summary). capped (summary_sums (c.as_slice-in-loop.ensures.value i) s))
      (c.as_slice.ensures.value i))
      ∙ c.in_ok-summaries.ensures.sums c.loop.table.items),
  c.in_ok-table.ensures.small,
)

pub returns : goal.returns
returns c =
    let end : c.loop.counter ≡ length c.args.called.now =
    omega (arith, as_many_summaries c.args.called.now c.in_ok-summaries.summaries.items c.in_ok-summaries.ensures) in
    c.loop.invariant.0 ∙ ap (λ n. map capped (sums_within n c.args.called.now)) end
