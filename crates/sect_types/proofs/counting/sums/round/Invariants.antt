use Rattle.std.proofs.Common.{◌≡◌, ◌++◌, drop, map}
use Rattle.sect_types.specs.declared.counting.sums.Summary.{Summary}
use Rattle.sect_types.specs.steps.{Capped.{capped, AreSmall}, Summaries.{summary_sums}}
use Rattle.sect_types.proofs.counting.sums.round.Given as goal

abbrev pub invariant-loop-summary : goal.invariant-loop-summary
invariant-loop-summary l =
    AreSmall l.next.items
    × (l.next.items ++ map (λ (s : Summary). capped (summary_sums l.table s)) (drop l.summary-index l.summaries)
    ≡ map (λ (s : Summary). capped (summary_sums l.table s)) l.summaries)
