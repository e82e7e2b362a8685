use Rattle.std.proofs.Common.{◌≡◌, ◌++◌, List, drop, map}
use Rattle.std.specs.List.{AllByRecursion}
use Rattle.sect_front.specs.declared.tree.Procedure.{Procedure}
use Rattle.sect_types.specs.{declared.counting.sums.Sums.{Sums}, declared.counting.sums.Summary.{Summary}}
use Rattle.sect_types.specs.Sums.{procedure_sums}
use Rattle.sect_types.specs.steps.{Capped.{capped, IsSmall}, Summaries.{summary_sums}}
use Rattle.sect_types.proofs.counting.sums.summaries.Given as goal

abbrev pub invariant-loop-procedure : goal.invariant-loop-procedure
invariant-loop-procedure l =
    (l.procedure-items ≡ l.called) × AllByRecursion (λ (s : Summary). IsSmall s.own) l.summaries.items
    × ((table : List Sums) → map (λ (s : Summary). capped (summary_sums table s)) l.summaries.items
    ++ map (λ (p : Procedure). capped (procedure_sums l.called table p)) (drop l.procedure-index l.procedure-items)
    ≡ map (λ (p : Procedure). capped (procedure_sums l.called table p)) l.procedure-items)
