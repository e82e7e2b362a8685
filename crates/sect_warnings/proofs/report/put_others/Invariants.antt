use Rattle.std.proofs.Common.{◌≡◌, ◌++◌, take}
use Rattle.std.specs.{Prelude.{codes}, List.{flat_map}, String.{string_bytes}}
use Rattle.sect_warnings.specs.Reports.{report}
use Rattle.sect_warnings.proofs.report.put_others.Given as goal

abbrev pub invariant-loop-other : goal.invariant-loop-other
invariant-loop-other l =
    string_bytes l.text ≡ string_bytes l.fn.text
    ++ flat_map (λ q. codes "\n" ++ report l.mark l.source q) (take l.other-index l.others)
