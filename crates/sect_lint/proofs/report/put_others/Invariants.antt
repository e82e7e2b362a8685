use Rattle.std.proofs.Common.{◌≡◌, ◌++◌, take}
use Rattle.std.specs.{List.{flat_map}, String.{string_bytes}}
use Rattle.sect_lint.specs.Details.{next_text}
use Rattle.sect_lint.proofs.report.put_others.Given as goal

abbrev pub invariant-loop-called : goal.invariant-loop-called
invariant-loop-called l =
    string_bytes l.text ≡ string_bytes l.fn.text ++ flat_map (next_text l.source) (take l.called-index l.calls)
