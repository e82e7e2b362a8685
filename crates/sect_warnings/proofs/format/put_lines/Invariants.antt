use Rattle.std.proofs.Common.{◌≡◌, ◌++◌, take}
use Rattle.std.specs.{List.{flat_map}, String.{string_bytes}}
use Rattle.sect_warnings.specs.Formats.{json_line}
use Rattle.sect_warnings.proofs.format.put_lines.Given as goal

abbrev pub invariant-loop-warning : goal.invariant-loop-warning
invariant-loop-warning l =
    string_bytes l.text ≡ string_bytes l.fn.text ++ flat_map (json_line l.source) (take l.warning-index l.placed)
