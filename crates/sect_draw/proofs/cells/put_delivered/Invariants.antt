use Rattle.std.proofs.Common.{◌≡◌, ◌++◌, drop}
use Rattle.std.specs.{String.{string_bytes}, List.{flat_map}}
use Rattle.sect_draw.specs.Chart.{prints_text}
use Rattle.sect_draw.proofs.cells.put_delivered.Given as goal

abbrev pub invariant-loop-number : goal.invariant-loop-number
invariant-loop-number l =
    string_bytes l.text ++ flat_map prints_text (drop l.number-index l.delivered)
    ≡ string_bytes l.fn.text ++ flat_map prints_text l.delivered
