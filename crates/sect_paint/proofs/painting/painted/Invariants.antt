use Rattle.std.proofs.Common.{◌≡◌, ◌++◌, drop}
use Rattle.std.specs.List.{flat_map}
use Rattle.sect_paint.specs.Painting.{painted_bytes, painted_text, stretches}
use Rattle.sect_paint.proofs.painting.painted.Given as goal

abbrev pub invariant-loop-byte : goal.invariant-loop-byte
invariant-loop-byte l =
    l.painted.items ++ flat_map painted_bytes (stretches l.of l.tone l.line.items (drop l.byte-index l.text))
    ≡ painted_text l.of l.text
