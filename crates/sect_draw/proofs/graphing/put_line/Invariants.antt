use Rattle.std.proofs.Common.{◌≡◌, ◌++◌, drop}
use Rattle.std.specs.List.{flat_map}
use Rattle.sect_draw.specs.Graphs.{escaped_byte}
use Rattle.sect_draw.proofs.graphing.put_line.Given as goal

abbrev pub invariant-loop-byte : goal.invariant-loop-byte
invariant-loop-byte l =
    l.text.items ++ flat_map escaped_byte (drop l.byte-index l.line) ≡ l.fn.text.items ++ flat_map escaped_byte l.line
