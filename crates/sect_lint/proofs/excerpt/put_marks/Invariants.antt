use Rattle.std.proofs.Common.{◌≡◌, ◌++◌, take}
use Rattle.std.specs.{List.{flat_map}, String.{string_bytes}}
use Rattle.sect_lint.specs.Excerpts.{under}
use Rattle.sect_lint.proofs.excerpt.put_marks.Given as goal

abbrev pub invariant-loop-byte : goal.invariant-loop-byte
invariant-loop-byte l =
    string_bytes l.text ≡ string_bytes l.initial.text ++ flat_map (under l.mark) (take l.byte-index l.bytes)
