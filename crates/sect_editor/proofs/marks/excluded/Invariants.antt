use Rattle.std.proofs.Common.{◌≡◌, take}
use Rattle.sect_editor.specs.Marks.{excluded_by}
use Rattle.sect_editor.proofs.marks.excluded.Given as goal

-- by the pairs so far
abbrev pub invariant-loop-pair : goal.invariant-loop-pair
invariant-loop-pair l = l.found.items ≡ excluded_by (take l.pair-index l.pairs) l.section
