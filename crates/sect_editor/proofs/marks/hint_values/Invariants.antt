use Rattle.std.proofs.Common.{◌≡◌, map}
use Rattle.std.specs.List.{flat_map, range_with_len}
use Rattle.serde_json.specs.View.{view}
use Rattle.sect_editor.specs.Marks.{hints_at}
use Rattle.sect_editor.proofs.marks.hint_values.Given as goal

-- the hints of the sections so far
abbrev pub invariant-loop-section : goal.invariant-loop-section
invariant-loop-section l =
    map view l.values.items
    ≡ flat_map (hints_at l.marked.compiled.now l.marked.source.now l.marked.spans.now l.range)
    (range_with_len 0 l.section)
