use Rattle.std.proofs.Common.{◌≡◌, map}
use Rattle.std.specs.List.{flat_map, range_with_len}
use Rattle.serde_json.specs.View.{view}
use Rattle.sect_editor.specs.Marks.{lenses_at}
use Rattle.sect_editor.proofs.marks.lens_values.Given as goal

-- the lenses of the sections so far
abbrev pub invariant-loop-section : goal.invariant-loop-section
invariant-loop-section l =
    map view l.values.items
    ≡ flat_map (lenses_at l.marked.compiled.now l.marked.source.now l.marked.spans.now l.pairs)
    (range_with_len 0 l.section)
