use Rattle.std.proofs.Common.{◌≡◌, ◌++◌, map}
use Rattle.std.specs.List.{flat_map, range_with_len}
use Rattle.serde_json.specs.View.{view}
use Rattle.sect_editor.specs.Symbols.{section_symbols}
use Rattle.sect_editor.proofs.symbols.put_marked_sections.Given as goal

-- the sections so far
abbrev pub invariant-loop-section : goal.invariant-loop-section
invariant-loop-section l =
    map view l.values.items ≡ map view l.initial.values.items
    ++ flat_map (section_symbols l.marked.compiled.now l.marked.source.now l.marked.spans.now)
    (range_with_len 0 l.section)
