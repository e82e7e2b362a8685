use Rattle.std.proofs.Common.{◌≡◌}
use Rattle.std.specs.{List.{flat_map, range_with_len}, String.{string_bytes}}
use Rattle.sect_legend.specs.Legend.{mark_of}
use Rattle.sect_answers.specs.Verbose.{set_line}
use Rattle.sect_answers.proofs.verbose.set_lines.Given as goal

abbrev pub invariant-loop-section : goal.invariant-loop-section
invariant-loop-section l =
    string_bytes l.text
    ≡ flat_map (set_line l.places.compiled.now (mark_of l.places) l.places.source.now l.places.spans.now.heads)
    (range_with_len 0 l.section)
