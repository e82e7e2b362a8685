use Rattle.std.proofs.Common.{◌≡◌, ◌++◌, take}
use Rattle.std.specs.{List.{flat_map}, String.{string_bytes}}
use Rattle.sect_legend.specs.Legend.{mark_of}
use Rattle.sect_answers.specs.Verbose.{two_line}
use Rattle.sect_answers.proofs.verbose.put_pairs.Given as goal

abbrev pub invariant-loop-pair : goal.invariant-loop-pair
invariant-loop-pair l =
    string_bytes l.text ≡ string_bytes l.initial.text
    ++ flat_map (two_line l.places.compiled.now (mark_of l.places) l.places.source.now l.places.spans.now.heads)
    (take l.pair-index l.pairs)
