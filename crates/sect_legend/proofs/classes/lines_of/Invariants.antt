use Rattle.std.proofs.Common.{◌≡◌, map}
use Rattle.std.specs.{List.{flat_map, range_with_len}, String.{string_bytes}}
use Rattle.sect_legend.specs.Legend.{class_line}
use Rattle.sect_legend.proofs.classes.lines_of.Given as goal

abbrev pub invariant-loop-class : goal.invariant-loop-class
invariant-loop-class l =
    string_bytes l.text
    ≡ flat_map (class_line l.classes.numbers (map string_bytes l.names)) (range_with_len 0 l.class)
