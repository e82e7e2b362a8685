use Rattle.std.proofs.Common.{◌≡◌, map, take}
use Rattle.sect_places.specs.NodeLines.{node_line}
use Rattle.sect_places.proofs.lines.section_lines.Given as goal

abbrev pub invariant-loop-section : goal.invariant-loop-section
invariant-loop-section l =
    map (λ v. v.items) l.lines.items ≡ map (map (node_line l.places)) (take l.section-index l.sections)
