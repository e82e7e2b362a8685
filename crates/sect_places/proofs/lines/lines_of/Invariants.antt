use Rattle.std.proofs.Common.{◌≡◌, map, take}
use Rattle.sect_places.specs.NodeLines.{node_line}
use Rattle.sect_places.proofs.lines.lines_of.Given as goal

abbrev pub invariant-loop-origin : goal.invariant-loop-origin
invariant-loop-origin l = l.lines.items ≡ map (node_line l.places) (take l.origin-index l.origins)
