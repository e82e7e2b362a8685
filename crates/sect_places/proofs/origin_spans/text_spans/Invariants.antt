use Rattle.std.proofs.Common.{◌≡◌, map, take}
use Rattle.sect_places.specs.NodeSpans.{node_span}
use Rattle.sect_places.proofs.origin_spans.text_spans.Given as goal

abbrev pub invariant-loop-origin : goal.invariant-loop-origin
invariant-loop-origin l = l.list.items ≡ map (node_span l.spans) (take l.origin-index l.origins)
