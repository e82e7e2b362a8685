use Rattle.std.proofs.Common.{◌≡◌, map, take}
use Rattle.sect_places.specs.NodeSpans.{node_span}
use Rattle.sect_places.proofs.origin_spans.texts_spans.Given as goal

abbrev pub invariant-loop-text : goal.invariant-loop-text
invariant-loop-text l = l.lists.items ≡ map (map (node_span l.spans)) (take l.text-index l.texts)
