use Rattle.std.proofs.Common.{◌≡◌, map, take}
use Rattle.sect_places.specs.NodeSpans.{item_span}
use Rattle.sect_places.proofs.origin_spans.items_spans.Given as goal

abbrev pub invariant-loop-item : goal.invariant-loop-item
invariant-loop-item l = l.list.items ≡ map (item_span l.spans) (take l.item-index l.items)
