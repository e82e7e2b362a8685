use Rattle.std.proofs.Common.{◌≡◌, map, take}
use Rattle.sect_front.specs.declared.span.Span.{Span}
use Rattle.sect_places.proofs.lines.beginnings_of.Given as goal

abbrev pub invariant-loop-span : goal.invariant-loop-span
invariant-loop-span l = l.places.items ≡ map (λ (s : Span). s.start) (take l.span-index l.spans)
