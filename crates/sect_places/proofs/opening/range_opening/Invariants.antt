use Rattle.sect_places.proofs.FirstTokens.{OpenedHere}
use Rattle.sect_places.proofs.opening.range_opening.Given as goal

abbrev pub invariant-loop-passed : goal.invariant-loop-passed
invariant-loop-passed l =
    OpenedHere l.text.bytes.now l.tree l.fn.range.first l._passed l.here l.tokens.items l.spans.items l.values l.last
