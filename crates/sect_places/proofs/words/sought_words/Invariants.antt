use Rattle.sect_places.proofs.Standing.{WordsHere}
use Rattle.sect_places.proofs.words.sought_words.Given as goal

abbrev pub invariant-loop-passed : goal.invariant-loop-passed
invariant-loop-passed l =
    WordsHere l.text.bytes.now l.tree l.fn.range.first l._passed l.here l.tokens.items l.spans.items
