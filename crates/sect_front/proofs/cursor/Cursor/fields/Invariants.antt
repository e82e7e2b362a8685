use Rattle.std.proofs.Common.{◌≡◌, [], length}
use Rattle.sect_front.specs.{Tokens.{declarations_tokens}, steps.Passing.{ArePassed}}
use Rattle.sect_front.specs.{ItemSpans.{declarations_spans}, steps.Spanning.{with_spans}}
use Rattle.sect_front.proofs.cursor.Cursor.fields.Given as goal

abbrev pub invariant-more : goal.invariant-more
invariant-more l = record {
  are : ArePassed l.fn.self (declarations_tokens l.fields []) l.self;
  spans : l.spans ≡ with_spans l.fn.spans (declarations_spans l.fn.spans.total l.fn.self.here l.fields);
}

abbrev pub decreases-more : goal.decreases-more
decreases-more l = length l.self.here
