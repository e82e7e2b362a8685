use Rattle.std.proofs.Common.{◌≡◌, ◌≢◌, [], length}
use Rattle.sect_front.specs.{Tokens.{parameters_tokens}, steps.Passing.{ArePassed}}
use Rattle.sect_front.specs.{ItemSpans.{parameters_spans}, steps.Spanning.{with_spans}}
use Rattle.sect_front.proofs.cursor.Cursor.parameters.Given as goal

abbrev pub invariant-more : goal.invariant-more
invariant-more l = record {
  are : ArePassed l.fn.self (parameters_tokens l.parameters []) l.self;
  some : l.parameters ≢ [];
  spans : l.spans ≡ with_spans l.fn.spans (parameters_spans l.fn.spans.total l.fn.self.here l.parameters);
}

abbrev pub decreases-more : goal.decreases-more
decreases-more l = length l.self.here
