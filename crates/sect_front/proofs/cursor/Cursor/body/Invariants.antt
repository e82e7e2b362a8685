use Rattle.std.proofs.Common.{◌≡◌, ◌≢◌, [], ◌∷◌, Some, length}
use Rattle.sect_front.specs.{Syntax.{End}, Tokens.{block_tokens, declarations_tokens}}
use Rattle.sect_front.specs.steps.{Places.{after}, Passing.{ArePassed, IsAlike}}
use Rattle.sect_front.specs.{ItemSpans.{body_spans}, steps.Spanning.{with_spans}}
use Rattle.sect_front.specs.declared.expected.Expected.TheVariants as expected
use Rattle.sect_front.proofs.cursor.Cursor.body.Given as goal

abbrev pub invariant-read : goal.invariant-read
invariant-read l = record {
  are : ArePassed l.fn.self (declarations_tokens l.locals (block_tokens l.block [])) l.self;
  next : after (expected.StartOrLocal ∷ []) (declarations_tokens l.locals (block_tokens l.block []))
      ≡ Some (l.expected ∷ []);
  none : l.expected ≡ expected.StartOrLocal → l.block ≡ End;
  alike : l.expected ≢ expected.StartOrLocal → IsAlike l.expected expected.Start l.self;
  spans : l.spans ≡ with_spans l.fn.spans (body_spans l.fn.spans.total l.fn.self.here l.locals l.block);
}

abbrev pub decreases-read : goal.decreases-read
decreases-read l = length l.self.here
