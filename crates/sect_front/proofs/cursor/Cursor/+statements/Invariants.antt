use Rattle.std.proofs.Common.{◌≡◌, ◌+◌, ◌*◌, [], ◌∷◌, Some, length}
use Rattle.sect_front.specs.{Tokens.{block_tokens}, steps.Places.{after}, steps.Passing.{ArePassed, IsAlike}}
use Rattle.sect_front.specs.{ItemSpans.{block_spans}, steps.Spanning.{with_spans}}
use Rattle.sect_front.specs.declared.expected.Expected.TheVariants as expected
use Rattle.sect_front.proofs.cursor.Cursor.+statements.Given as goal

abbrev pub decreases-statements : goal.decreases-statements
decreases-statements l = 3 * length l.self.now.here + 2

abbrev pub decreases-statement : goal.decreases-statement
decreases-statement l = 3 * length l.self.now.here + 1

abbrev pub decreases-block : goal.decreases-block
decreases-block l = 3 * length l.self.now.here + 2

abbrev pub decreases-branch : goal.decreases-branch
decreases-branch l = 3 * length l.self.now.here + 3

abbrev pub decreases-repeated : goal.decreases-repeated
decreases-repeated l = 3 * length l.self.now.here + 3

abbrev pub decreases-atomic : goal.decreases-atomic
decreases-atomic l = 3 * length l.self.now.here + 3

abbrev pub invariant-statements-read : goal.invariant-statements-read
invariant-statements-read l = record {
  are : ArePassed l.initial.self (block_tokens l.block []) l.self;
  next : after (expected.Start ∷ []) (block_tokens l.block []) ≡ Some (l.expected ∷ []);
  alike : IsAlike l.expected expected.Start l.self;
  spans : l.spans ≡ with_spans l.initial.spans (block_spans l.initial.spans.total l.initial.self.here l.block);
}

abbrev pub decreases-statements-read : goal.decreases-statements-read
decreases-statements-read l = length l.self.here
