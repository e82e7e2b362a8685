use Rattle.std.proofs.Common.{◌≡◌, [], ◌∷◌, Some, length}
use Rattle.sect_front.specs.{Tokens.{source_tokens}, steps.Places.{after}, steps.Passing.{ArePassed}}
use Rattle.sect_front.specs.{ItemSpans.{source_spans}, steps.{Declaring.{FitsPart}, Spanning.{with_spans}}}
use Rattle.sect_front.specs.declared.expected.Expected.TheVariants as expected
use Rattle.sect_front.proofs.cursor.Cursor.program.Given as goal

abbrev pub invariant-read : goal.invariant-read
invariant-read l = record {
  are : ArePassed l.fn.self (source_tokens l.source []) l.self;
  next : after (expected.Records ∷ []) (source_tokens l.source []) ≡ Some (l.part ∷ []);
  fits : FitsPart l.part l.source;
  spans : l.spans ≡ with_spans l.fn.spans (source_spans l.fn.spans.total l.fn.self.here l.source);
}

abbrev pub decreases-read : goal.decreases-read
decreases-read l = length l.self.here
