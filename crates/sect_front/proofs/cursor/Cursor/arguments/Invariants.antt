use Rattle.std.proofs.Common.{◌≢◌, [], length}
use Rattle.sect_front.specs.{Tokens.{operands_tokens}, steps.Passing.{ArePassed}}
use Rattle.sect_front.proofs.cursor.Cursor.arguments.Given as goal

abbrev pub invariant-more : goal.invariant-more
invariant-more l = record {
  are : ArePassed l.fn.self (operands_tokens l.values []) l.self;
  some : l.values ≢ [];
}

abbrev pub decreases-more : goal.decreases-more
decreases-more l = length l.self.here
