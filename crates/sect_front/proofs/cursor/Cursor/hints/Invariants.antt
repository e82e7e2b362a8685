use Rattle.std.proofs.Common.{[], length}
use Rattle.sect_front.specs.{Tokens.{hints_tokens}, steps.Passing.{ArePassed}}
use Rattle.sect_front.proofs.cursor.Cursor.hints.Given as goal

abbrev pub invariant-more : goal.invariant-more
invariant-more l = ArePassed l.fn.self (hints_tokens l.hints []) l.self

abbrev pub decreases-more : goal.decreases-more
decreases-more l = length l.self.here
