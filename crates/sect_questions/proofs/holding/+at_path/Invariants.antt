use Rattle.std.proofs.Common.{length}
use Rattle.sect_questions.proofs.holding.+at_path.Given as goal

abbrev pub decreases-at_path : goal.decreases-at_path
decreases-at_path l = length l.fields.now
