use Rattle.std.proofs.Common.{◌≡◌, length}
use Rattle.sect_run.proofs.run.unparkers_of.Given as goal

abbrev pub invariant-loop-post : goal.invariant-loop-post
invariant-loop-post g l = length l.unparkers.items ≡ l.post-index
