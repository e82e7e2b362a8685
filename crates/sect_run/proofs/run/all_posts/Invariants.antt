use Rattle.std.proofs.Common.{◌≡◌, length}
use Rattle.sect_run.proofs.run.all_posts.Given as goal

abbrev pub invariant-loop-thread : goal.invariant-loop-thread
invariant-loop-thread g l = length l.posts.items ≡ l.thread
