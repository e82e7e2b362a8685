use Rattle.std.proofs.Common.{◌≡◌, ◌*◌, ◌+◌, take}
use Rattle.sect_front.specs.Trees.{statement_of, block_of, statement_size, block_size}
use Rattle.sect_front.proofs.same.+same.Given as goal

abbrev pub decreases-same_statement : goal.decreases-same_statement
decreases-same_statement l = 2 * statement_size (statement_of l.left.now)

abbrev pub decreases-same_block : goal.decreases-same_block
decreases-same_block l = 2 * block_size l.left.now + 1

abbrev pub invariant-same_block-loop-place : goal.invariant-same_block-loop-place
invariant-same_block-loop-place l = block_of (take l.place l.ours) ≡ block_of (take l.place l.theirs)
