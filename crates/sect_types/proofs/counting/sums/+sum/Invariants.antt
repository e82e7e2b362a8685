use Rattle.std.proofs.Common.{◌≡◌, ◌+◌, ◌*◌}
use Rattle.sect_front.specs.Trees.{statement_of, block_of, statement_size, block_size}
use Rattle.sect_types.proofs.Summing.{AreAdded}
use Rattle.sect_types.proofs.counting.sums.+sum.Given as goal

abbrev pub decreases-add_statement : goal.decreases-add_statement
decreases-add_statement l = 2 * statement_size (statement_of l.statement.now)

abbrev pub decreases-add_block : goal.decreases-add_block
decreases-add_block l = 2 * block_size l.block.now + 1

abbrev pub invariant-add_block-loop-statement : goal.invariant-add_block-loop-statement
invariant-add_block-loop-statement l =
    (block_of l.statement-items ≡ l.block)
    × AreAdded l.called l.statement-items l.depth l.fn.summary l.statement-index l.summary
