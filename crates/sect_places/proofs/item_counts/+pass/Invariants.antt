use Rattle.std.proofs.Common.{◌≡◌, ◌+◌, ◌*◌, drop}
use Rattle.sect_front.specs.Trees.{statement_of, block_of, statement_size, block_size}
use Rattle.sect_places.specs.ItemCounts.{items_in_block}
use Rattle.sect_places.proofs.item_counts.+pass.Given as goal

abbrev pub decreases-past_statement : goal.decreases-past_statement
decreases-past_statement l = 2 * statement_size (statement_of l.statement.now)

abbrev pub decreases-past_block : goal.decreases-past_block
decreases-past_block l = 2 * block_size l.block.now + 1

abbrev pub invariant-past_block-loop-statement : goal.invariant-past_block-loop-statement
invariant-past_block-loop-statement l =
    (block_of l.statement-items ≡ l.block)
    × (l.next + items_in_block (block_of (drop l.statement-index l.statement-items))
    ≡ l.item + items_in_block (block_of l.statement-items))
