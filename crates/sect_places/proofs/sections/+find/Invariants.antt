use Rattle.std.proofs.Common.{◌≡◌, ℕ, ◌+◌, ◌*◌, ◌++◌, List, drop}
use Rattle.sect_front.specs.Trees.{statement_of, block_of, statement_size, block_size}
use Rattle.sect_places.specs.{ItemCounts.{items_in_block}, SectionItems.{block_section_items}}
use Rattle.sect_places.proofs.sections.+find.Given as goal

abbrev pub decreases-put_statement : goal.decreases-put_statement
decreases-put_statement l = 2 * statement_size (statement_of l.statement.now)

abbrev pub decreases-put_block : goal.decreases-put_block
decreases-put_block l = 2 * block_size l.block.now + 1

abbrev pub invariant-put_block-loop-statement : goal.invariant-put_block-loop-statement
invariant-put_block-loop-statement l =
    (block_of l.statement-items ≡ l.block)
    × (l.next + items_in_block (block_of (drop l.statement-index l.statement-items))
    ≡ l.item + items_in_block (block_of l.statement-items))
    × ((w : List ℕ) → l.found.items
    ++ block_section_items l.next (block_of (drop l.statement-index l.statement-items)) w ≡ l.fn.found.items
    ++ block_section_items l.item l.block w)
