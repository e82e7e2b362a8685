use Rattle.std.proofs.Common.{◌≡◌, ◌+◌, ◌*◌}
use Rattle.sect_front.specs.Trees.{statement_of, block_of, statement_size, block_size}
use Rattle.sect_places.specs.steps.Wanting.{behind}
use Rattle.sect_places.proofs.{Walked.{WalkedBy}, Expanding.{total_items}, Using.{all_uses}}
use Rattle.sect_places.proofs.uses.+uses.Given as goal

abbrev pub decreases-put_statement : goal.decreases-put_statement
decreases-put_statement l = 2 * statement_size (statement_of l.statement.now)

abbrev pub decreases-put_block : goal.decreases-put_block
decreases-put_block l = 2 * block_size l.block.now + 1

abbrev pub invariant-put_block-loop-statement : goal.invariant-put_block-loop-statement
invariant-put_block-loop-statement l =
    (block_of l.statement-items ≡ l.block)
    × WalkedBy behind total_items (all_uses l.scope) l.statement-items l.statement-index l.item l.next l.fn.out l.out
