use Rattle.std.proofs.Common.{◌≡◌, ◌+◌, ◌*◌}
use Rattle.sect_front.specs.Trees.{statement_of, block_of, statement_size, block_size}
use Rattle.sect_places.specs.steps.{Ending.{most_size}, Calls.{expands, expands_sections}}
use Rattle.sect_places.proofs.{Walked.{Walked}, Expanding.{total_items, all_origins, all_sections}}
use Rattle.sect_places.proofs.nodes.+walk.Given as goal

abbrev pub decreases-put_call : goal.decreases-put_call
decreases-put_call l = l.inside.now.most * most_size l.inside.now.procedures.now

abbrev pub decreases-put_statement : goal.decreases-put_statement
decreases-put_statement l =
    l.inside.now.most * most_size l.inside.now.procedures.now + 1 + 3 * statement_size (statement_of l.statement.now)

abbrev pub decreases-put_section : goal.decreases-put_section
decreases-put_section l =
    l.inside.now.most * most_size l.inside.now.procedures.now + 3 + 3 * block_size l.body.now

abbrev pub decreases-put_block : goal.decreases-put_block
decreases-put_block l =
    l.inside.now.most * most_size l.inside.now.procedures.now + 2 + 3 * block_size l.block.now

abbrev pub invariant-put_block-loop-statement : goal.invariant-put_block-loop-statement
invariant-put_block-loop-statement l =
    (block_of l.statement-items ≡ l.block)
    × Walked total_items (all_origins l.inside.procedures.now (expands l.inside) l.inside.call)
    l.statement-items l.statement-index l.item l.next l.fn.nodes.items l.nodes.items
    × Walked total_items
    (all_sections l.inside.procedures.now (expands l.inside) (expands_sections l.inside) l.inside.call)
    l.statement-items l.statement-index l.item l.next l.fn.sections.items l.sections.items
