use Rattle.std.proofs.Common.{◌≡◌, ◌+◌, ◌*◌}
use Rattle.sect_front.specs.Trees.{statement_of, block_of, statement_size, block_size}
use Rattle.sect_places.proofs.{Seeking.{Sought}, Lists.{total_of, all_of}}
use Rattle.sect_places.proofs.seek.+seek.Given as goal

abbrev pub decreases-seek_statement : goal.decreases-seek_statement
decreases-seek_statement l = 2 * statement_size (statement_of l.s.now)

abbrev pub decreases-seek_block : goal.decreases-seek_block
decreases-seek_block l = 2 * block_size l.b.now + 1

abbrev pub invariant-seek_block-loop-s : goal.invariant-seek_block-loop-s
invariant-seek_block-loop-s l =
    (block_of l.s-items ≡ l.b)
    × Sought total_of all_of l.s-items l.s-index l.fn.ahead.at l.here.at l.fn.ahead.items l.here.items
