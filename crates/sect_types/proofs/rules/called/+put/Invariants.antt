use Rattle.std.proofs.Common.{◌≡◌, ◌++◌, ◌+◌, ◌*◌, List, ℕ, drop}
use Rattle.sect_types.specs.Sums.{block_calls}
use Rattle.sect_front.specs.Trees.{statement_of, block_of, statement_size, block_size}
use Rattle.sect_types.proofs.rules.called.+put.Given as goal

abbrev pub decreases-put_statement : goal.decreases-put_statement
decreases-put_statement l = 2 * statement_size (statement_of l.statement.now)

abbrev pub decreases-put_block : goal.decreases-put_block
decreases-put_block l = 2 * block_size l.block.now + 1

abbrev pub invariant-put_block-loop-statement : goal.invariant-put_block-loop-statement
invariant-put_block-loop-statement l =
    (block_of l.statement-items ≡ l.block) × ((w : List ℕ)
    → l.out.items ++ block_calls l.procedures (block_of (drop l.statement-index l.statement-items)) w
    ≡ l.fn.out.items ++ block_calls l.procedures l.block w)
