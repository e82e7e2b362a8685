use Rattle.std.proofs.Common.{◌+◌, ◌*◌, drop}
use Rattle.sect_front.specs.Trees.{statement_of, block_of, statement_size, block_size}
use Rattle.sect_types.specs.steps.Standing.{declared_by}
use Rattle.sect_types.proofs.Passing.{IsPassed}
use Rattle.sect_types.proofs.rules.walk.+walk.Given as goal

abbrev pub decreases-walk_statement : goal.decreases-walk_statement
decreases-walk_statement l = 2 * statement_size (statement_of l.statement.now)

abbrev pub decreases-walk_block : goal.decreases-walk_block
decreases-walk_block l = 2 * block_size l.block.now + 1

abbrev pub invariant-walk_block-loop-statement : goal.invariant-walk_block-loop-statement
invariant-walk_block-loop-statement l =
    IsPassed (declared_by l.scope l.standing.procedures) l.scope.locals l.standing.at l.block
    (block_of l.statement-items)
    (block_of (drop l.statement-index l.statement-items)) l.fn.spot l.spot
