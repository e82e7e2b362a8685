use Rattle.std.proofs.Common.{◌+◌, ◌*◌, drop}
use Rattle.sect_front.specs.Trees.{statement_of, block_of, statement_size, block_size}
use Rattle.sect_types.specs.steps.{Expanding.{most_size, IsFront}, Expansion.{view_of}}
use Rattle.sect_types.proofs.expansion.expand.+expand.Given as goal

abbrev pub decreases-expand_call : goal.decreases-expand_call
decreases-expand_call l = l.inside.now.most * most_size l.inside.now.setting.now.procedures

abbrev pub decreases-expand_statement : goal.decreases-expand_statement
decreases-expand_statement l =
    l.inside.now.most * most_size l.inside.now.setting.now.procedures + 1
    + 2 * statement_size (statement_of l.statement.now)

abbrev pub decreases-expand_block : goal.decreases-expand_block
decreases-expand_block l =
    l.inside.now.most * most_size l.inside.now.setting.now.procedures + 2 + 2 * block_size l.block.now

abbrev pub invariant-expand_block-loop-statement : goal.invariant-expand_block-loop-statement
invariant-expand_block-loop-statement l =
    IsFront l.inside.setting.now l.inside.most (view_of l.inside.scope.now l.inside.first) l.block
    (block_of l.statement-items) (block_of (drop l.statement-index l.statement-items)) l.fn.front l.front l.fn.out l.out
