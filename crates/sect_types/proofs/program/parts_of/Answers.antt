use Rattle.sect_types.proofs.FirstLemmas.{only_memory}
use Rattle.sect_types.proofs.program.parts_of.Goals as goal

pub returns-in_err-parts-clause-only : goal.returns-in_err-parts-clause-only
returns-in_err-parts-clause-only c =
    only_memory c.args.tree.now c.start-spot.result c.judge_tree.new.spot c.in_err-parts.field-0.0
    c.from_residual.result
    c.start-spot.ensures c.in_err-parts.ensures.walks c.from_residual.ensures.1
