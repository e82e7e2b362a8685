use Rattle.std.proofs.Common.{arith, length, ap}
use Rattle.sect_warnings.proofs.class_mark.paths_before.Goals as goal

pub overflow_cast-node : goal.overflow_cast-node
overflow_cast-node c =
    let many = ap length c.section_flow-flow.ensures in
    omega (arith, c.requires.node, many, c.exit-facts.ensures.number, c.exit-facts.type_inv)
