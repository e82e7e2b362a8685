use Rattle.std.proofs.Common.{arith, [], ◌∷◌, ◌∙◌}
use Rattle.sect_table.specs.Contents.{held_by}
use Rattle.sect_world.proofs.{Meeting.{unmet, met_by}, Wishing.{and_true}}
use Rattle.sect_world.proofs.outside.has.Goals as goal

pub returns-in-None : goal.returns-in-None
returns-in-None c =
    unmet (held_by c.args.table.now c.args.thread) (c.args.grip ∷ []) 0 c.args.grip (omega arith) c.in-None.ensures.mode

pub returns-in-Some : goal.returns-in-Some
returns-in-Some c =
    and_true c.at_least.result
    ∙ met_by (held_by c.args.table.now c.args.thread) (c.args.grip ∷ []) 0 c.args.grip c.in-Some.mode c.at_least.result
    (omega arith) c.in-Some.ensures.mode c.at_least.ensures
