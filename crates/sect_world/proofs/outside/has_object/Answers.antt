use Rattle.std.proofs.Common.{ap, ◌∙◌}
use Rattle.sect_table.specs.Contents.{held_by}
use Rattle.sect_emit.specs.Plan.{meets}
use Rattle.sect_world.specs.Waiting.{grips}
use Rattle.sect_world.proofs.outside.has_object.Goals as goal

pub returns-in-None : goal.returns-in-None
returns-in-None c = ap (meets (grips (held_by c.args.table.now c.args.thread))) c.in-None.ensures

pub returns-in-Some : goal.returns-in-Some
returns-in-Some c = c.has.ensures ∙ ap (meets (grips (held_by c.args.table.now c.args.thread))) c.in-Some.ensures
