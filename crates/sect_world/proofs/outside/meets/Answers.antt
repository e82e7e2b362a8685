use Rattle.std.proofs.Common.{sym, ◌∙◌}
use Rattle.sect_table.specs.Contents.{held_by}
use Rattle.sect_world.proofs.Meeting.{unmet, met_by}
use Rattle.sect_world.proofs.outside.meets.Goals as goal

pub returns-in-None : goal.returns-in-None
returns-in-None c =
    unmet (held_by c.args.table.now c.args.thread) c.args.plan.now c.loop-grip.grip-index _ c.loop-grip-test.true
    c.in-None.ensures.mode ∙ sym c.loop-grip.invariant

pub returns-then-not-at_least : goal.returns-then-not-at_least
returns-then-not-at_least c =
    met_by (held_by c.args.table.now c.args.thread) c.args.plan.now c.loop-grip.grip-index _ c.in-Some.mode _
    c.loop-grip-test.true c.in-Some.ensures.mode c.if-not-at_least.ensures
    ∙ sym c.loop-grip.invariant

pub loop-grip-preserved : goal.loop-grip-preserved
loop-grip-preserved c =
    c.loop-grip.invariant
    ∙ sym (met_by (held_by c.args.table.now c.args.thread) c.args.plan.now c.loop-grip.grip-index _ c.in-Some.mode _
    c.loop-grip-test.true c.in-Some.ensures.mode c.if-not-at_least.ensures)
