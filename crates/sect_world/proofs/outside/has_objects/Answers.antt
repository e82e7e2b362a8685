use Rattle.std.proofs.Common.{sym, ◌∙◌}
use Rattle.sect_table.specs.Contents.{held_by}
use Rattle.sect_world.specs.Waiting.{grips}
use Rattle.sect_world.proofs.Wishing.{unmet_wish, met_wish}
use Rattle.sect_world.proofs.outside.has_objects.Goals as goal

pub returns-then-not-has_object : goal.returns-then-not-has_object
returns-then-not-has_object c =
    unmet_wish (grips (held_by c.args.table.now c.args.thread)) c.args.store.now c.args.work.now.locals c.args.locks.now
    c.loop-lock.lock-index c.lock-item.result c.loop-lock-test.true c.lock-item.is c.if-not-has_object.ensures
    ∙ sym c.loop-lock.invariant

pub loop-lock-preserved : goal.loop-lock-preserved
loop-lock-preserved c =
    c.loop-lock.invariant
    ∙ met_wish (grips (held_by c.args.table.now c.args.thread)) c.args.store.now c.args.work.now.locals c.args.locks.now
    c.loop-lock.lock-index c.lock-item.result c.loop-lock-test.true c.lock-item.is c.if-not-has_object.ensures
