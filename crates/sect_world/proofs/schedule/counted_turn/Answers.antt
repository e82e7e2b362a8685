-- The trace has grown by the events of the turn.
use Rattle.std.proofs.Common.{◌<◌, length, ap, ◌∙◌, subst, arith, length-append}
use Rattle.sect_world.specs.Worlds.{IsRefused}
use Rattle.sect_world.proofs.KeptStates.{runs_are_well_kept}
use Rattle.sect_world.proofs.schedule.counted_turn.Goals as goal

pub returns-in-Ok-clause-counted : goal.returns-in-Ok-clause-counted
returns-in-Ok-clause-counted c =
    let turned = c.in-Ok.ensures.ok in
    let before = c.len-before.ensures ∙ ap length c.trace.ensures in
    let after = c.len.ensures ∙ (ap length c.trace-in-Ok.ensures
    ∙ (ap length turned.trace ∙ length-append c.args.world.now.trace turned.events)) in
    record { what = c.in-Ok.field-0; turned = turned; count = omega (arith, before, after) }

pub returns-in-Ok-clause-within : goal.returns-in-Ok-clause-within
returns-in-Ok-clause-within c =
    let many = (runs_are_well_kept _ c.facts.ensures.compiled _ _ _ c.facts.ensures.run).as_many in
    subst (λ n. c.args.thread < n) many c.in-Ok.ensures.there

pub returns-in-Err-clause-refused : goal.returns-in-Err-clause-refused
returns-in-Err-clause-refused c =
    let many = (runs_are_well_kept _ c.facts.ensures.compiled _ _ _ c.facts.ensures.run).as_many in
    subst (IsRefused c.in-Err.fault c.args.thread) many c.in-Err.ensures.refused
