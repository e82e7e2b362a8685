-- The thread is there, and those whom its turn lets in are threads of the program.
use Rattle.std.proofs.Common.{length, sym, subst, arith}
use Rattle.sect_world.specs.Worlds.{IsRefused}
use Rattle.sect_run.specs.steps.Shares.{AreBelow, threads_in}
use Rattle.sect_run.proofs.Threads.{let_in_there}
use Rattle.sect_run.proofs.turn.turn_of.Goals as goal

pub unreachable-requires : goal.unreachable-requires
unreachable-requires c =
    let kept = c.states_are_well_kept.ensures.kept _ c.facts.ensures.compiled in
    let many = (kept _ _ _ c.facts.ensures.run).as_many in
    let e = c.in-Err-NoSuchThread in
    let count = length c.args.world.now.state.threads in
    let refused = subst (λ fault. IsRefused fault c.args.thread count) e.field-0-is e.ensures.refused in
    omega (arith, many, refused.1, c.requires)

pub returns-in-Ok-clause-granted : goal.returns-in-Ok-clause-granted
returns-in-Ok-clause-granted c =
    let turned = c.in-Ok.ensures.ok in
    subst (AreBelow (threads_in c.args.world.now.compiled)) (sym turned.granted)
    (let_in_there _ (c.states_are_well_kept.ensures.kept _ c.facts.ensures.compiled) _ _ _ c.facts.ensures.run _ _ _ _
    turned.does)
