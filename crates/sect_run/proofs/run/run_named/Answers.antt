-- The world that came out of the lock is of the program and the fuel that were handed in, and has been run to its end.
use Rattle.std.proofs.Common.{◌∙◌}
use Rattle.sect_run.proofs.Completing.{completed}
use Rattle.sect_run.proofs.run.run_named.Goals as goal

pub returns : goal.returns
returns g c =
    let same = c.in_ok-run_rest.ensures.same in
    let world = c.into_world-world.ensures.of in
    let rules = c.facts.ensures in
    let finish = c.finish.ensures in
    completed c.args.compiled.now c.args.fuel c.run_rest.new.world c.finish.result (same.0 ∙ world.0)
    (same.1 ∙ (world.1 ∙ c.requires.fuel)) finish.events finish.outcome rules.run rules.order
    (finish.serial c.in_ok-run_rest.ensures.ended)
