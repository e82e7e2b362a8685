-- What stands in the fields is what the run has come to.
use Rattle.std.proofs.Common.{◌++◌, map, ap, ◌∙◌, subst}
use Rattle.sect_types.specs.Whole.{SerialEndView, RunsWhole}
use Rattle.sect_emit.specs.Compiled.{program_of}
use Rattle.sect_world.specs.{declared.runner.Runner.{Runner}, Runs.{IsComplete}}
use Rattle.sect_world.specs.Worlds.{WorldView, AllEnded, outcome_at}
use Rattle.sect_world.proofs.Finishing.{runners_end, whole_at_end}
use Rattle.sect_world.proofs.world.World.finish.Goals as goal

pub returns-clause-serial : goal.returns-clause-serial
returns-clause-serial c =
    let world = c.self.invariant.0 in
    subst (λ (z : WorldView). AllEnded z.state → (e : SerialEndView) × IsComplete z.state e
    × RunsWhole (program_of z.compiled) z.fuel z.order e) c.self.view_is
    (whole_at_end _ _ _ _ _ world.compiled world.run world.ordered)

pub returns-clause-outcome : goal.returns-clause-outcome
returns-clause-outcome c =
    let w = c.self.inside in
    let world = c.self.invariant.0 in
    let ended = c.put_ends.ensures
    ∙ (ap (λ es. es ++ map (λ (r : Runner). r.ended) c.as_slice.result.now) c.self.invariant.2
    ∙ (ap (map (λ (r : Runner). r.ended)) c.as_slice.ensures.value
    ∙ runners_end w.compiled.now (program_of w.compiled.now).texts w.moment.runners.items w.moment.table.held
    world.as_many
    world.as_many_held)) in
    c.new.ensures ∙ (λ i. record {
      ends = ended i;
      order = w.moment.order.items;
      output = w.moment.output.items;
      store =
          w.moment.store;
    })
    ∙ ap (λ (z : WorldView). outcome_at z.state z.order) c.self.view_is
