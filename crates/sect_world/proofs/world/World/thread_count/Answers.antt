-- A program has as many threads as texts.
use Rattle.std.proofs.Common.{length, sym, ap, ◌∙◌}
use Rattle.sect_types.specs.Programs.{ProgramView}
use Rattle.sect_world.proofs.KeptStates.{runs_are_well_kept}
use Rattle.sect_world.proofs.world.World.thread_count.Goals as goal

pub returns-clause-count : goal.returns-clause-count
returns-clause-count c =
    c.thread_count.ensures.count ∙ (ap (λ (p : ProgramView). length p.texts) c.program.ensures
    ∙ sym (runs_are_well_kept _ c.facts.ensures.compiled _ _ _ c.facts.ensures.run).as_many)
