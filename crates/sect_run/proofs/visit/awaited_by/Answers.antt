use Rattle.std.proofs.Common.{sym, ◌∙◌}
use Rattle.sect_run.proofs.Visiting.{awaiting_entered}
use Rattle.sect_run.proofs.visit.awaited_by.Goals as goal

pub section_of-section-requires : goal.section_of-section-requires
section_of-section-requires c =
    let kept = c.states_are_well_kept.ensures.kept _ c.facts.ensures.compiled in
    awaiting_entered _ _ (kept _ _ _ c.facts.ensures.run) c.args.thread c.in-Some.grip
    (sym c.first_wish.ensures ∙ c.in-Some.is)
