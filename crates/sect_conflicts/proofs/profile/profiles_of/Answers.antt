use Rattle.std.proofs.Common.{◌+◌, sym, subst}
use Rattle.sect_conflicts.specs.steps.Profiles.{AreFirstProfiles}
use Rattle.sect_conflicts.proofs.Profiling.{profiles_more}
use Rattle.sect_conflicts.proofs.profile.profiles_of.Goals as goal

pub loop-section-preserved : goal.loop-section-preserved
loop-section-preserved c =
    let p = c.args.compiled.now in
    let i = c.loop-section.section in
    subst (AreFirstProfiles p (i + 1)) (sym c.in_ok-push.ensures.items)
    (profiles_more p i c.loop-section.profiles.items c.in_ok-profile_of.field-0 c.loop-section.invariant
    c.in_ok-profile_of.ensures)
