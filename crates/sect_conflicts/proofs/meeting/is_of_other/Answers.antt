use Rattle.std.proofs.Common.{arith, refl, sym, ap, ◌∙◌}
use Rattle.sect_conflicts.specs.declared.profile.Profile.{Profile}
use Rattle.sect_conflicts.proofs.{Profiling.{profile_here}, OtherSections.{other_section}}
use Rattle.sect_conflicts.proofs.meeting.is_of_other.Goals as goal

pub returns : goal.returns
returns c =
    let p = c.args.others.now.compiled.now in
    let x = c.index-others-section.result in
    let mine = profile_here p c.args.others.now.profiles.now c.requires.profiles c.args.section x
    (omega (arith, c.requires.within, c.requires.profiles.0)) c.index-others-section.is in (
      λ t. other_section p c.args.others.now.thread c.args.section x mine
          (λ same. c.if-thread-others.false
          (sym (ap (λ (z : Profile). z.thread) c.index-others-section.is) ∙ same)) c.requires.within,
      λ m. refl,
    )
