use Rattle.std.proofs.{Common.{◌≡◌, ◌∙◌, arith, sym, ap, subst, true≢false}, lemmas.Slice.Zip.{AllZip-long}}
use Rattle.sect_conflicts.specs.{declared.profile.Profile.{Profile}, Taken.{MeetsAny}}
use Rattle.sect_conflicts.specs.steps.Profiles.{AreSitesOfLock}
use Rattle.sect_conflicts.proofs.Profiling.{given_at, profile_here, sites_of_set}
use Rattle.sect_conflicts.proofs.meeting.is_path_met_by.Goals as goal

pub returns-then-not-is_of_other : goal.returns-then-not-is_of_other
returns-then-not-is_of_other c = (
  λ t. absurd (true≢false (sym t)),
  λ m. absurd (true≢false (sym (c.is_of_other.ensures.1 m.0) ∙ c.if-not-is_of_other.true)),
)

pub meets_any-requires : goal.meets_any-requires
meets_any-requires c =
    let p = c.args.others.now.compiled.now in
    let x = c.index-others-section.result in
    let mine = profile_here p c.args.others.now.profiles.now c.requires.profiles c.args.section x
    (omega (arith, c.requires.within, c.requires.profiles.0)) c.index-others-section.is in
    sym (AllZip-long (AreSitesOfLock p.scheme) c.set-locks.result.now c.as_slice-other_sites.result.now
    (sites_of_set p c.args.section x mine c.set-locks.result.now c.set-locks.ensures c.as_slice-other_sites.result.now
    (c.as_slice-other_sites.ensures.value ∙ sym (ap (λ (z : Profile). z.sites.items) c.index-others-section.is))))

pub returns : goal.returns
returns c =
    let p = c.args.others.now.compiled.now in
    let x = c.index-others-section.result in
    let mine = profile_here p c.args.others.now.profiles.now c.requires.profiles c.args.section x
    (omega (arith, c.requires.within, c.requires.profiles.0)) c.index-others-section.is in
    let theirs = sites_of_set p c.args.section x mine c.set-locks.result.now c.set-locks.ensures
    c.as_slice-other_sites.result.now
    (c.as_slice-other_sites.ensures.value ∙ sym (ap (λ (z : Profile). z.sites.items) c.index-others-section.is)) in
    let meets = c.meets_any.ensures p.scheme c.requires.sites theirs in
    let here = given_at p.sets c.args.section c.set-locks.result.now c.set-locks.ensures in (
      λ t. (
        c.is_of_other.ensures.0 c.if-not-is_of_other.false,
        subst (MeetsAny p.scheme c.args.lock.now) (sym here) (meets.0 t),
      ),
      λ m. meets.1 (subst (MeetsAny p.scheme c.args.lock.now) here m.1),
    )
