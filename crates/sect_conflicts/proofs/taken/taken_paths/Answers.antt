use Rattle.std.proofs.{Common.{◌≡◌, ◌∙◌, arith, subst, sym, ap}, lemmas.Slice.Zip.{AllZip-long}}
use Rattle.sect_conflicts.specs.{declared.profile.Profile.{Profile}, Conflicts.{Selects}, Selecting.{Adds}}
use Rattle.sect_conflicts.specs.Taken.{IsPathMet}
use Rattle.sect_conflicts.specs.steps.Profiles.{AreSitesOfLock}
use Rattle.sect_conflicts.proofs.shared.Selecting.{adds_all}
use Rattle.sect_conflicts.proofs.Profiling.{given_at, profile_here, sites_of_set}
use Rattle.sect_conflicts.proofs.taken.taken_paths.Goals as goal

pub set-locks-requires : goal.set-locks-requires
set-locks-requires c = omega (arith, c.requires.within, c.facts.ensures.compiled.set_count)

pub add_paths-requires-clause-each : goal.add_paths-requires-clause-each
add_paths-requires-clause-each c =
    let p = c.args.others.now.compiled.now in
    let x = c.index-others-section.result in
    let mine = profile_here p c.args.others.now.profiles.now c.requires.profiles c.args.section x
    (omega (arith, c.requires.within, c.requires.profiles.0)) c.index-others-section.is in
    sym (AllZip-long (AreSitesOfLock p.scheme) c.set-locks.result.now c.as_slice-sites.result.now
    (sites_of_set p c.args.section x mine c.set-locks.result.now c.set-locks.ensures c.as_slice-sites.result.now
    (c.as_slice-sites.ensures.value ∙ sym (ap (λ (z : Profile). z.sites.items) c.index-others-section.is))))

pub add_paths-requires-clause-sites : goal.add_paths-requires-clause-sites
add_paths-requires-clause-sites c =
    let p = c.args.others.now.compiled.now in
    let x = c.index-others-section.result in
    let mine = profile_here p c.args.others.now.profiles.now c.requires.profiles c.args.section x
    (omega (arith, c.requires.within, c.requires.profiles.0)) c.index-others-section.is in
    sites_of_set p c.args.section x mine c.set-locks.result.now c.set-locks.ensures c.as_slice-sites.result.now
    (c.as_slice-sites.ensures.value ∙ sym (ap (λ (z : Profile). z.sites.items) c.index-others-section.is))

pub returns : goal.returns
returns c =
    let met = IsPathMet c.args.others.now.compiled.now c.args.others.now.thread in
    let locks = c.set-locks.result.now in
    let new = c.add_paths.new.paths.items in
    subst (λ xs. Selects met xs new)
    (sym (given_at c.args.others.now.compiled.now.sets c.args.section locks c.set-locks.ensures))
    (adds_all met locks new
    (subst (λ xs. Adds met locks xs new) c.new-paths.ensures.items c.in_ok-add_paths.ensures))
