use Rattle.std.proofs.{Common.{◌<◌, length, arith, subst}, lemmas.List.{take_all}}
use Rattle.sect_conflicts.specs.{Selecting.{Adds}, Taken.{IsPathMet}}
use Rattle.sect_conflicts.specs.steps.Profiles.{AreSitesOfLock}
use Rattle.sect_conflicts.proofs.shared.Selecting.{adds_nothing}
use Rattle.sect_conflicts.proofs.{PathPairs.{zipped_here}, OtherSections.{adds_next}}
use Rattle.sect_conflicts.proofs.taken.add_paths.Goals as goal

pub loop-place-init : goal.loop-place-init
loop-place-init c =
    adds_nothing (IsPathMet c.args.others.now.compiled.now c.args.others.now.thread) c.args.paths.now.items

pub add_path-requires-clause-sites : goal.add_path-requires-clause-sites
add_path-requires-clause-sites c =
    let locks = c.args.locks.now in
    let within : c.loop-place.place < length locks = omega arith in
    zipped_here (AreSitesOfLock c.args.others.now.compiled.now.scheme) locks c.args.sites.now c.requires.sites
    c.loop-place.place c.index-locks-place.result within c.index-locks-place.is _

pub loop-place-preserved : goal.loop-place-preserved
loop-place-preserved c =
    let locks = c.args.locks.now in
    let i = c.loop-place.place in
    let within : i < length locks = omega arith in
    adds_next (IsPathMet c.args.others.now.compiled.now c.args.others.now.thread) locks i c.index-locks-place.result
    c.args.paths.now.items c.loop-place.paths.items c.add_path.new.paths.items within c.index-locks-place.is
    c.loop-place.invariant c.in_ok-add_path.ensures

pub returns : goal.returns
returns c =
    subst (λ ls. Adds (IsPathMet c.args.others.now.compiled.now c.args.others.now.thread) ls c.args.paths.now.items
    c.loop-place.paths.items) (take_all c.loop-place.place c.args.locks.now (omega arith)) c.loop-place.invariant
