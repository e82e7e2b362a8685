use Rattle.std.proofs.{Common.{◌<◌, length, arith, subst}, lemmas.List.{take_all}}
use Rattle.sect_conflicts.specs.{Conflicts.{MayBeOne, paths_with}, Selecting.{Adds}}
use Rattle.sect_conflicts.specs.steps.Profiles.{AreSitesOfLock}
use Rattle.sect_conflicts.proofs.shared.Selecting.{adds_nothing}
use Rattle.sect_conflicts.proofs.PathPairs.{zipped_here, with_next}
use Rattle.sect_conflicts.proofs.pairs.add_pairs.Goals as goal

pub loop-place-init : goal.loop-place-init
loop-place-init c = λ s mine theirs. adds_nothing (MayBeOne s) c.args.found.now.items

pub loop-place-preserved : goal.loop-place-preserved
loop-place-preserved c = λ s mine theirs.
    let i = c.loop-place.place in
    let within : i < length c.args.others.now = omega arith in
    let here = zipped_here (AreSitesOfLock s) c.args.others.now c.args.other_sites.now theirs i
    c.index-others-place.result within c.index-others-place.is in
    with_next s c.args.lock.now c.args.others.now i c.index-others-place.result c.args.found.now.items
    c.loop-place.found.items c.add_pair.new.found.items within c.index-others-place.is
    (c.loop-place.invariant s mine theirs) (c.in_ok-add_pair.ensures s mine (here _))

pub returns : goal.returns
returns c = λ s mine theirs.
    subst (λ ls. Adds (MayBeOne s) (paths_with c.args.lock.now ls) c.args.found.now.items c.loop-place.found.items)
    (take_all c.loop-place.place c.args.others.now (omega arith)) (c.loop-place.invariant s mine theirs)
