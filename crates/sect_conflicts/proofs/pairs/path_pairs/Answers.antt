use Rattle.std.proofs.{Common.{◌<◌, [], length, take, arith, subst, sym}, lemmas.List.{take_all}}
use Rattle.sect_conflicts.specs.{Conflicts.{MayBeOne, Selects, paths_between}, Selecting.{Adds}}
use Rattle.sect_conflicts.specs.steps.Profiles.{AreSitesOfLock}
use Rattle.sect_conflicts.proofs.shared.Selecting.{adds_nothing, adds_all}
use Rattle.sect_conflicts.proofs.PathPairs.{zipped_here, between_next}
use Rattle.sect_conflicts.proofs.pairs.path_pairs.Goals as goal

pub loop-place-init : goal.loop-place-init
loop-place-init c = λ s mine theirs.
    subst (Adds (MayBeOne s) [] []) (sym c.new-found.ensures.items) (adds_nothing (MayBeOne s) [])

pub loop-place-preserved : goal.loop-place-preserved
loop-place-preserved c = λ s mine theirs.
    let i = c.loop-place.place in
    let within : i < length c.args.locks.now = omega arith in
    let here = zipped_here (AreSitesOfLock s) c.args.locks.now c.args.sites.now mine i
    c.index-locks-place.result within c.index-locks-place.is in
    between_next s c.args.locks.now c.args.others.now i c.index-locks-place.result [] c.loop-place.found.items
    c.add_pairs.new.found.items within c.index-locks-place.is (c.loop-place.invariant s mine theirs)
    (c.in_ok-add_pairs.ensures s (here _) theirs)

pub returns : goal.returns
returns c = λ s mine theirs.
    subst (λ ls. Selects (MayBeOne s) (paths_between ls c.args.others.now) c.loop-place.found.items)
    (take_all c.loop-place.place c.args.locks.now (omega arith))
    (adds_all (MayBeOne s) (paths_between (take c.loop-place.place c.args.locks.now) c.args.others.now)
    c.loop-place.found.items (c.loop-place.invariant s mine theirs))
