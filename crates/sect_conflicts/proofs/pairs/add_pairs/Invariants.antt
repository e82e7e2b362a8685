use Rattle.std.proofs.Common.{take}
use Rattle.sect_names.specs.Schemes.{SchemeView}
use Rattle.sect_conflicts.specs.{Conflicts.{MayBeOne, paths_with}, Selecting.{Adds}}
use Rattle.sect_conflicts.specs.steps.Profiles.{AreSitesOfLock, AreSitesOfLocks}
use Rattle.sect_conflicts.proofs.pairs.add_pairs.Given as goal

abbrev pub invariant-loop-place : goal.invariant-loop-place
invariant-loop-place l = (s : SchemeView) → AreSitesOfLock s l.lock l.sites → AreSitesOfLocks s l.others l.other_sites
    → Adds (MayBeOne s) (paths_with l.lock (take l.place l.others)) l.initial.found.items l.found.items
