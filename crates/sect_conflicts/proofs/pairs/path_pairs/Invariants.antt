use Rattle.std.proofs.Common.{take, []}
use Rattle.sect_names.specs.Schemes.{SchemeView}
use Rattle.sect_conflicts.specs.{Conflicts.{MayBeOne, paths_between}, Selecting.{Adds}}
use Rattle.sect_conflicts.specs.steps.Profiles.{AreSitesOfLocks}
use Rattle.sect_conflicts.proofs.pairs.path_pairs.Given as goal

abbrev pub invariant-loop-place : goal.invariant-loop-place
invariant-loop-place l = (s : SchemeView) → AreSitesOfLocks s l.locks l.sites → AreSitesOfLocks s l.others l.other_sites
    → Adds (MayBeOne s) (paths_between (take l.place l.locks) l.others) [] l.found.items
