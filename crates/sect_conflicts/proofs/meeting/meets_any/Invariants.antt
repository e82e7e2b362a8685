use Rattle.std.proofs.Common.{take}
use Rattle.sect_lemmas.specs.Lists.{Has}
use Rattle.sect_names.specs.{Schemes.{SchemeView}, declared.lock.Lock.{Lock}}
use Rattle.sect_conflicts.specs.Taken.{MeetsLock}
use Rattle.sect_conflicts.specs.steps.Profiles.{AreSitesOfLock, AreSitesOfLocks}
use Rattle.sect_conflicts.proofs.meeting.meets_any.Given as goal

abbrev pub invariant-loop-place : goal.invariant-loop-place
invariant-loop-place l = (s : SchemeView) → AreSitesOfLock s l.lock l.sites → AreSitesOfLocks s l.others l.other_sites
    → (other : Lock) → Has (take l.place l.others) other → MeetsLock s l.lock other → ⊥
