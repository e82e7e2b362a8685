-- What the end of a section generates, for all that speaks of it as a list: the lock on all, or nothing.
use Rattle.std.proofs.Common.{◌≡◌, ℕ, subst, inl, inr}
use Rattle.std.specs.Prelude.{slice_index_or}
use Rattle.sect_front.specs.declared.tree.Locking.{Locking}
use Rattle.sect_lemmas.specs.Lists.{Has}
use Rattle.sect_names.specs.{declared.lock.Lock.{Lock}, Schemes.{SchemeView}, Needed.{end_locks, end_of}}
use Rattle.sect_names.specs.{Records.{IsNeedable}, Along.{ReadsBeginnings}, Locks.{IsLockOf}}
use Rattle.sect_front.specs.declared.tree.Locking.TheVariants as locking
use Rattle.sect_names.specs.declared.lock.Lock.TheVariants as lock

-- only the lock on all is generated there
pub only_all : (x : Locking) (l : Lock) → Has (end_locks x) l → lock.All ≡ l
only_all locking.Inferred l h = absurd h
only_all locking.All l (inl is) = is
only_all locking.All l (inr none) = absurd none

module _ (s : SchemeView) (t i : ℕ) where
  -- so it is a lock that the thread may come to need
  pub end_needable : (l : Lock) → Has (end_of s i) l → IsNeedable s t l
  end_needable l h = subst (IsNeedable s t) (only_all (slice_index_or s.program.lockings i locking.Inferred) l h) tt

-- and no path is needed there, so none has a beginning
pub end_reads : (s : SchemeView) (i : ℕ) → ReadsBeginnings s (Has (end_of s i))
end_reads s i p q f e h goes = let is =
    only_all (slice_index_or s.program.lockings i locking.Inferred) (lock.Path p e) h in absurd cc

-- what the end of a section generates is the lock on all, if anything
pub ended_lawful : (s : SchemeView) (t i : ℕ) (l : Lock) → Has (end_of s i) l → IsLockOf s t l
ended_lawful s t i l h =
    subst (IsLockOf s t) (only_all (slice_index_or s.program.lockings i locking.Inferred) l h) tt
