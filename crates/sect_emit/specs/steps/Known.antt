-- Locks that were named before.
use Rattle.std.specs.Prelude.{◌≡◌, ℕ, List, Option, Some, length, slice_get}
use Rattle.sect_front.specs.TreeView.{TreeView}
use Rattle.sect_names.specs.{declared.link.Link.{Link}, declared.lock.Lock.{Lock}}
use Rattle.sect_infer.specs.Numberings.{lock_at}
use Rattle.sect_cert.specs.{declared.lock.CertLock.{CertLock}, Texts.{IsLock}}
use Rattle.sect_emit.specs.Words.{lock_words}

-- there is a place for each lock, and where one is named there, so it is by its names
pub record AreKnown (t : TreeView) (keys : List Lock) (named : List (Option CertLock)) : Type 0 where
  pub count : length named ≡ length keys
  pub each : (n : ℕ) (c : CertLock) → slice_get named n ≡ Some (Some c)
      → (c ≡ lock_words t (lock_at keys n)) × IsLock c

-- the first step's lock is so by its names
abbrev pub IsFirstNamed : TreeView → CertLock → List Link → Type 0
IsFirstNamed t c links = (a : Link) → slice_get links 0 ≡ Some a → c ≡ lock_words t a.lock
