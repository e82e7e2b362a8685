-- What every table keeps. Cited by each call of `Table`, as `kept`.
use Rattle.std.specs.Prelude.{◌≡◌, ℕ, ◌+◌, ◌<◌, ◌≤◌, List, [], ◌∷◌, ◌++◌, length, None, Bool, true, false, ◌==◌}
use Rattle.sect_modes.specs.{declared.mode.Mode.{Mode}, declared.key.Key.{Key}, Mode.{are_compatible}}
use Rattle.sect_table.specs.{declared.claims.Claim.{Claim}, declared.claims.Hold.{Hold}}
use Rattle.sect_table.specs.Contents.{Entry, Contents, may_join, mode_in, mode_for, held_by, number_of, entry_of}
use Rattle.sect_table.specs.Contents.{AreApart}

-- this mode is compatible with each of these
abbrev pub SharesWith : Mode → List Claim → Type 0
SharesWith m [] = Unit {0}
SharesWith m (c ∷ cs) = (are_compatible m c.mode ≡ true) × SharesWith m cs

-- the modes are pairwise compatible
abbrev pub AreTogether : List Claim → Type 0
AreTogether [] = Unit {0}
AreTogether (h ∷ hs) = SharesWith h.mode hs × AreTogether hs

-- the first waiter finds a holder in its way
abbrev pub IsFirstBlocked : List Claim → List Claim → Type 0
IsFirstBlocked hs [] = Unit {0}
IsFirstBlocked hs (w ∷ ws) = may_join hs w.thread w.mode ≡ false

-- no key stands twice in a list of holds
abbrev pub AreKeysApart : List Hold → Type 0
AreKeysApart [] = Unit {0}
AreKeysApart (h ∷ hs) = (mode_in h.key hs ≡ None) × AreKeysApart hs

abbrev pub one_if : Bool → ℕ
one_if true = 1
one_if false = 0

-- how many of these claims a thread has
abbrev pub claims_by : ℕ → List Claim → ℕ
claims_by t [] = 0
claims_by t (c ∷ cs) = one_if (c.thread == t) + claims_by t cs

-- for how many keys a thread waits
abbrev pub waits_of : ℕ → List Entry → ℕ
waits_of t [] = 0
waits_of t (e ∷ es) = claims_by t e.waiters + waits_of t es

-- how many wait, over all keys
abbrev pub waiting_count : List Entry → ℕ
waiting_count [] = 0
waiting_count (e ∷ es) = length e.waiters + waiting_count es

abbrev pub AreThreadsBelow : ℕ → List Claim → Type 0
AreThreadsBelow n [] = Unit {0}
AreThreadsBelow n (c ∷ cs) = (c.thread < n) × AreThreadsBelow n cs

-- each waiter is one of the first n threads
abbrev pub AreWaitersBelow : ℕ → List Entry → Type 0
AreWaitersBelow n [] = Unit {0}
AreWaitersBelow n (e ∷ es) = AreThreadsBelow n e.waiters × AreWaitersBelow n es

-- no key has two entries
abbrev pub AreEntriesApart : List Entry → Type 0
AreEntriesApart [] = Unit {0}
AreEntriesApart (e ∷ es) = (number_of e.key es ≡ length es) × AreEntriesApart es

-- what holds at each moment of a call
pub record IsSound (c : Contents) : Type 0 where
  pub together : (k : Key) → AreTogether (entry_of k c.entries).holders
  -- no thread has two claims on one key
  pub apart : (k : Key) → AreApart ((entry_of k c.entries).holders ++ (entry_of k c.entries).waiters)
  -- the threads' lists and the keys' holders tell the same
  pub agree : (t : ℕ) (k : Key) → mode_in k (held_by c t) ≡ mode_for t (entry_of k c.entries).holders
  pub keys : (t : ℕ) → AreKeysApart (held_by c t)
  pub once : (t : ℕ) → waits_of t c.entries ≤ 1
  pub threads : AreWaitersBelow (length c.held) c.entries

-- what holds between calls: no key has two entries, the holders of a key are pairwise compatible, a thread waits for
-- one key at most, and no first waiter is compatible with all holders of its key
pub record IsKept (c : Contents) : Type 0 where
  pub apart : AreEntriesApart c.entries
  pub sound : IsSound c
  pub settled : (k : Key) → IsFirstBlocked (entry_of k c.entries).holders (entry_of k c.entries).waiters
