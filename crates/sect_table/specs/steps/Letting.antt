-- A release on its way.
use Rattle.std.specs.Prelude.{◌≡◌, ℕ, ◌+◌, ◌<◌, ◌≤◌, List, ◌++◌, [], length, map, slice_set}
use Rattle.sect_modes.specs.declared.key.Key.{Key}
use Rattle.sect_table.specs.declared.claims.Grant.{Grant}
use Rattle.sect_table.specs.Contents.{Contents, number_of, entry_of, put, held_by, let_in, let_through, give_all}
use Rattle.sect_table.specs.Contents.{grant_of, release_each, released}
use Rattle.sect_table.specs.Sound.{IsSound, IsFirstBlocked, AreEntriesApart, waits_of, waiting_count}

-- what is still to be let in makes up what was to be let in at first
pub record Passes (k : Key) (old now : Contents) (grants0 grants : List Grant) : Type 0 where
  pub entries : put (let_in (entry_of k now.entries)) now.entries ≡ put (let_in (entry_of k old.entries)) old.entries
  pub given : give_all k (let_through (entry_of k now.entries).holders (entry_of k now.entries).waiters) now.held ≡
      give_all k (let_through (entry_of k old.entries).holders (entry_of k old.entries).waiters) old.held
  pub granted : grants ++
      map (grant_of k) (let_through (entry_of k now.entries).holders (entry_of k now.entries).waiters) ≡
      grants0 ++ map (grant_of k) (let_through (entry_of k old.entries).holders (entry_of k old.entries).waiters)

pub record LettingIn (k : Key) (at room : ℕ) (old now : Contents) (grants0 grants : List Grant) : Type 0 where
  pub sound : IsSound now
  pub number : at ≡ number_of k now.entries
  pub known : at < length now.entries
  pub passes : Passes k old now grants0 grants
  pub spare : now.spare ≡ old.spare
  pub fits : length grants + waiting_count now.entries ≤ room

-- what is still to be given back makes up what was to be given back at first
pub record Releasing (t room : ℕ) (old now : Contents) (grants : List Grant) : Type 0 where
  pub apart : AreEntriesApart now.entries
  pub sound : IsSound now
  pub settled : (k : Key) → IsFirstBlocked (entry_of k now.entries).holders (entry_of k now.entries).waiters
  pub passes : release_each t (held_by now t) (record {
    held = slice_set now.held t [];
    entries = now.entries;
    grants = grants;
  }) ≡ released t old
  pub idle : waits_of t now.entries ≡ 0
  pub count : length now.held ≡ length old.held
  pub spare : now.spare + length (held_by now t) ≡ old.spare + length (held_by old t)
  pub fits : length grants + waiting_count now.entries ≤ room
