-- How a lock table agrees with a state of the machine.
use Rattle.std.specs.Prelude.{◌≡◌, ◌≤◌, ℕ, List, [], ◌∷◌, ◌++◌, length, map, drop}
use Rattle.sect_modes.specs.{declared.mode.Mode.{Mode}, declared.key.Key.{Key}}
use Rattle.sect_table.specs.{declared.claims.Hold.{Hold}, declared.claims.Grant.{Grant}}
use Rattle.sect_table.specs.Contents.{Entry, Contents, entry_of, put, mode_for, stay, held_by, let_in, let_through}
use Rattle.sect_table.specs.{Contents.{without_holder, give, grant_of, AreApart}, Sound.{waits_of}}
use Rattle.sect_world.specs.{declared.event.Event.{Event}, declared.event.Deed.TheVariants.{Take}, Events.{taking}}
use Rattle.sect_world.specs.Waiting.{grips, AllWaitersAsk}
use Rattle.sect_lemmas.specs.Lists.{changed_at}
use Rattle.sect_emit.specs.{Plan.{held_mode}, State.{ThreadState, State, IsThread}}

-- between turns: the threads hold what the table says, and who waits there wants that key first
pub record Fits (c : Contents) (s : State) : Type 0 where
  pub as_many : length c.held ≡ length s.threads
  pub held : (t : ℕ) (th : ThreadState) → IsThread s t th → th.held ≡ grips (held_by c t)
  pub waits : AllWaitersAsk s c.entries

-- while thread t, which holds nothing any more, is being taken out of these entries
pub record FitsBut (t : ℕ) (entries : List Entry) (s : State) : Type 0 where
  pub agree : (u : ℕ) (th : ThreadState) → IsThread s u th → (k : Key)
      → held_mode k th.held ≡ mode_for u (stay t (entry_of k entries).holders)
  pub waits : AllWaitersAsk s entries
  pub once : (u : ℕ) → waits_of u entries ≤ 1
  pub apart : (k : Key) → AreApart ((entry_of k entries).holders ++ (entry_of k entries).waiters)

-- thread g has come to hold what it wanted first
abbrev pub takes_first : Key → Mode → ThreadState → ThreadState
takes_first k m th = taking k m (drop 1 th.wanted) th

abbrev pub granted : Grant → State → State
granted g s = record {
  store = s.store;
  output = s.output;
  threads = changed_at g.thread (takes_first g.key g.mode) s.threads;
}

abbrev pub all_granted : List Grant → State → State
all_granted [] s = s
all_granted (g ∷ gs) s = all_granted gs (granted g s)

abbrev pub take_of : Grant → Event
take_of g = record { thread = g.thread; deed = Take g.key g.mode }

-- the `take` events of these grants
abbrev pub takes : List Grant → List Event
takes = map take_of

-- the holds after these grants
abbrev pub given_to : List Grant → List (List Hold) → List (List Hold)
given_to [] held = held
given_to (g ∷ gs) held = given_to gs (give g.thread g.key g.mode held)

-- the grants that the release of one key brings, and of these keys one after another
abbrev pub grants_at : ℕ → Key → List Entry → List Grant
grants_at t k es = let e = without_holder t (entry_of k es) in map (grant_of k) (let_through e.holders e.waiters)

abbrev pub entries_after : ℕ → Key → List Entry → List Entry
entries_after t k es = put (let_in (without_holder t (entry_of k es))) es

abbrev pub grants_of : ℕ → List Hold → List Entry → List Grant
grants_of t [] es = []
grants_of t (h ∷ hs) es = grants_at t h.key es ++ grants_of t hs (entries_after t h.key es)

abbrev pub entries_left : ℕ → List Hold → List Entry → List Entry
entries_left t [] es = es
entries_left t (h ∷ hs) es = entries_left t hs (entries_after t h.key es)
