-- What a table holds, and what its calls make of it. Cited by each call of `Table`.
use Rattle.std.specs.Prelude.{◌≡◌, ℕ, suc, List, [], ◌∷◌, ◌++◌, length, map, filter, drop, Option, Some, None, is_some}
use Rattle.std.specs.Prelude.{find, Bool, false, not, ◌==◌, ◌||◌, ◌&&◌, slice_index_or, slice_set, replicate}
use Rattle.std.specs.{Prelude.{if◌then◌else◌}, List.{list_all, list_any}, Option.{option_map}}
use Rattle.sect_modes.specs.{declared.mode.Mode.{Mode}, declared.key.Key.{Key}, Mode.{are_compatible}}
use Rattle.sect_modes.specs.Key.{is_same_key}
use Rattle.sect_table.specs.{declared.claims.Hold.{Hold}, declared.claims.Claim.{Claim}, declared.claims.Grant.{Grant}}

-- a key, who holds it and who waits for it, each in the order in which they came
pub record Entry : Type 0 where
  pub key : Key
  pub holders : List Claim
  pub waiters : List Claim

-- for each thread what it holds, in the order in which it came to hold it; the keys in the order in which they were
-- first asked for; and the number of free nodes
pub record Contents : Type 0 where
  pub held : List (List Hold)
  pub entries : List Entry
  pub spare : ℕ

abbrev pub no_entry : Key → Entry
no_entry k = record { key = k; holders = []; waiters = [] }

abbrev pub number_of : Key → List Entry → ℕ
number_of k [] = 0
number_of k (e ∷ es) = if is_same_key k e.key then 0 else suc (number_of k es)

abbrev pub entry_of : Key → List Entry → Entry
entry_of k es = slice_index_or es (number_of k es) (no_entry k)

-- the entry takes the place of the one with its key, or comes last
abbrev pub put : Entry → List Entry → List Entry
put e [] = e ∷ []
put e (f ∷ es) = if is_same_key e.key f.key then e ∷ es else f ∷ put e es

abbrev pub held_by : Contents → ℕ → List Hold
held_by c t = slice_index_or c.held t []

-- the mode in which a list of holds has a key
abbrev pub mode_in : Key → List Hold → Option Mode
mode_in k hs = option_map (λ h. h.mode) (find (λ h. is_same_key h.key k) hs)

-- the mode in which a list of claims has a thread
abbrev pub mode_for : ℕ → List Claim → Option Mode
mode_for t cs = option_map (λ c. c.mode) (find (λ c. c.thread == t) cs)

-- each other thread's mode is compatible
abbrev pub may_join : List Claim → ℕ → Mode → Bool
may_join hs t m = list_all (λ h. (h.thread == t) || are_compatible h.mode m) hs

abbrev pub is_among : ℕ → List Claim → Bool
is_among t = list_any (λ c. c.thread == t)

abbrev pub is_waiting : ℕ → Contents → Bool
is_waiting t c = list_any (λ e. is_among t e.waiters) c.entries

abbrev pub holds : ℕ → Key → Contents → Bool
holds t k c = is_some (mode_in k (held_by c t))

abbrev pub first_of : List Claim → Option Claim
first_of [] = None
first_of (w ∷ ws) = Some w

abbrev pub first_hold : List Hold → Option Hold
first_hold [] = None
first_hold (h ∷ hs) = Some h

abbrev pub hold_of : Key → Mode → Hold
hold_of k m = record { key = k; mode = m }

abbrev pub claim_of : ℕ → Mode → Claim
claim_of t m = record { thread = t; mode = m }

abbrev pub grant_of : Key → Claim → Grant
grant_of k c = record { thread = c.thread; key = k; mode = c.mode }

-- thread `t` comes to hold a key
abbrev pub give : ℕ → Key → Mode → List (List Hold) → List (List Hold)
give t k m held = slice_set held t (slice_index_or held t [] ++ hold_of k m ∷ [])

-- the key is free for the thread: nobody waits, and no other thread's mode is in its way
abbrev pub is_free : ℕ → Key → Mode → Contents → Bool
is_free t k m c = let e = entry_of k c.entries in not (is_some (first_of e.waiters)) && may_join e.holders t m

abbrev pub with_holder : Claim → Entry → Entry
with_holder c e = record { key = e.key; holders = e.holders ++ c ∷ []; waiters = e.waiters }

abbrev pub with_waiter : Claim → Entry → Entry
with_waiter c e = record { key = e.key; holders = e.holders; waiters = e.waiters ++ c ∷ [] }

-- the first waiter comes to hold the key
abbrev pub with_grant : Claim → Entry → Entry
with_grant c e = record { key = e.key; holders = e.holders ++ c ∷ []; waiters = drop 1 e.waiters }

-- those that are let through from the front, beside these holders
abbrev pub let_through : List Claim → List Claim → List Claim
let_through hs [] = []
let_through hs (w ∷ ws) = if may_join hs w.thread w.mode then w ∷ let_through (hs ++ w ∷ []) ws else []

-- the first waiters come to hold the key, as far as the holders let them
abbrev pub let_in : Entry → Entry
let_in e = let g = let_through e.holders e.waiters in
    record { key = e.key; holders = e.holders ++ g; waiters = drop (length g) e.waiters }

-- no thread has two of these claims
abbrev pub AreApart : List Claim → Type 0
AreApart [] = Unit {0}
AreApart (c ∷ cs) = (is_among c.thread cs ≡ false) × AreApart cs

-- the claims of the other threads
abbrev pub stay : ℕ → List Claim → List Claim
stay t = filter (λ h. not (h.thread == t))

abbrev pub without_holder : ℕ → Entry → Entry
without_holder t e = record { key = e.key; holders = stay t e.holders; waiters = e.waiters }

abbrev pub give_all : Key → List Claim → List (List Hold) → List (List Hold)
give_all k [] held = held
give_all k (g ∷ gs) held = give_all k gs (give g.thread k g.mode held)

-- what a release has come to: what is held, who holds and waits, and the grants so far
pub record Released : Type 0 where
  pub held : List (List Hold)
  pub entries : List Entry
  pub grants : List Grant

-- thread `t` gives one key back, and who waits for it is let in
abbrev pub release_key : ℕ → Key → Released → Released
release_key t k r = let e = without_holder t (entry_of k r.entries) in let g = let_through e.holders e.waiters in
    record {
      held = give_all k g r.held;
      entries = put (let_in e) r.entries;
      grants = r.grants ++ map (grant_of k) g;
    }

abbrev pub release_each : ℕ → List Hold → Released → Released
release_each t [] r = r
release_each t (h ∷ hs) r = release_each t hs (release_key t h.key r)

-- thread `t`'s list is emptied, and its keys are given back in the order of the list
abbrev pub released : ℕ → Contents → Released
released t c = release_each t (held_by c t) (record { held = slice_set c.held t []; entries = c.entries; grants = [] })

-- nobody holds or waits, and no key was asked for
pub record IsEmptyFor (threads : ℕ) (c : Contents) : Type 0 where
  pub held : c.held ≡ replicate threads []
  pub entries : c.entries ≡ []
  pub spare : c.spare ≡ 0
