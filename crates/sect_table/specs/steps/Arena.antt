-- How an arena of nodes shows a table.
use Rattle.std.specs.Prelude.{◌≡◌, ◌⊎◌, ℕ, zero, suc, ◌+◌, ◌<◌, ◌^◌, List, [], ◌∷◌, ◌++◌, map, length, slice_index_or}
use Rattle.std.specs.Prelude.{slice_set}
use Rattle.sect_modes.specs.{declared.mode.Mode.TheVariants.{Exclusive}, declared.key.Key.{Key}}
use Rattle.sect_modes.specs.declared.key.Key.TheVariants.{Class}
use Rattle.sect_table.specs.{declared.claims.Hold.{Hold}, declared.claims.Claim.{Claim}, declared.claims.Grant.{Grant}}
use Rattle.sect_table.specs.Contents.{Entry, Contents, hold_of, claim_of}
use Rattle.sect_table.specs.steps.{Keys.{place_in}, Links.{Shape, list_at, label_at, ArePlaced}}

abbrev pub no_node : Grant
no_node = record { thread = 0; key = Class 0; mode = Exclusive }

abbrev pub node_at : List Grant → ℕ → Grant
node_at nodes i = slice_index_or nodes i no_node

abbrev pub claims : List Grant → List ℕ → List Claim
claims nodes = map (λ i. claim_of (node_at nodes i).thread (node_at nodes i).mode)

abbrev pub holds_at : List Grant → List ℕ → List Hold
holds_at nodes = map (λ i. hold_of (node_at nodes i).key (node_at nodes i).mode)

-- the claims in list l
abbrev pub queue_at : List Grant → List (List ℕ) → ℕ → List Claim
queue_at nodes lists l = claims nodes (list_at lists l)

-- the holds in list l
abbrev pub chain_at : List Grant → List (List ℕ) → ℕ → List Hold
chain_at nodes lists l = holds_at nodes (list_at lists l)

-- list 2k + 1 has the holders of key k, and list 2k + 2 its waiters
abbrev pub entry_at : (ℕ → List Claim) → Key → ℕ → Entry
entry_at queue key k = record { key = key; holders = queue (k + k + 1); waiters = queue (k + k + 2) }

abbrev pub entries_from : (ℕ → List Claim) → ℕ → List Key → List Entry
entries_from queue k [] = []
entries_from queue k (key ∷ keys) = entry_at queue key k ∷ entries_from queue (suc k) keys

-- list 2t + 1 has what thread t holds
abbrev pub held_from : (ℕ → List Hold) → ℕ → ℕ → List (List Hold)
held_from chain t zero = []
held_from chain t (suc n) = chain (t + t + 1) ∷ held_from chain (suc t) n

abbrev pub shown : List Grant → List Key → ℕ → Shape → Shape → Contents
shown nodes keys threads q c = record {
  held = held_from (chain_at nodes c.lists) 0 threads;
  entries = entries_from (queue_at nodes q.lists) 0 keys;
  spare = length (list_at q.lists 0);
}

-- a node that holds a key or waits for it: among the key's holders and in its thread's list 2t + 1, or among the key's
-- waiters and in its thread's list 2t + 2
pub record IsUsed (nodes : List Grant) (keys : List Key) (threads l m i : ℕ) : Type 0 where
  pub known : place_in (node_at nodes i).key keys < length keys
  pub thread : (node_at nodes i).thread < threads
  pub place : let k = place_in (node_at nodes i).key keys in let t = (node_at nodes i).thread in ((l ≡ k + k + 1) ×
      (m ≡ t + t + 1)) ⊎ ((l ≡ k + k + 2) × (m ≡ t + t + 2))

-- a node in these two lists: list 0 of each has the free nodes
abbrev pub HasRole : List Grant → List Key → ℕ → ℕ → ℕ → ℕ → Type 0
HasRole nodes keys threads l m i = ((l ≡ 0) × (m ≡ 0)) ⊎ IsUsed nodes keys threads l m i

pub record IsArena (nodes : List Grant) (keys : List Key) (threads : ℕ) (q c : Shape) : Type 0 where
  pub sizes : length nodes ≡ q.size
  pub chained : c.size ≡ q.size
  pub queues : length q.lists ≡ length keys + length keys + 1
  pub few : length q.lists < 2 ^ 60
  pub chains : length c.lists ≡ threads + threads + 1
  pub in_queues : ArePlaced q
  pub in_chains : ArePlaced c
  pub roles : (i : ℕ) → i < q.size → HasRole nodes keys threads (label_at q i) (label_at c i) i

-- the same lists, with other room
pub record SameLists (s s' : Shape) : Type 0 where
  pub size : s'.size ≡ s.size
  pub labels : s'.labels ≡ s.labels
  pub lists : s'.lists ≡ s.lists
  pub placed : ArePlaced s'

-- one more number, which is at the end of list 0
pub record NumberAdded (s s' : Shape) : Type 0 where
  pub size : s'.size ≡ s.size + 1
  pub labels : s'.labels ≡ s.labels ++ 0 ∷ []
  pub lists : s'.lists ≡ slice_set s.lists 0 (list_at s.lists 0 ++ s.size ∷ [])
  pub placed : ArePlaced s'
