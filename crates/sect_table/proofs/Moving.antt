-- What a move of one node makes of the table that an arena shows.
use Rattle.std.proofs.Common.{◌≡◌, ◌≢◌, ◌⊎◌, inl, inr, ℕ, ◌+◌, ◌<◌, List, [], ◌∷◌, ◌++◌, length, map, drop, get_or, set}
use Rattle.std.proofs.Common.{Bool, true, false, not, None, Some, refl, sym, ◌∙◌, ap, subst, arith, get_or-set_same}
use Rattle.std.proofs.{Common.{get_or-set_other, length-append}, lemmas.Bool.{cases_eq, cases_lt, eq-eqb}}
use Rattle.std.proofs.lemmas.List.{length-set, get_or_past, map_push}
use Rattle.std.specs.Prelude.{◌==◌, ◌||◌, if◌then◌else◌}
use Rattle.sect_modes.specs.declared.key.Key.{Key}
use Rattle.sect_table.specs.{declared.claims.Hold.{Hold}, declared.claims.Claim.{Claim}, declared.claims.Grant.{Grant}}
use Rattle.sect_table.specs.Contents.{Entry, Contents, number_of, entry_of, first_of, put, is_among, AreApart, stay}
use Rattle.sect_table.specs.Contents.{give, hold_of, claim_of, with_holder, with_waiter, with_grant, without_holder}
use Rattle.sect_table.specs.steps.Keys.{place_in}
use Rattle.sect_table.specs.steps.Links.{Shape, head_or, list_at, label_at, Among, AreDistinct, IsAbsent, ArePlaced}
use Rattle.sect_table.specs.steps.Links.{without, Goes}
use Rattle.sect_table.specs.steps.Arena.{node_at, no_node, claims, holds_at, queue_at, chain_at, entry_at, entries_from}
use Rattle.sect_table.specs.steps.Arena.{held_from, shown, HasRole, IsArena}
use Rattle.sect_table.proofs.{Runs.{each_map, without-same, without-other, without_absent}, Whole.{length-without}}
use Rattle.sect_table.proofs.Shown.{seen, entries-put, entries-kept, held-set, held-kept, queues-seen, chain-seen}
use Rattle.sect_table.proofs.Shown.{one_place, uncons}
use Rattle.sect_table.proofs.Roles.{arena_moved, labelled_first, WaitsFor, waiter_role, HoldsBy, holding_role}
use Rattle.sect_table.proofs.Roles.{free_role}
use Rattle.sect_table.proofs.shared.Claiming.{stay-missing}

-- a number goes from one list to the end of another one
pub record Moved (q q' : List (List ℕ)) (x from to : ℕ) : Type 0 where
  pub there : Among x (list_at q from)
  pub left : list_at q' from ≡ without x (list_at q from)
  pub came : list_at q' to ≡ list_at q to ++ x ∷ []
  pub others : (l : ℕ) → l ≢ from → l ≢ to → list_at q' l ≡ list_at q l

pub moved_lists : (s s' : Shape) (x from to : ℕ) → ArePlaced s → Goes s s' x to → x < s.size → label_at s x ≡ from
    → to < length s.lists → from ≢ to → Moved s.lists s'.lists x from to
moved_lists s s' x from to p g lt label within apart =
    let q = s.lists in
    let was : (from < length q) × Among x (list_at q from) =
    subst (λ l. (l < length q) × Among x (list_at q l)) label (p.there x lt) in
    let y : List ℕ = without x (list_at q from) in
    let n : length (set q from y) ≡ length q = length-set q from y in
    let base : map (without x) q ≡ set q from y = g.places from was.0 was.1 in
    let at_to : list_at (set q from y) to ≡ list_at q to = get_or-set_other q from to y [] (λ e. apart (sym e)) in
    let now : s'.lists ≡ set (set q from y) to (list_at q to ++ x ∷ []) =
    g.lists ∙ (ap (λ z. set z to (list_at z to ++ x ∷ [])) base
    ∙ ap (λ z. set (set q from y) to (z ++ x ∷ [])) at_to) in
    record {
      there = was.1;
      left = ap (λ z. list_at z from) now
          ∙ (get_or-set_other (set q from y) to from (list_at q to ++ x ∷ []) [] apart
          ∙ get_or-set_same q from y [] was.0);
      came = ap (λ z. list_at z to) now ∙ get_or-set_same (set q from y) to (list_at q to ++ x ∷ []) [] (omega arith);
      others = λ l not_from not_to. ap (λ z. list_at z l) now
          ∙ (get_or-set_other (set q from y) to l (list_at q to ++ x ∷ []) [] not_to
          ∙ get_or-set_other q from l y [] not_from);
    }

-- the first of a list goes
pub without_first : (x : ℕ) (xs rest : List ℕ) → xs ≡ x ∷ rest → AreDistinct xs → without x xs ≡ rest
without_first x xs rest is d = let d' : AreDistinct (x ∷ rest) = subst AreDistinct is d in
    ap (without x) is ∙ (without-same x rest ∙ without_absent x rest d'.0)

-- one call's outcome
pub record Shows (nodes : List Grant) (keys : List Key) (threads : ℕ) (q c : Shape) (held : List (List Hold))
    (entries : List Entry) : Type 0 where
  pub arena : IsArena nodes keys threads q c
  pub held_is : held_from (chain_at nodes c.lists) 0 threads ≡ held
  pub entries_are : entries_from (queue_at nodes q.lists) 0 keys ≡ entries

-- a free node's request is written
claims_kept : (nodes : List Grant) (x : ℕ) (r : Grant) (xs : List ℕ) → IsAbsent x xs
    → claims (set nodes x r) xs ≡ claims nodes xs
claims_kept nodes x r [] e = refl
claims_kept nodes x r (y ∷ ys) e =
    ap (λ (z : Grant). claim_of z.thread z.mode ∷ claims (set nodes x r) ys) (get_or-set_other nodes x y r no_node e.0)
    ∙ ap (λ z. claim_of (node_at nodes y).thread (node_at nodes y).mode ∷ z) (claims_kept nodes x r ys e.1)

holds_kept : (nodes : List Grant) (x : ℕ) (r : Grant) (xs : List ℕ) → IsAbsent x xs
    → holds_at (set nodes x r) xs ≡ holds_at nodes xs
holds_kept nodes x r [] e = refl
holds_kept nodes x r (y ∷ ys) e =
    ap (λ (z : Grant). hold_of z.key z.mode ∷ holds_at (set nodes x r) ys) (get_or-set_other nodes x y r no_node e.0)
    ∙ ap (λ z. hold_of (node_at nodes y).key (node_at nodes y).mode ∷ z) (holds_kept nodes x r ys e.1)

-- a node is in no list but its own
absent_other : (s : Shape) (x l : ℕ) → ArePlaced s → label_at s x ≢ l → IsAbsent x (list_at s.lists l)
absent_other s x l p ne = elim (cases_lt l (length s.lists)) [
  | inl lt ↦ each_map (λ i. (i < s.size) × (label_at s i ≡ l)) (λ i. i ≢ x)
      (λ i h e. ne (ap (label_at s) (sym e) ∙ h.1)) (list_at s.lists l) (p.labelled l lt)
  | inr le ↦ subst (IsAbsent x) (sym (get_or_past s.lists l [] le)) tt
]

pub filled : (nodes : List Grant) (keys : List Key) (threads : ℕ) (q c : Shape) (now : Contents) (x : ℕ) (r : Grant)
    → IsArena nodes keys threads q c → shown nodes keys threads q c ≡ now → x < q.size → label_at q x ≡ 0
    → IsArena (set nodes x r) keys threads q c × (shown (set nodes x r) keys threads q c ≡ now)
filled nodes keys threads q c now x r a is lt label =
    let label_c : label_at c x ≡ 0 = free_role nodes keys threads q c x a lt label in
    let held : held_from (chain_at (set nodes x r) c.lists) 0 threads ≡ held_from (chain_at nodes c.lists) 0 threads
    = held-kept (chain_at nodes c.lists) (chain_at (set nodes x r) c.lists) 0 threads
    (λ j le. holds_kept nodes x r (list_at c.lists (j + j + 1))
    (absent_other c x (j + j + 1) a.in_chains (λ e. absurd (omega arith)))) in
    let entries : entries_from (queue_at (set nodes x r) q.lists) 0 keys ≡ entries_from (queue_at nodes q.lists) 0 keys
    = entries-kept (queue_at nodes q.lists) (queue_at (set nodes x r) q.lists) 0 keys
    (λ j le. (
      claims_kept nodes x r (list_at q.lists (j + j + 1))
          (absent_other q x (j + j + 1) a.in_queues (λ e. absurd (omega arith))),
      claims_kept nodes x r (list_at q.lists (j + j + 2))
          (absent_other q x (j + j + 2) a.in_queues (λ e. absurd (omega arith))),
    )) in (
      record {
        sizes = length-set nodes x r ∙ a.sizes;
        chained = a.chained;
        queues = a.queues;
        few = a.few;
        chains = a.chains;
        in_queues = a.in_queues;
        in_chains = a.in_chains;
        roles = λ i below. elim (cases_eq i x) [
          | inl same ↦ inl (ap (label_at q) same ∙ label, ap (label_at c) same ∙ label_c)
          | inr ne ↦ role_kept i (sym (get_or-set_other nodes x i r no_node ne)) (a.roles i below)
        ];
      },
      ap (λ z. record {
        held = z;
        entries = entries_from (queue_at (set nodes x r) q.lists) 0 keys;
        spare =
            length (list_at q.lists 0);
      }) held
          ∙ (ap (λ z. record {
            held = held_from (chain_at nodes c.lists) 0 threads;
            entries = z;
            spare =
                length (list_at q.lists 0);
          }) entries ∙ is),
    )
  where
    role_kept : (i : ℕ) → node_at nodes i ≡ node_at (set nodes x r) i
        → HasRole nodes keys threads (label_at q i) (label_at c i) i
        → HasRole (set nodes x r) keys threads (label_at q i) (label_at c i) i
    role_kept i e (inl free) = inl free
    role_kept i e (inr used) = inr (record {
      known = subst (λ (z : Grant). place_in z.key keys < length keys) e used.known;
      thread = subst (λ (z : Grant). z.thread < threads) e used.thread;
      place = subst (λ (z : Grant). let k = place_in z.key keys in let t = z.thread in
          ((label_at q i ≡ k + k + 1) × (label_at c i ≡ t + t + 1))
          ⊎ ((label_at q i ≡ k + k + 2) × (label_at c i ≡ t + t + 2))) e used.place;
    })

-- what a list shows at whose end a node came
claims_came : (nodes : List Grant) (q q' : List (List ℕ)) (x from to : ℕ) (r : Claim) → Moved q q' x from to
    → claim_of (node_at nodes x).thread (node_at nodes x).mode ≡ r
    → queue_at nodes q' to ≡ queue_at nodes q to ++ r ∷ []
claims_came nodes q q' x from to r mq is = ap (claims nodes) mq.came
    ∙ (map_push (λ i. claim_of (node_at nodes i).thread (node_at nodes i).mode) (list_at q to) x
    ∙ ap (λ z. queue_at nodes q to ++ z ∷ []) is)

holds_came : (nodes : List Grant) (c c' : List (List ℕ)) (x from to : ℕ) (r : Hold) → Moved c c' x from to
    → hold_of (node_at nodes x).key (node_at nodes x).mode ≡ r
    → chain_at nodes c' to ≡ chain_at nodes c to ++ r ∷ []
holds_came nodes c c' x from to r mc is = ap (holds_at nodes) mc.came
    ∙ (map_push (λ i. hold_of (node_at nodes i).key (node_at nodes i).mode) (list_at c to) x
    ∙ ap (λ z. chain_at nodes c to ++ z ∷ []) is)

-- only the lists of place `at` and the free nodes change
abbrev ChangesAt : ℕ → List (List ℕ) → List (List ℕ) → Type 0
ChangesAt at q q' = (l : ℕ) → l ≢ 0 → l ≢ at + at + 1 → l ≢ at + at + 2 → list_at q' l ≡ list_at q l

-- one key's entry changes
entries_changed : (nodes : List Grant) (keys : List Key) (threads : ℕ) (q c q' : Shape) (now : Contents) (key : Key)
    (at : ℕ) (change : Entry → Entry)
    → IsArena nodes keys threads q c → shown nodes keys threads q c ≡ now → at ≡ number_of key now.entries
    → at < length now.entries → ChangesAt at q.lists q'.lists
    → (let new = change (entry_at (queue_at nodes q.lists) key at) in
    (new.key ≡ key) × (queue_at nodes q'.lists (at + at + 1) ≡ new.holders)
    × (queue_at nodes q'.lists (at + at + 2) ≡ new.waiters))
    → entries_from (queue_at nodes q'.lists) 0 keys ≡ put (change (entry_of key now.entries)) now.entries
entries_changed nodes keys threads q c q' now key at change a is number known others parts =
    let s = seen nodes keys threads q c now a is in
    let nk = s.keys_are in
    let place : place_in key keys ≡ number_of key now.entries = s.numbers key in
    let was : Entry = change (entry_at (queue_at nodes q.lists) key at) in
    let waiting : List Claim = queue_at nodes q'.lists (at + at + 2) in
    let new : entry_at (queue_at nodes q'.lists) key at ≡ change (entry_of key now.entries)
    = ap (λ z. entry_at (queue_at nodes q'.lists) z at) (sym parts.0)
    ∙ (ap (λ z. record { key = was.key; holders = z; waiters = waiting }) parts.1
    ∙ (ap (λ z. record { key = was.key; holders = was.holders; waiters = z }) parts.2
    ∙ sym (ap change (queues-seen nodes keys threads q c now key at a is number known)))) in
    entries-put (queue_at nodes q.lists) (queue_at nodes q'.lists) 0 key keys at (omega arith) (omega arith)
    (λ j ne. (
      ap (claims nodes) (others (j + j + 1) (λ e. absurd (omega arith)) (λ e. absurd (omega arith))
          (λ e. absurd (omega arith))),
      ap (claims nodes) (others (j + j + 2) (λ e. absurd (omega arith)) (λ e. absurd (omega arith))
          (λ e. absurd (omega arith))),
    ))
    ∙ (ap (λ z. put z (entries_from (queue_at nodes q.lists) 0 keys)) new
    ∙ ap (λ (z : Contents). put (change (entry_of key now.entries)) z.entries) is)

-- one thread's list of holds changes
held_changed : (nodes : List Grant) (keys : List Key) (threads : ℕ) (q c c' : Shape) (now : Contents) (t : ℕ)
    (list : List Hold)
    → IsArena nodes keys threads q c → shown nodes keys threads q c ≡ now → t < length now.held
    → ChangesAt t c.lists c'.lists → chain_at nodes c'.lists (t + t + 1) ≡ list
    → held_from (chain_at nodes c'.lists) 0 threads ≡ set now.held t list
held_changed nodes keys threads q c c' now t list a is lt others new =
    let s = seen nodes keys threads q c now a is in
    let nt = s.threads_are in
    held-set (chain_at nodes c.lists) (chain_at nodes c'.lists) 0 threads t t (omega arith) (omega arith)
    (λ j ne. ap (holds_at nodes) (others (j + j + 1) (λ e. absurd (omega arith)) (λ e. absurd (omega arith))
    (λ e. absurd (omega arith))))
    ∙ (ap (set (held_from (chain_at nodes c.lists) 0 threads) t) new ∙ ap (λ (z : Contents). set z.held t list) is)

-- the first free node has a request written into it, and goes to a list of its key and to one of its thread: to the
-- first of the two if d is 1, to the second if d is 2
record Added (nodes : List Grant) (keys : List Key) (threads : ℕ) (q c q' c' : Shape) (now : Contents) (r : Grant)
    (at x d : ℕ) : Type 0 where
  pub was : IsArena nodes keys threads q c
  pub showed : shown nodes keys threads q c ≡ now
  pub arena : IsArena nodes keys threads q' c'
  pub node : node_at nodes x ≡ r
  pub queues : Moved q.lists q'.lists x 0 (at + at + d)
  pub chains : Moved c.lists c'.lists x 0 (r.thread + r.thread + d)
  pub came : queue_at nodes q'.lists (at + at + d)
      ≡ queue_at nodes q.lists (at + at + d) ++ claim_of r.thread r.mode ∷ []
  pub spare : length (list_at q'.lists 0) + 1 ≡ now.spare

added : (nodes : List Grant) (keys : List Key) (threads : ℕ) (q c q' c' : Shape) (now : Contents) (r : Grant)
    (at x d : ℕ)
    → (d ≡ 1) ⊎ (d ≡ 2) → IsArena nodes keys threads q c → shown nodes keys threads q c ≡ now
    → r.thread < length now.held → at ≡ number_of r.key now.entries → at < length now.entries
    → head_or (list_at q.lists 0) None ≡ Some x → Goes q q' x (at + at + d) → Goes c c' x (r.thread + r.thread + d)
    → Added (set nodes x r) keys threads q c q' c' now r at x d
added nodes keys threads q c q' c' now r at x d which a is lt number known first gq gc =
    let s = seen nodes keys threads q c now a is in
    let nq = s.queues in
    let nc = s.chains in
    let nk = s.keys_are in
    let nt = s.threads_are in
    let found = uncons (list_at q.lists 0) x first in
    let here = labelled_first q 0 x found.0 a.in_queues (omega arith) found.1 in
    let in_q : x < q.size = here.0 in
    let both : c.size ≡ q.size = a.chained in
    let sizes : length nodes ≡ q.size = a.sizes in
    let label_c : label_at c x ≡ 0 = free_role nodes keys threads q c x a here.0 here.1 in
    let f = filled nodes keys threads q c now x r a is here.0 here.1 in
    let node : node_at (set nodes x r) x ≡ r = get_or-set_same nodes x r no_node (omega arith) in
    let node_thread : (node_at (set nodes x r) x).thread ≡ r.thread = ap (λ (z : Grant). z.thread) node in
    let own_place : place_in (node_at (set nodes x r) x).key keys ≡ at = ap (λ (z : Grant). place_in z.key keys) node
    ∙ (s.numbers r.key ∙ sym number) in
    let few : (0 < d) × (d < 3) =
    elim which [ inl one ↦ (omega arith, omega arith) | inr two ↦ (omega arith, omega arith) ] in
    let mq : Moved q.lists q'.lists x 0 (at + at + d) =
    moved_lists q q' x 0 (at + at + d) a.in_queues gq in_q here.1 (omega arith) (λ e. absurd (omega arith)) in
    let mc : Moved c.lists c'.lists x 0 (r.thread + r.thread + d) =
    moved_lists c c' x 0 (r.thread + r.thread + d) a.in_chains gc (omega arith) label_c (omega arith)
    (λ e. absurd (omega arith)) in
    record {
      was = f.0;
      showed = f.1;
      arena = arena_moved (set nodes x r) keys threads q c q' c' x (at + at + d) (r.thread + r.thread + d) f.0 in_q
          gq.size gc.size gq.count gc.count gq.placed gc.placed gq.labels gc.labels
          (inr (record {
            known = omega arith;
            thread = omega arith;
            place = elim which [ inl one ↦ inl (omega arith, omega arith) | inr two ↦ inr (omega arith, omega arith) ];
          }));
      node = node;
      queues = mq;
      chains = mc;
      came = claims_came (set nodes x r) q.lists q'.lists x 0 (at + at + d) (claim_of r.thread r.mode) mq
          (ap (λ (z : Grant). claim_of z.thread z.mode) node);
      spare =
          let fewer : length (without x (list_at q.lists 0)) + 1 ≡ length (list_at q.lists 0) =
          length-without x (list_at q.lists 0) (a.in_queues.distinct 0 (omega arith)) mq.there in
          ap (λ z. length z + 1) mq.left ∙ (fewer ∙ ap (λ (z : Contents). z.spare) is);
    }

-- a free node comes to hold a key
pub holder_added : (nodes : List Grant) (keys : List Key) (threads : ℕ) (q c q' c' : Shape) (now : Contents) (r : Grant)
    (at x : ℕ)
    → IsArena nodes keys threads q c → shown nodes keys threads q c ≡ now → r.thread < length now.held
    → at ≡ number_of r.key now.entries → at < length now.entries
    → head_or (list_at q.lists 0) None ≡ Some x → Goes q q' x (at + at + 1) → Goes c c' x (r.thread + r.thread + 1)
    → Shows (set nodes x r) keys threads q' c' (give r.thread r.key r.mode now.held)
    (put (with_holder (claim_of r.thread r.mode) (entry_of r.key now.entries)) now.entries)
    × (length (list_at q'.lists 0) + 1 ≡ now.spare)
holder_added nodes keys threads q c q' c' now r at x a is lt number known first gq gc =
    let n : List Grant = set nodes x r in
    let b = added nodes keys threads q c q' c' now r at x 1 (inl refl) a is lt number known first gq gc in
    let list : chain_at n c'.lists (r.thread + r.thread + 1) ≡ get_or now.held r.thread [] ++ hold_of r.key r.mode ∷ []
    = holds_came n c.lists c'.lists x 0 (r.thread + r.thread + 1) (hold_of r.key r.mode) b.chains
    (ap (λ (z : Grant). hold_of z.key z.mode) b.node)
    ∙ ap (λ z. z ++ hold_of r.key r.mode ∷ []) (sym (chain-seen n keys threads q c now r.thread b.was b.showed lt)) in (
      record {
        arena = b.arena;
        held_is = held_changed n keys threads q c c' now r.thread
            (get_or now.held r.thread [] ++ hold_of r.key r.mode ∷ []) b.was b.showed lt
            (λ l free first second. b.chains.others l free first) list;
        entries_are = entries_changed n keys threads q c q' now r.key at (with_holder (claim_of r.thread r.mode)) b.was
            b.showed number known (λ l free first second. b.queues.others l free first) (
              refl,
              b.came,
              ap (claims n) (b.queues.others (at + at + 2) (λ e. absurd (omega arith))
                  (λ e. absurd (omega arith))),
            );
      },
      b.spare,
    )

-- a free node comes to wait for a key
pub waiter_added : (nodes : List Grant) (keys : List Key) (threads : ℕ) (q c q' c' : Shape) (now : Contents) (r : Grant)
    (at x : ℕ)
    → IsArena nodes keys threads q c → shown nodes keys threads q c ≡ now → r.thread < length now.held
    → at ≡ number_of r.key now.entries → at < length now.entries
    → head_or (list_at q.lists 0) None ≡ Some x → Goes q q' x (at + at + 2) → Goes c c' x (r.thread + r.thread + 2)
    → Shows (set nodes x r) keys threads q' c' now.held
    (put (with_waiter (claim_of r.thread r.mode) (entry_of r.key now.entries)) now.entries)
    × (length (list_at q'.lists 0) + 1 ≡ now.spare)
waiter_added nodes keys threads q c q' c' now r at x a is lt number known first gq gc =
    let n : List Grant = set nodes x r in
    let b = added nodes keys threads q c q' c' now r at x 2 (inr refl) a is lt number known first gq gc in (
      record {
        arena = b.arena;
        held_is = held-kept (chain_at n c.lists) (chain_at n c'.lists) 0 threads
            (λ j le. ap (holds_at n) (b.chains.others (j + j + 1) (λ e. absurd (omega arith))
            (λ e. absurd (omega arith))))
            ∙ ap (λ (z : Contents). z.held) b.showed;
        entries_are = entries_changed n keys threads q c q' now r.key at (with_waiter (claim_of r.thread r.mode)) b.was
            b.showed number known (λ l free first second. b.queues.others l free second) (
              refl,
              ap (claims n) (b.queues.others (at + at + 1) (λ e. absurd (omega arith))
                  (λ e. absurd (omega arith))),
              b.came,
            );
      },
      b.spare,
    )

-- who waits first for a key
pub record Waiter (nodes : List Grant) (c : Shape) (now : Contents) (k : Key) (r : Grant) : Type 0 where
  pub key : r.key ≡ k
  pub thread : r.thread < length now.held
  pub list : r.thread + r.thread + 1 < length c.lists
  pub first : first_of (entry_of k now.entries).waiters ≡ Some (claim_of r.thread r.mode)

-- the node of who waits first for the key with this number
record FirstNode (nodes : List Grant) (keys : List Key) (threads : ℕ) (q c : Shape) (r : Grant) (at x : ℕ) : Type 0
  where
    pub rest : List ℕ
    pub first : list_at q.lists (at + at + 2) ≡ x ∷ rest
    pub below : x < q.size
    pub label : label_at q x ≡ at + at + 2
    pub node : node_at nodes x ≡ r
    pub role : WaitsFor nodes keys threads c at x

first_node : (nodes : List Grant) (keys : List Key) (threads : ℕ) (q c : Shape) (now : Contents) (at x : ℕ) (r : Grant)
    → IsArena nodes keys threads q c → shown nodes keys threads q c ≡ now → at < length now.entries
    → head_or (list_at q.lists (at + at + 2)) None ≡ Some x → (x < length nodes → r ≡ node_at nodes x)
    → FirstNode nodes keys threads q c r at x
first_node nodes keys threads q c now at x r a is known first read =
    let s = seen nodes keys threads q c now a is in
    let nq = s.queues in
    let sizes : length nodes ≡ q.size = a.sizes in
    let found = uncons (list_at q.lists (at + at + 2)) x first in
    let here = labelled_first q (at + at + 2) x found.0 a.in_queues (omega arith) found.1 in
    let below : x < q.size = here.0 in
    record {
      rest = found.0;
      first = found.1;
      below = below;
      label = here.1;
      node = sym (read (omega arith));
      role = waiter_role nodes keys threads q c at x a below here.1;
    }

pub first_waiting : (nodes : List Grant) (keys : List Key) (threads : ℕ) (q c : Shape) (now : Contents) (key : Key)
    (at x : ℕ) (r : Grant)
    → IsArena nodes keys threads q c → shown nodes keys threads q c ≡ now → at ≡ number_of key now.entries
    → at < length now.entries
    → head_or (list_at q.lists (at + at + 2)) None ≡ Some x → (x < length nodes → r ≡ node_at nodes x)
    → Waiter nodes c now key r
first_waiting nodes keys threads q c now key at x r a is number known first read =
    let s = seen nodes keys threads q c now a is in
    let nc = s.chains in
    let nk = s.keys_are in
    let nt = s.threads_are in
    let f = first_node nodes keys threads q c now at x r a is known first read in
    let role = f.role in
    let place : place_in key keys ≡ number_of key now.entries = s.numbers key in
    let own_place : place_in (node_at nodes x).key keys ≡ at = role.key in
    let node_key : (node_at nodes x).key ≡ key = one_place (node_at nodes x).key key keys (omega arith) (omega arith) in
    let below : r.thread < threads = subst (λ (z : Grant). z.thread < threads) f.node role.thread in
    record {
      key = ap (λ (z : Grant). z.key) (sym f.node) ∙ node_key;
      thread = omega arith;
      list = omega arith;
      first = ap (λ (e : Entry). first_of e.waiters) (queues-seen nodes keys threads q c now key at a is number known)
          ∙ (ap (λ z. first_of (claims nodes z)) f.first
          ∙ ap (λ (z : Grant). Some (claim_of z.thread z.mode)) f.node);
    }

-- the first waiter comes to hold its key
pub first_granted : (nodes : List Grant) (keys : List Key) (threads : ℕ) (q c q' c' : Shape) (now : Contents)
    (key : Key) (at x : ℕ) (r : Grant)
    → IsArena nodes keys threads q c → shown nodes keys threads q c ≡ now → at ≡ number_of key now.entries
    → at < length now.entries
    → head_or (list_at q.lists (at + at + 2)) None ≡ Some x → (x < length nodes → r ≡ node_at nodes x)
    → Goes q q' x (at + at + 1) → Goes c c' x (r.thread + r.thread + 1)
    → Shows nodes keys threads q' c' (give r.thread key r.mode now.held)
    (put (with_grant (claim_of r.thread r.mode) (entry_of key now.entries)) now.entries)
    × (length (list_at q'.lists 0) ≡ now.spare)
first_granted nodes keys threads q c q' c' now key at x r a is number known first read gq gc =
    let s = seen nodes keys threads q c now a is in
    let nq = s.queues in
    let nc = s.chains in
    let nk = s.keys_are in
    let nt = s.threads_are in
    let f = first_node nodes keys threads q c now at x r a is known first read in
    let w = first_waiting nodes keys threads q c now key at x r a is number known first read in
    let role = f.role in
    let in_q : x < q.size = f.below in
    let both : c.size ≡ q.size = a.chained in
    let t : ℕ = r.thread in
    let lt : t < length now.held = w.thread in
    let node_thread : (node_at nodes x).thread ≡ t = ap (λ (z : Grant). z.thread) f.node in
    let own_place : place_in (node_at nodes x).key keys ≡ at = role.key in
    let label_c : label_at c x ≡ t + t + 2 = role.label ∙ ap (λ z. z + z + 2) node_thread in
    let mq : Moved q.lists q'.lists x (at + at + 2) (at + at + 1) =
    moved_lists q q' x (at + at + 2) (at + at + 1) a.in_queues gq in_q f.label (omega arith)
    (λ e. absurd (omega arith)) in
    let mc : Moved c.lists c'.lists x (t + t + 2) (t + t + 1) =
    moved_lists c c' x (t + t + 2) (t + t + 1) a.in_chains gc (omega arith) label_c (omega arith)
    (λ e. absurd (omega arith)) in
    let waiters : queue_at nodes q'.lists (at + at + 2) ≡ drop 1 (queue_at nodes q.lists (at + at + 2))
    = ap (claims nodes) (mq.left ∙ without_first x (list_at q.lists (at + at + 2)) f.rest f.first
    (a.in_queues.distinct (at + at + 2) (omega arith))) ∙ sym (ap (λ z. drop 1 (claims nodes z)) f.first) in
    let list : chain_at nodes c'.lists (t + t + 1) ≡ get_or now.held t [] ++ hold_of key r.mode ∷ []
    = holds_came nodes c.lists c'.lists x (t + t + 2) (t + t + 1) (hold_of key r.mode) mc
    (ap (λ (z : Grant). hold_of z.key z.mode) f.node ∙ ap (λ z. hold_of z r.mode) w.key)
    ∙ ap (λ z. z ++ hold_of key r.mode ∷ []) (sym (chain-seen nodes keys threads q c now t a is lt)) in (
      record {
        arena = arena_moved nodes keys threads q c q' c' x (at + at + 1) (t + t + 1) a in_q gq.size gc.size gq.count
            gc.count gq.placed gc.placed gq.labels gc.labels
            (inr (record {
              known = omega arith;
              thread = role.thread;
              place = inl (omega arith, omega arith);
            }));
        held_is = held_changed nodes keys threads q c c' now t (get_or now.held t [] ++ hold_of key r.mode ∷ []) a is
            lt (λ l free holds waits. mc.others l waits holds) list;
        entries_are = entries_changed nodes keys threads q c q' now key at (with_grant (claim_of t r.mode)) a is number
            known (λ l free holds waits. mq.others l waits holds) (
              refl,
              claims_came nodes q.lists q'.lists x (at + at + 2) (at + at + 1) (claim_of t r.mode) mq
                  (ap (λ (z : Grant). claim_of z.thread z.mode) f.node),
              waiters,
            );
      },
      (ap length (mq.others 0 (λ e. absurd (omega arith)) (λ e. absurd (omega arith)))
          ∙ ap (λ (z : Contents). z.spare) is),
    )

-- a node leaves the holders: its thread's claim goes
missing_node : (nodes : List Grant) (x : ℕ) (xs : List ℕ) → is_among (node_at nodes x).thread (claims nodes xs) ≡ false
    → IsAbsent x xs
missing_node nodes x [] e = tt
missing_node nodes x (y ∷ ys) e =
    go ((node_at nodes y).thread == (node_at nodes x).thread) refl e (missing_node nodes x ys)
  where
    go : (b : Bool) → ((node_at nodes y).thread == (node_at nodes x).thread) ≡ b
        → (b || is_among (node_at nodes x).thread (claims nodes ys)) ≡ false
        → (is_among (node_at nodes x).thread (claims nodes ys) ≡ false → IsAbsent x ys) → IsAbsent x (y ∷ ys)
    go true is none rest = absurd (let off : true ≡ false = none in cc)
    go false is none rest = (
      (λ same. let own : ((node_at nodes y).thread == (node_at nodes x).thread) ≡ true =
          eq-eqb (node_at nodes y).thread (node_at nodes x).thread (ap (λ z. (node_at nodes z).thread) same) in
          absurd (let off : true ≡ false = sym own ∙ is in cc)),
      rest none,
    )

apart_from : (nodes : List Grant) (y x : ℕ) (ys : List ℕ) → is_among (node_at nodes y).thread (claims nodes ys) ≡ false
    → Among x ys → ((node_at nodes y).thread == (node_at nodes x).thread) ≡ false
apart_from nodes y x [] e h = absurd h
apart_from nodes y x (z ∷ zs) e h =
    go ((node_at nodes z).thread == (node_at nodes y).thread) refl e h (apart_from nodes y x zs)
  where
    go : (b : Bool) → ((node_at nodes z).thread == (node_at nodes y).thread) ≡ b
        → (b || is_among (node_at nodes y).thread (claims nodes zs)) ≡ false → Among x (z ∷ zs)
        → (is_among (node_at nodes y).thread (claims nodes zs) ≡ false → Among x zs
        → ((node_at nodes y).thread == (node_at nodes x).thread) ≡ false)
        → ((node_at nodes y).thread == (node_at nodes x).thread) ≡ false
    go true is none h rest = absurd (let off : true ≡ false = none in cc)
    go false is none (inl here) rest = let other : ((node_at nodes x).thread == (node_at nodes y).thread) ≡ false =
        subst (λ v. ((node_at nodes v).thread == (node_at nodes y).thread) ≡ false) here is in grind arith
    go false is none (inr later) rest = rest none later

pub claims-without : (nodes : List Grant) (x : ℕ) (xs : List ℕ) → Among x xs → AreApart (claims nodes xs)
    → claims nodes (without x xs) ≡ stay (node_at nodes x).thread (claims nodes xs)
claims-without nodes x [] h d = absurd h
claims-without nodes x (y ∷ ys) h d = elim (cases_eq y x) [
  | inl is ↦
      let d' : AreApart (claims nodes (x ∷ ys)) = subst (λ z. AreApart (claims nodes (z ∷ ys))) is d in
      let gone : ((node_at nodes x).thread == (node_at nodes x).thread) ≡ true =
      eq-eqb (node_at nodes x).thread (node_at nodes x).thread refl in
      let right : stay (node_at nodes x).thread (claims nodes (x ∷ ys)) ≡ claims nodes ys
      = ap (λ b. if not b then claim_of (node_at nodes x).thread (node_at nodes x).mode ∷ stay (node_at nodes x).thread
      (claims nodes ys) else stay (node_at nodes x).thread (claims nodes ys)) gone
      ∙ stay-missing (node_at nodes x).thread (claims nodes ys) d'.0 in
      ap (λ z. claims nodes (without x (z ∷ ys))) is
      ∙ (ap (claims nodes) (without-same x ys ∙ without_absent x ys (missing_node nodes x ys d'.0))
      ∙ sym (ap (λ z. stay (node_at nodes x).thread (claims nodes (z ∷ ys))) is ∙ right))
  | inr ne ↦
      let later : Among x ys = elim h [ inl q ↦ absurd (ne q) | inr k ↦ k ] in
      let kept : ((node_at nodes y).thread == (node_at nodes x).thread) ≡ false = apart_from nodes y x ys d.0 later in
      ap (claims nodes) (without-other x y ys ne)
      ∙ (ap (λ z. claim_of (node_at nodes y).thread (node_at nodes y).mode ∷ z) (claims-without nodes x ys later d.1)
      ∙ sym
      (ap (λ b. if not b then claim_of (node_at nodes y).thread (node_at nodes y).mode ∷ stay (node_at nodes x).thread
      (claims nodes ys) else stay (node_at nodes x).thread (claims nodes ys)) kept))
]

-- the first of a thread's list is free again
pub first_released : (nodes : List Grant) (keys : List Key) (threads : ℕ) (q c q' c' : Shape) (now : Contents) (t : ℕ)
    (key : Key) (at x : ℕ) (rest : List ℕ)
    → IsArena nodes keys threads q c → shown nodes keys threads q c ≡ now → t < length now.held
    → at ≡ number_of key now.entries → at < length now.entries
    → list_at c.lists (t + t + 1) ≡ x ∷ rest → (node_at nodes x).key ≡ key → AreApart (entry_of key now.entries).holders
    → Goes q q' x 0 → Goes c c' x 0
    → Shows nodes keys threads q' c' (set now.held t (drop 1 (get_or now.held t [])))
    (put (without_holder t (entry_of key now.entries)) now.entries) × (length (list_at q'.lists 0) ≡ now.spare + 1)
first_released nodes keys threads q c q' c' now t key at x rest a is lt number known first node_key apart gq gc =
    let s = seen nodes keys threads q c now a is in
    let nq = s.queues in
    let nc = s.chains in
    let nk = s.keys_are in
    let nt = s.threads_are in
    let here = labelled_first c (t + t + 1) x rest a.in_chains (omega arith) first in
    let in_c : x < c.size = here.0 in
    let both : c.size ≡ q.size = a.chained in
    let in_q : x < q.size = omega arith in
    let role : HoldsBy nodes keys q t x = holding_role nodes keys threads q c t x a in_q here.1 in
    let own_place : place_in (node_at nodes x).key keys ≡ at = ap (λ z. place_in z keys) node_key
    ∙ (s.numbers key ∙ sym number) in
    let label_q : label_at q x ≡ at + at + 1 = role.label ∙ ap (λ z. z + z + 1) own_place in
    let mq : Moved q.lists q'.lists x (at + at + 1) 0 =
    moved_lists q q' x (at + at + 1) 0 a.in_queues gq in_q label_q (omega arith) (λ e. absurd (omega arith)) in
    let mc : Moved c.lists c'.lists x (t + t + 1) 0 =
    moved_lists c c' x (t + t + 1) 0 a.in_chains gc in_c here.1 (omega arith) (λ e. absurd (omega arith)) in
    let entry : entry_of key now.entries ≡ entry_at (queue_at nodes q.lists) key at =
    queues-seen nodes keys threads q c now key at a is number known in
    let apart' : AreApart (queue_at nodes q.lists (at + at + 1)) =
    subst (λ (e : Entry). AreApart e.holders) entry apart in
    let holders : queue_at nodes q'.lists (at + at + 1) ≡ stay t (queue_at nodes q.lists (at + at + 1))
    = ap (claims nodes) mq.left ∙ (claims-without nodes x (list_at q.lists (at + at + 1)) mq.there apart'
    ∙ ap (λ z. stay z (queue_at nodes q.lists (at + at + 1))) role.thread) in
    let list : chain_at nodes c'.lists (t + t + 1) ≡ drop 1 (get_or now.held t [])
    = ap (holds_at nodes) (mc.left
    ∙ without_first x (list_at c.lists (t + t + 1)) rest first (a.in_chains.distinct (t + t + 1) (omega arith)))
    ∙ sym (ap (drop 1) (chain-seen nodes keys threads q c now t a is lt)
    ∙ ap (λ z. drop 1 (holds_at nodes z)) first) in (
      record {
        arena = arena_moved nodes keys threads q c q' c' x 0 0 a in_q gq.size gc.size gq.count gc.count gq.placed
            gc.placed gq.labels gc.labels (inl (refl, refl));
        held_is = held_changed nodes keys threads q c c' now t (drop 1 (get_or now.held t [])) a is lt
            (λ l free holds waits. mc.others l holds free) list;
        entries_are = entries_changed nodes keys threads q c q' now key at (without_holder t) a is number known
            (λ l free holds waits. mq.others l holds free) (
              refl,
              holders,
              ap (claims nodes) (mq.others (at + at + 2) (λ e. absurd (omega arith))
                  (λ e. absurd (omega arith))),
            );
      },
      (ap length mq.came ∙ (length-append (list_at q.lists 0) (x ∷ []) ∙ ap (λ (z : Contents). z.spare + 1) is)),
    )
