-- Where the nodes of an arena stand.
use Rattle.std.proofs.Common.{◌≡◌, ◌≢◌, inl, inr, ℕ, zero, suc, ◌+◌, ◌<◌, List, [], ◌∷◌, length, get_or, set}
use Rattle.std.proofs.Common.{true, false, None, Some, refl, sym, ◌∙◌, ap, subst, arith, get_or-set_same}
use Rattle.std.proofs.{Common.{get_or-set_other}, lemmas.Bool.{cases_eq, eq-eqb, or_right}}
use Rattle.std.specs.{Prelude.{◌==◌, ◌||◌, is_some}, List.{list_any}}
use Rattle.sect_modes.specs.declared.key.Key.{Key}
use Rattle.sect_table.specs.{declared.claims.Claim.{Claim}, declared.claims.Grant.{Grant}, declared.claims.Hold.{Hold}}
use Rattle.sect_table.specs.Contents.{Contents, is_among, is_waiting, number_of, held_by, first_hold, hold_of}
use Rattle.sect_table.specs.steps.{Keys.{place_in}, Links.{Shape, head_or, list_at, label_at, Each, Among, ArePlaced}}
use Rattle.sect_table.specs.steps.Arena.{node_at, claims, holds_at, queue_at, entries_from, shown, HasRole, IsArena}
use Rattle.sect_table.proofs.{Runs.{each_map}, Shown.{seen, chain-seen, uncons}}

-- a move of one node to lists that fit its request
pub arena_moved : (nodes : List Grant) (keys : List Key) (threads : ℕ) (q c q' c' : Shape) (x l m : ℕ)
    → IsArena nodes keys threads q c → x < q.size
    → q'.size ≡ q.size → c'.size ≡ c.size → length q'.lists ≡ length q.lists → length c'.lists ≡ length c.lists
    → ArePlaced q' → ArePlaced c'
    → q'.labels ≡ set q.labels x l → c'.labels ≡ set c.labels x m → HasRole nodes keys threads l m x
    → IsArena nodes keys threads q' c'
arena_moved nodes keys threads q c q' c' x l m a lt sq sc nq nc pq pc lq lc role = record {
  sizes = a.sizes ∙ sym sq;
  chained = sc ∙ (a.chained ∙ sym sq);
  queues = nq ∙ a.queues;
  few = (let few = a.few in omega arith);
  chains = nc ∙ a.chains;
  in_queues = pq;
  in_chains = pc;
  roles = λ i below.
      let was_q : length q.labels ≡ q.size = a.in_queues.sized in
      let was_c : length c.labels ≡ c.size = a.in_chains.sized in
      let both : c.size ≡ q.size = a.chained in
      elim (cases_eq i x) [
        | inl is ↦
            let at_q : label_at q' x ≡ l = ap (λ z. get_or z x 0) lq ∙ get_or-set_same q.labels x l 0 (omega arith) in
            let at_c : label_at c' x ≡ m = ap (λ z. get_or z x 0) lc ∙ get_or-set_same c.labels x m 0 (omega arith) in
            subst (λ j. HasRole nodes keys threads (label_at q' j) (label_at c' j) j) (sym is)
            (subst (λ z. HasRole nodes keys threads z (label_at c' x) x) (sym at_q)
            (subst (λ z. HasRole nodes keys threads l z x) (sym at_c) role))
        | inr ne ↦
            let at_q : label_at q' i ≡ label_at q i = ap (λ z. get_or z i 0) lq
            ∙ get_or-set_other q.labels x i l 0 ne in
            let at_c : label_at c' i ≡ label_at c i = ap (λ z. get_or z i 0) lc
            ∙ get_or-set_other c.labels x i m 0 ne in
            subst (λ z. HasRole nodes keys threads z (label_at c' i) i) (sym at_q)
            (subst (λ z. HasRole nodes keys threads (label_at q i) z i) (sym at_c) (a.roles i (omega arith)))
      ];
}

-- a member of a list has its label
pub labelled_first : (s : Shape) (l x : ℕ) (rest : List ℕ) → ArePlaced s → l < length s.lists
    → list_at s.lists l ≡ x ∷ rest → (x < s.size) × (label_at s x ≡ l)
labelled_first s l x rest p lt is = (subst (Each (λ i. (i < s.size) × (label_at s i ≡ l))) is (p.labelled l lt)).0

-- a node with a thread's label of waiting waits for its key
pub record WaitsBy (nodes : List Grant) (keys : List Key) (q : Shape) (t x : ℕ) : Type 0 where
  pub thread : (node_at nodes x).thread ≡ t
  pub known : place_in (node_at nodes x).key keys < length keys
  pub label : label_at q x ≡ place_in (node_at nodes x).key keys + place_in (node_at nodes x).key keys + 2

pub waiting_role : (nodes : List Grant) (keys : List Key) (threads : ℕ) (q c : Shape) (t x : ℕ)
    → IsArena nodes keys threads q c → x < q.size → label_at c x ≡ t + t + 2 → WaitsBy nodes keys q t x
waiting_role nodes keys threads q c t x a lt label = elim (a.roles x lt) [
  | inl free ↦ let f : label_at c x ≡ 0 = free.1 in absurd (omega arith)
  | inr used ↦ elim used.place [
    | inl holds ↦ let f : label_at c x ≡ (node_at nodes x).thread + (node_at nodes x).thread + 1 = holds.1 in
        absurd (omega arith)
    | inr waits ↦
        let f : label_at c x ≡ (node_at nodes x).thread + (node_at nodes x).thread + 2 = waits.1 in
        record { thread = omega arith; known = used.known; label = waits.0 }
  ]
]

-- a node among a key's waiters waits for that key
pub record WaitsFor (nodes : List Grant) (keys : List Key) (threads : ℕ) (c : Shape) (k x : ℕ) : Type 0 where
  pub key : place_in (node_at nodes x).key keys ≡ k
  pub known : k < length keys
  pub thread : (node_at nodes x).thread < threads
  pub label : label_at c x ≡ (node_at nodes x).thread + (node_at nodes x).thread + 2

pub waiter_role : (nodes : List Grant) (keys : List Key) (threads : ℕ) (q c : Shape) (k x : ℕ)
    → IsArena nodes keys threads q c → x < q.size → label_at q x ≡ k + k + 2 → WaitsFor nodes keys threads c k x
waiter_role nodes keys threads q c k x a lt label = elim (a.roles x lt) [
  | inl free ↦ let f : label_at q x ≡ 0 = free.0 in absurd (omega arith)
  | inr used ↦ elim used.place [
    | inl holds ↦ let f : label_at q x ≡ place_in (node_at nodes x).key keys + place_in (node_at nodes x).key keys + 1 =
        holds.0 in absurd (omega arith)
    | inr waits ↦
        let f : label_at q x ≡ place_in (node_at nodes x).key keys + place_in (node_at nodes x).key keys + 2 =
        waits.0 in
        let known = used.known in
        record { key = omega arith; known = omega arith; thread = used.thread; label = waits.1 }
  ]
]

-- a node in a thread's list holds its key
pub record HoldsBy (nodes : List Grant) (keys : List Key) (q : Shape) (t x : ℕ) : Type 0 where
  pub thread : (node_at nodes x).thread ≡ t
  pub known : place_in (node_at nodes x).key keys < length keys
  pub label : label_at q x ≡ place_in (node_at nodes x).key keys + place_in (node_at nodes x).key keys + 1

pub holding_role : (nodes : List Grant) (keys : List Key) (threads : ℕ) (q c : Shape) (t x : ℕ)
    → IsArena nodes keys threads q c → x < q.size → label_at c x ≡ t + t + 1 → HoldsBy nodes keys q t x
holding_role nodes keys threads q c t x a lt label = elim (a.roles x lt) [
  | inl free ↦ let f : label_at c x ≡ 0 = free.1 in absurd (omega arith)
  | inr used ↦ elim used.place [
    | inl holds ↦
        let f : label_at c x ≡ (node_at nodes x).thread + (node_at nodes x).thread + 1 = holds.1 in
        record { thread = omega arith; known = used.known; label = holds.0 }
    | inr waits ↦ let f : label_at c x ≡ (node_at nodes x).thread + (node_at nodes x).thread + 2 = waits.1 in
        absurd (omega arith)
  ]
]

-- the first node of a thread's list has the label of its key's holders
pub record FirstHeld (nodes : List Grant) (q : Shape) (now : Contents) (t x : ℕ) : Type 0 where
  pub within : x < q.size
  pub label : label_at q x ≡ number_of (node_at nodes x).key now.entries
      + number_of (node_at nodes x).key now.entries + 1
  pub number : (h : Hold) → first_hold (held_by now t) ≡ Some h
      → number_of (node_at nodes x).key now.entries ≡ number_of h.key now.entries

pub first_of_thread : (nodes : List Grant) (keys : List Key) (threads : ℕ) (q c : Shape) (now : Contents) (t x : ℕ)
    → IsArena nodes keys threads q c → shown nodes keys threads q c ≡ now → t < length now.held
    → head_or (list_at c.lists (t + t + 1)) None ≡ Some x → FirstHeld nodes q now t x
first_of_thread nodes keys threads q c now t x a is lt first =
    let s = seen nodes keys threads q c now a is in
    let n = s.chains in
    let found = uncons (list_at c.lists (t + t + 1)) x first in
    let placed = labelled_first c (t + t + 1) x found.0 a.in_chains (omega arith) found.1 in
    let below : x < q.size = (let same = a.chained in let less = placed.0 in omega arith) in
    let role = holding_role nodes keys threads q c t x a below placed.1 in
    let numbered : place_in (node_at nodes x).key keys ≡ number_of (node_at nodes x).key now.entries =
    s.numbers (node_at nodes x).key in
    record {
      within = below;
      label = rw (← numbered) role.label;
      number = λ h held. (let first_here : Some (hold_of (node_at nodes x).key (node_at nodes x).mode) ≡ Some h =
          sym (ap (λ z. first_hold (holds_at nodes z)) found.1)
          ∙ (sym (ap first_hold (chain-seen nodes keys threads q c now t a is lt)) ∙ held) in
          let same : hold_of (node_at nodes x).key (node_at nodes x).mode ≡ h = cc in
          ap (λ (z : Hold). number_of z.key now.entries) same);
    }

-- a free node
pub free_role : (nodes : List Grant) (keys : List Key) (threads : ℕ) (q c : Shape) (x : ℕ)
    → IsArena nodes keys threads q c → x < q.size → label_at q x ≡ 0 → label_at c x ≡ 0
free_role nodes keys threads q c x a lt label = elim (a.roles x lt) [
  | inl free ↦ free.1
  | inr used ↦ elim used.place [
    | inl holds ↦ let f : label_at q x ≡ place_in (node_at nodes x).key keys + place_in (node_at nodes x).key keys + 1 =
        holds.0 in absurd (omega arith)
    | inr waits ↦ let f : label_at q x ≡ place_in (node_at nodes x).key keys + place_in (node_at nodes x).key keys + 2 =
        waits.0 in absurd (omega arith)
  ]
]

-- a thread among claims
pub thread_found : (nodes : List Grant) (t x : ℕ) (xs : List ℕ) → Among x xs → (node_at nodes x).thread ≡ t
    → is_among t (claims nodes xs) ≡ true
thread_found nodes t x [] h is = absurd h
thread_found nodes t x (y ∷ ys) (inl h) is =
    ap (λ b. b || is_among t (claims nodes ys))
    (eq-eqb (node_at nodes y).thread t (ap (λ z. (node_at nodes z).thread) h ∙ is))
thread_found nodes t x (y ∷ ys) (inr h) is =
    ap (λ b. ((node_at nodes y).thread == t) || b) (thread_found nodes t x ys h is)
    ∙ or_right ((node_at nodes y).thread == t) true refl

pub thread_missing : (nodes : List Grant) (t : ℕ) (xs : List ℕ) → Each (λ i. (node_at nodes i).thread ≢ t) xs
    → is_among t (claims nodes xs) ≡ false
thread_missing nodes t [] e = refl
thread_missing nodes t (y ∷ ys) e = let off : ((node_at nodes y).thread == t) ≡ false = grind (arith, e.0) in
    ap (λ b. b || is_among t (claims nodes ys)) off ∙ thread_missing nodes t ys e.1

waits_at : (t : ℕ) (queue : ℕ → List Claim) (k : ℕ) (keys : List Key) (i j : ℕ) → i < length keys → j ≡ k + i
    → is_among t (queue (j + j + 2)) ≡ true → list_any (λ e. is_among t e.waiters) (entries_from queue k keys) ≡ true
waits_at t queue k [] i j lt is h = absurd (omega arith)
waits_at t queue k (x ∷ xs) zero j lt is h =
    let same : j ≡ k = omega arith in
    ap (λ b. b || list_any (λ e. is_among t e.waiters) (entries_from queue (suc k) xs))
    (subst (λ z. is_among t (queue (z + z + 2)) ≡ true) same h)
waits_at t queue k (x ∷ xs) (suc i) j lt is h =
    ap (λ b. is_among t (queue (k + k + 2)) || b) (waits_at t queue (suc k) xs i j (omega arith) (omega arith) h)
    ∙ or_right (is_among t (queue (k + k + 2))) true refl

waits_nowhere : (t : ℕ) (queue : ℕ → List Claim) (k : ℕ) (keys : List Key)
    → ((j : ℕ) → j < k + length keys → is_among t (queue (j + j + 2)) ≡ false)
    → list_any (λ e. is_among t e.waiters) (entries_from queue k keys) ≡ false
waits_nowhere t queue k [] none = refl
waits_nowhere t queue k (x ∷ xs) none =
    ap (λ b. b || list_any (λ e. is_among t e.waiters) (entries_from queue (suc k) xs)) (none k (omega arith))
    ∙ waits_nowhere t queue (suc k) xs (λ j lt. none j (omega arith))

-- a thread waits exactly where its list of waiting isn't empty
pub waiting-seen : (nodes : List Grant) (keys : List Key) (threads : ℕ) (q c : Shape) (now : Contents) (t : ℕ)
    → IsArena nodes keys threads q c → shown nodes keys threads q c ≡ now → t < length now.held
    → is_some (head_or (list_at c.lists (t + t + 2)) None) ≡ is_waiting t now
waiting-seen nodes keys threads q c now t a is lt =
    go (list_at c.lists (t + t + 2)) refl ∙ ap (λ (z : Contents). is_waiting t z) is
  where
    go : (xs : List ℕ) → list_at c.lists (t + t + 2) ≡ xs
        → is_some (head_or xs None) ≡ list_any (λ e. is_among t e.waiters)
        (entries_from (queue_at nodes q.lists) 0 keys)
    go [] none = sym (waits_nowhere t (queue_at nodes q.lists) 0 keys (λ j below.
        let count : length q.lists ≡ length keys + length keys + 1 = a.queues in
        thread_missing nodes t (list_at q.lists (j + j + 2))
        (each_map (λ i. (i < q.size) × (label_at q i ≡ j + j + 2)) (λ i. (node_at nodes i).thread ≢ t) (λ i h by.
        let w = waiter_role nodes keys threads q c j i a h.0 h.1 in
        let both : c.size ≡ q.size = a.chained in
        let in_q : i < q.size = h.0 in
        let own : label_at c i ≡ t + t + 2 = w.label ∙ ap (λ z. z + z + 2) by in
        subst (Among i) none (subst (λ z. Among i (list_at c.lists z)) own (a.in_chains.there i (omega arith)).1))
        (list_at q.lists (j + j + 2)) (a.in_queues.labelled (j + j + 2) (omega arith)))))
    go (x ∷ xs) some =
        let s = seen nodes keys threads q c now a is in
        let count = s.chains in
        let at = labelled_first c (t + t + 2) x xs a.in_chains (omega arith) some in
        let both : c.size ≡ q.size = a.chained in
        let in_c : x < c.size = at.0 in
        let in_q : x < q.size = omega arith in
        let w = waiting_role nodes keys threads q c t x a in_q at.1 in
        let p : ℕ = place_in (node_at nodes x).key keys in
        sym (waits_at t (queue_at nodes q.lists) 0 keys p p w.known (omega arith)
        (thread_found nodes t x (list_at q.lists (p + p + 2))
        (subst (λ z. Among x (list_at q.lists z)) w.label (a.in_queues.there x in_q).1) w.thread))
