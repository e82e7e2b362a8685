-- What a new key or a new node makes of an arena.
use Rattle.std.proofs.Common.{◌≡◌, ◌≢◌, ◌⊎◌, inl, inr, ℕ, zero, suc, ◌+◌, ◌<◌, ◌≤◌, ◌^◌, List, [], ◌∷◌, ◌++◌, length}
use Rattle.std.proofs.Common.{get_or, refl, sym, ◌∙◌, ap, subst, arith, get_or-set_same, get_or-set_other}
use Rattle.std.proofs.{Common.{length-append}, lemmas.Bool.{cases_eq, cases_lt, cases_Bool}}
use Rattle.std.proofs.lemmas.List.{length-set, get_or_past, get_or_append_left, get_or_at}
use Rattle.std.specs.Prelude.{replicate}
use Rattle.sect_modes.specs.{declared.key.Key.{Key}, Key.{is_same_key}}
use Rattle.sect_table.specs.{declared.claims.Hold.{Hold}, declared.claims.Claim.{Claim}, declared.claims.Grant.{Grant}}
use Rattle.sect_table.specs.Contents.{no_entry, hold_of, claim_of}
use Rattle.sect_table.specs.steps.{Keys.{place_in}, Links.{Shape, list_at, label_at, Each, ArePlaced}}
use Rattle.sect_table.specs.steps.Arena.{SameLists, NumberAdded, node_at, no_node, claims, holds_at, queue_at, chain_at}
use Rattle.sect_table.specs.steps.Arena.{entry_at, entries_from, held_from, shown, HasRole, IsArena}
use Rattle.sect_table.proofs.{Runs.{each_map}, Shown.{entries-kept, held-kept, place-here, place-later}}

pub arena_same : (nodes nodes' : List Grant) (keys : List Key) (threads : ℕ) (q c q' c' : Shape) → nodes' ≡ nodes
    → SameLists q q' → SameLists c c' → IsArena nodes keys threads q c → IsArena nodes' keys threads q' c'
arena_same nodes nodes' keys threads q c q' c' n sq sc a =
    subst (λ z. IsArena z keys threads q' c') (sym n) (record {
      sizes = a.sizes ∙ sym sq.size;
      chained = sc.size ∙ (a.chained ∙ sym sq.size);
      queues = ap length sq.lists ∙ a.queues;
      few = subst (λ z. length z < 2 ^ 60) (sym sq.lists) a.few;
      chains = ap length sc.lists ∙ a.chains;
      in_queues = sq.placed;
      in_chains = sc.placed;
      roles = λ i below.
          subst (λ z. HasRole nodes keys threads (get_or z i 0) (label_at c' i) i) (sym sq.labels)
          (subst (λ z. HasRole nodes keys threads (label_at q i) (get_or z i 0) i) (sym sc.labels)
          (a.roles i (subst (λ z. i < z) sq.size below)));
    })

pub shown_same : (nodes nodes' : List Grant) (keys : List Key) (threads : ℕ) (q c q' c' : Shape) → nodes' ≡ nodes
    → SameLists q q' → SameLists c c' → shown nodes' keys threads q' c' ≡ shown nodes keys threads q c
shown_same nodes nodes' keys threads q c q' c' n sq sc =
    ap (λ z. shown z keys threads q' c') n
    ∙ (ap (λ z. record {
      held = held_from (chain_at nodes z) 0 threads;
      entries =
          entries_from (queue_at nodes q'.lists) 0 keys;
      spare = length (list_at q'.lists 0);
    }) sc.lists
    ∙ ap (λ z. record {
      held = held_from (chain_at nodes c.lists) 0 threads;
      entries =
          entries_from (queue_at nodes z) 0 keys;
      spare = length (list_at z 0);
    }) sq.lists)

-- a new key
pub place-append : (k : Key) (xs ys : List Key) → place_in k xs < length xs → place_in k (xs ++ ys) ≡ place_in k xs
place-append k [] ys lt = absurd (omega arith)
place-append k (x ∷ xs) ys lt = elim (cases_Bool (is_same_key k x)) [
  | inl here ↦ place-here k x (xs ++ ys) here ∙ sym (place-here k x xs here)
  | inr later ↦
      let at = place-later k x xs later in
      place-later k x (xs ++ ys) later ∙ (ap suc (place-append k xs ys (omega arith)) ∙ sym at)
]

pub entries-push : (queue : ℕ → List Claim) (k : ℕ) (keys : List Key) (key : Key) (j : ℕ) → j ≡ k + length keys
    → entries_from queue k (keys ++ key ∷ []) ≡ entries_from queue k keys ++ entry_at queue key j ∷ []
entries-push queue k [] key j is = let same : k ≡ j = omega arith in ap (λ z. entry_at queue key z ∷ []) same
entries-push queue k (x ∷ xs) key j is =
    ap (λ z. entry_at queue x k ∷ z) (entries-push queue (suc k) xs key j (omega arith))

-- an empty list at the end shows nowhere
pub padded : (lists : List (List ℕ)) (l : ℕ) → list_at (lists ++ [] ∷ []) l ≡ list_at lists l
padded [] zero = refl
padded [] (suc l) = refl
padded (x ∷ xs) zero = refl
padded (x ∷ xs) (suc l) = padded xs l

pub record KeyAdded (nodes : List Grant) (keys keys' : List Key) (threads : ℕ) (q c q' c' : Shape) (key : Key) : Type 0
  where
    pub arena : IsArena nodes keys' threads q' c'
    pub held_is : held_from (chain_at nodes c'.lists) 0 threads ≡ held_from (chain_at nodes c.lists) 0 threads
    pub entries_are : entries_from (queue_at nodes q'.lists) 0 keys' ≡ entries_from (queue_at nodes q.lists) 0 keys
        ++ no_entry key ∷ []
    pub spare_is : list_at q'.lists 0 ≡ list_at q.lists 0

pub key_added : (nodes : List Grant) (keys keys' : List Key) (threads : ℕ) (q c q' c' : Shape) (key : Key)
    → IsArena nodes keys threads q c
    → keys' ≡ keys ++ key ∷ [] → q'.size ≡ q.size → q'.labels ≡ q.labels → q'.lists ≡ (q.lists ++ [] ∷ []) ++ [] ∷ []
    → length q'.lists < 2 ^ 60 → ArePlaced q' → SameLists c c'
    → KeyAdded nodes keys keys' threads q c q' c' key
key_added nodes keys keys' threads q c q' c' key a is size labels lists few placed sc =
    let n : length (keys ++ key ∷ []) ≡ length keys + length (key ∷ []) = length-append keys (key ∷ []) in
    let n' : length keys' ≡ length (keys ++ key ∷ []) = ap length is in
    let m1 : length (q.lists ++ [] ∷ []) ≡ length q.lists + 1 = length-append q.lists ([] ∷ []) in
    let m2 : length ((q.lists ++ [] ∷ []) ++ [] ∷ []) ≡ length (q.lists ++ [] ∷ []) + 1 =
    length-append (q.lists ++ [] ∷ []) ([] ∷ []) in
    let m3 : length q'.lists ≡ length ((q.lists ++ [] ∷ []) ++ [] ∷ []) = ap length lists in
    let count : length q.lists ≡ length keys + length keys + 1 = a.queues in
    let at = λ (l : ℕ). ap (λ z. list_at z l) lists ∙ (padded (q.lists ++ [] ∷ []) l ∙ padded q.lists l) in
    let k : ℕ = length keys in
    let none = λ (l : ℕ) (past : length q.lists ≤ l). at l ∙ get_or_past q.lists l [] past in
    record {
      arena = record {
        sizes = a.sizes ∙ sym size;
        chained = sc.size ∙ (a.chained ∙ sym size);
        queues = omega arith;
        few = few;
        chains = ap length sc.lists ∙ a.chains;
        in_queues = placed;
        in_chains = sc.placed;
        roles = λ i below.
            subst (λ z. HasRole nodes keys' threads (get_or z i 0) (label_at c' i) i) (sym labels)
            (subst (λ z. HasRole nodes keys' threads (label_at q i) (get_or z i 0) i) (sym sc.labels)
            (subst (λ z. HasRole nodes z threads (label_at q i) (label_at c i) i) (sym is)
            (grown i (a.roles i (subst (λ z. i < z) size below)))));
      };
      held_is = ap (λ z. held_from (chain_at nodes z) 0 threads) sc.lists;
      entries_are = ap (entries_from (queue_at nodes q'.lists) 0) is
          ∙ (entries-push (queue_at nodes q'.lists) 0 keys key k (omega arith)
          ∙ (ap (λ z. z ++ entry_at (queue_at nodes q'.lists) key k ∷ [])
          (entries-kept (queue_at nodes q.lists) (queue_at nodes q'.lists) 0 keys
          (λ j le. (ap (claims nodes) (at (j + j + 1)), ap (claims nodes) (at (j + j + 2)))))
          ∙ (ap (λ z. entries_from (queue_at nodes q.lists) 0 keys
          ++ record { key = key; holders = claims nodes z; waiters = queue_at nodes q'.lists (k + k + 2) } ∷ [])
          (none (k + k + 1) (omega arith))
          ∙ ap (λ z. entries_from (queue_at nodes q.lists) 0 keys
          ++ record { key = key; holders = []; waiters = claims nodes z } ∷ []) (none (k + k + 2) (omega arith)))));
      spare_is = at 0;
    }
  where
    grown : (i : ℕ) → HasRole nodes keys threads (label_at q i) (label_at c i) i
        → HasRole nodes (keys ++ key ∷ []) threads (label_at q i) (label_at c i) i
    grown i (inl free) = inl free
    grown i (inr used) =
        let same : place_in (node_at nodes i).key (keys ++ key ∷ []) ≡ place_in (node_at nodes i).key keys =
        place-append (node_at nodes i).key keys (key ∷ []) used.known in
        let n : length (keys ++ key ∷ []) ≡ length keys + length (key ∷ []) = length-append keys (key ∷ []) in
        let known = used.known in
        inr (record {
          known = omega arith;
          thread = used.thread;
          place = subst (λ k. let t = (node_at nodes i).thread in
              ((label_at q i ≡ k + k + 1) × (label_at c i ≡ t + t + 1))
              ⊎ ((label_at q i ≡ k + k + 2) × (label_at c i ≡ t + t + 2))) (sym same) used.place;
        })

-- a new node, which is free
claims_grown : (nodes : List Grant) (r : Grant) (xs : List ℕ) → Each (λ i. i < length nodes) xs
    → claims (nodes ++ r ∷ []) xs ≡ claims nodes xs
claims_grown nodes r [] e = refl
claims_grown nodes r (y ∷ ys) e =
    ap (λ (z : Grant). claim_of z.thread z.mode ∷ claims (nodes ++ r ∷ []) ys)
    (get_or_append_left nodes (r ∷ []) no_node y e.0)
    ∙ ap (λ z. claim_of (node_at nodes y).thread (node_at nodes y).mode ∷ z) (claims_grown nodes r ys e.1)

holds_grown : (nodes : List Grant) (r : Grant) (xs : List ℕ) → Each (λ i. i < length nodes) xs
    → holds_at (nodes ++ r ∷ []) xs ≡ holds_at nodes xs
holds_grown nodes r [] e = refl
holds_grown nodes r (y ∷ ys) e =
    ap (λ (z : Grant). hold_of z.key z.mode ∷ holds_at (nodes ++ r ∷ []) ys)
    (get_or_append_left nodes (r ∷ []) no_node y e.0)
    ∙ ap (λ z. hold_of (node_at nodes y).key (node_at nodes y).mode ∷ z) (holds_grown nodes r ys e.1)

within : (s : Shape) (n l : ℕ) → ArePlaced s → n ≡ s.size → Each (λ i. i < n) (list_at s.lists l)
within s n l p is = elim (cases_lt l (length s.lists)) [
  | inl lt ↦ each_map (λ i. (i < s.size) × (label_at s i ≡ l)) (λ i. i < n)
      (λ i h. let below : i < s.size = h.0 in omega arith) (list_at s.lists l) (p.labelled l lt)
  | inr le ↦ subst (Each (λ i. i < n)) (sym (get_or_past s.lists l [] le)) tt
]

pub record NodeAdded (nodes nodes' : List Grant) (keys : List Key) (threads : ℕ) (q c q' c' : Shape) : Type 0 where
  pub arena : IsArena nodes' keys threads q' c'
  pub held_is : held_from (chain_at nodes' c'.lists) 0 threads ≡ held_from (chain_at nodes c.lists) 0 threads
  pub entries_are : entries_from (queue_at nodes' q'.lists) 0 keys ≡ entries_from (queue_at nodes q.lists) 0 keys
  pub spare_is : length (list_at q'.lists 0) ≡ length (list_at q.lists 0) + 1

pub node_added : (nodes nodes' : List Grant) (r : Grant) (keys : List Key) (threads : ℕ) (q c q' c' : Shape)
    → IsArena nodes keys threads q c → nodes' ≡ nodes ++ r ∷ [] → NumberAdded q q' → NumberAdded c c'
    → NodeAdded nodes nodes' keys threads q c q' c'
node_added nodes nodes' r keys threads q c q' c' a is nq nc =
    subst (λ z. NodeAdded nodes z keys threads q c q' c') (sym is) (record {
      arena = record {
        sizes = (let n : length (nodes ++ r ∷ []) ≡ length nodes + 1 = length-append nodes (r ∷ []) in
            let m = a.sizes in let k = nq.size in omega arith);
        chained = nc.size ∙ (ap (λ z. z + 1) a.chained ∙ sym nq.size);
        queues = ap length nq.lists ∙ (length-set q.lists 0 (list_at q.lists 0 ++ q.size ∷ []) ∙ a.queues);
        few = (let n : length q'.lists ≡ length q.lists =
            ap length nq.lists ∙ length-set q.lists 0 (list_at q.lists 0 ++ q.size ∷ []) in let few = a.few in
            omega arith);
        chains = ap length nc.lists ∙ (length-set c.lists 0 (list_at c.lists 0 ++ c.size ∷ []) ∙ a.chains);
        in_queues = nq.placed;
        in_chains = nc.placed;
        roles = λ i below.
            let k : q'.size ≡ q.size + 1 = nq.size in
            let lq : length q.labels ≡ q.size = a.in_queues.sized in
            let lc : length c.labels ≡ c.size = a.in_chains.sized in
            let both : c.size ≡ q.size = a.chained in
            elim (cases_eq i q.size) [
              | inl last ↦ inl (
                ap (λ z. get_or z i 0) nq.labels ∙ get_or_at q.labels 0 [] 0 i (omega arith),
                ap (λ z. get_or z i 0) nc.labels ∙ get_or_at c.labels 0 [] 0 i (omega arith),
              )
              | inr ne ↦ old i (omega arith)
                  (sym (ap (λ z. get_or z i 0) nq.labels ∙ get_or_append_left q.labels (0 ∷ []) 0 i (omega arith)))
                  (sym (ap (λ z. get_or z i 0) nc.labels ∙ get_or_append_left c.labels (0 ∷ []) 0 i (omega arith)))
            ];
      };
      held_is = held-kept (chain_at nodes c.lists) (chain_at (nodes ++ r ∷ []) c'.lists) 0 threads (λ j le.
          ap (λ z. chain_at (nodes ++ r ∷ []) z (j + j + 1)) nc.lists
          ∙ (ap (holds_at (nodes ++ r ∷ []))
          (get_or-set_other c.lists 0 (j + j + 1) (list_at c.lists 0 ++ c.size ∷ []) [] (λ e. absurd (omega arith)))
          ∙ holds_grown nodes r (list_at c.lists (j + j + 1))
          (within c (length nodes) (j + j + 1) a.in_chains (a.sizes ∙ sym a.chained))));
      entries_are = entries-kept (queue_at nodes q.lists) (queue_at (nodes ++ r ∷ []) q'.lists) 0 keys
          (λ j le. (same (j + j + 1) (λ e. absurd (omega arith)), same (j + j + 2) (λ e. absurd (omega arith))));
      spare_is = ap (λ z. length (list_at z 0)) nq.lists
          ∙ (ap length (get_or-set_same q.lists 0 (list_at q.lists 0 ++ q.size ∷ []) []
          (let n = a.queues in omega arith)) ∙ length-append (list_at q.lists 0) (q.size ∷ []));
    })
  where
    same : (l : ℕ) → l ≢ 0 → queue_at (nodes ++ r ∷ []) q'.lists l ≡ queue_at nodes q.lists l
    same l ne =
        ap (λ z. queue_at (nodes ++ r ∷ []) z l) nq.lists
        ∙ (ap (claims (nodes ++ r ∷ [])) (get_or-set_other q.lists 0 l (list_at q.lists 0 ++ q.size ∷ []) [] ne)
        ∙ claims_grown nodes r (list_at q.lists l) (within q (length nodes) l a.in_queues a.sizes))

    kept : (i : ℕ) → node_at nodes i ≡ node_at (nodes ++ r ∷ []) i
        → HasRole nodes keys threads (label_at q i) (label_at c i) i
        → HasRole (nodes ++ r ∷ []) keys threads (label_at q i) (label_at c i) i
    kept i e (inl free) = inl free
    kept i e (inr used) = inr (record {
      known = subst (λ (z : Grant). place_in z.key keys < length keys) e used.known;
      thread = subst (λ (z : Grant). z.thread < threads) e used.thread;
      place = subst (λ (z : Grant). let k = place_in z.key keys in let t = z.thread in
          ((label_at q i ≡ k + k + 1) × (label_at c i ≡ t + t + 1))
          ⊎ ((label_at q i ≡ k + k + 2) × (label_at c i ≡ t + t + 2))) e used.place;
    })

    old : (i : ℕ) → i < q.size → label_at q i ≡ label_at q' i → label_at c i ≡ label_at c' i
        → HasRole (nodes ++ r ∷ []) keys threads (label_at q' i) (label_at c' i) i
    old i lt eq ec =
        let n = a.sizes in
        let e : node_at nodes i ≡ node_at (nodes ++ r ∷ []) i =
        sym (get_or_append_left nodes (r ∷ []) no_node i (omega arith)) in
        subst (λ z. HasRole (nodes ++ r ∷ []) keys threads z (label_at c' i) i) eq
        (subst (λ z. HasRole (nodes ++ r ∷ []) keys threads (label_at q i) z i) ec (kept i e (a.roles i lt)))

-- lists of which each is empty
pub held_from-empty : (chain : ℕ → List Hold) (t n : ℕ) → ((j : ℕ) → chain (j + j + 1) ≡ [])
    → held_from chain t n ≡ replicate n []
held_from-empty chain t zero none = refl
held_from-empty chain t (suc n) none = ap (λ z. z ∷ held_from chain (suc t) n) (none t)
    ∙ ap (λ z. [] ∷ z) (held_from-empty chain (suc t) n none)

-- only empty lists
abbrev pub AreEmpty : List (List ℕ) → Type 0
AreEmpty lists = (l : ℕ) → list_at lists l ≡ []

-- an arena of empty lists
pub arena_fresh : (nodes : List Grant) (keys : List Key) (threads : ℕ) (q c : Shape) → nodes ≡ [] → keys ≡ []
    → q.size ≡ 0 → c.size ≡ 0 → length q.lists ≡ 1 → length q.lists < 2 ^ 60 → length c.lists ≡ threads + threads + 1
    → ArePlaced q → ArePlaced c → IsArena nodes keys threads q c
arena_fresh nodes keys threads q c n k sq sc lq few lc pq pc = record {
  sizes = ap length n ∙ sym sq;
  chained = sc ∙ sym sq;
  queues = (let none : length keys ≡ 0 = ap length k in omega arith);
  few = few;
  chains = lc;
  in_queues = pq;
  in_chains = pc;
  roles = λ i below. absurd (omega arith);
}
