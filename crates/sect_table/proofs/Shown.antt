-- What an arena shows of its lists.
use Rattle.std.proofs.Common.{◌≡◌, ◌≢◌, inl, inr, ℕ, zero, suc, ◌+◌, ◌<◌, ◌≤◌, ◌^◌, List, [], ◌∷◌, length, get_or, set}
use Rattle.std.proofs.Common.{true, false, Option, Some, None, refl, sym, ◌∙◌, ap, subst, arith, rules}
use Rattle.std.proofs.lemmas.Bool.{cases_Bool}
use Rattle.std.specs.{Prelude.{if◌then◌else◌, IsSome}, Option.{option_map}}
use Rattle.sect_modes.specs.{declared.key.Key.{Key}, Key.{is_same_key}}
use Rattle.sect_modes.proofs.shared.Keys.{same_key}
use Rattle.sect_table.specs.{declared.claims.Hold.{Hold}, declared.claims.Claim.{Claim}, declared.claims.Grant.{Grant}}
use Rattle.sect_table.specs.Contents.{Entry, Contents, number_of, entry_of, put, first_of, first_hold, claim_of}
use Rattle.sect_table.specs.Contents.{hold_of}
use Rattle.sect_table.specs.steps.{Keys.{place_in}, Links.{Shape, head_or}}
use Rattle.sect_table.specs.steps.Arena.{node_at, claims, holds_at, queue_at, chain_at, entry_at, entries_from}
use Rattle.sect_table.specs.steps.Arena.{held_from, shown, IsArena}
use Rattle.sect_table.proofs.shared.Shown.{entry_of-here, entry_of-later}

-- places of keys
pub place-here : (k x : Key) (xs : List Key) → is_same_key k x ≡ true → place_in k (x ∷ xs) ≡ 0
place-here k x xs e = ap (λ b. if b then 0 else suc (place_in k xs)) e

pub place-later : (k x : Key) (xs : List Key) → is_same_key k x ≡ false → place_in k (x ∷ xs) ≡ suc (place_in k xs)
place-later k x xs e = ap (λ b. if b then 0 else suc (place_in k xs)) e

pub one_place : (a b : Key) (xs : List Key) → place_in a xs < length xs → place_in a xs ≡ place_in b xs → a ≡ b
one_place a b [] lt is = absurd (omega arith)
one_place a b (x ∷ xs) lt is = elim (cases_Bool (is_same_key a x)) [
  | inl ax ↦ elim (cases_Bool (is_same_key b x)) [
    | inl bx ↦ same_key a x ax ∙ sym (same_key b x bx)
    | inr bx ↦ let p = place-here a x xs ax in let q = place-later b x xs bx in absurd (omega arith)
  ]
  | inr ax ↦ elim (cases_Bool (is_same_key b x)) [
    | inl bx ↦ let p = place-later a x xs ax in let q = place-here b x xs bx in absurd (omega arith)
    | inr bx ↦ let p = place-later a x xs ax in let q = place-later b x xs bx in
        one_place a b xs (omega arith) (omega arith)
  ]
]

-- lengths and numbers
pub length-entries_from : (queue : ℕ → List Claim) (k : ℕ) (keys : List Key)
    → length (entries_from queue k keys) ≡ length keys
length-entries_from queue k [] = refl
length-entries_from queue k (x ∷ xs) = ap suc (length-entries_from queue (suc k) xs)

pub length-held_from : (chain : ℕ → List Hold) (t n : ℕ) → length (held_from chain t n) ≡ n
length-held_from chain t zero = refl
length-held_from chain t (suc n) = ap suc (length-held_from chain (suc t) n)

pub number_of-entries_from : (key : Key) (queue : ℕ → List Claim) (k : ℕ) (keys : List Key)
    → number_of key (entries_from queue k keys) ≡ place_in key keys
number_of-entries_from key queue k [] = refl
number_of-entries_from key queue k (x ∷ xs) =
    ap (λ z. if is_same_key key x then 0 else suc z) (number_of-entries_from key queue (suc k) xs)

pub put-here : (e f : Entry) (es : List Entry) → is_same_key e.key f.key ≡ true → put e (f ∷ es) ≡ e ∷ es
put-here e f es is = ap (λ b. if b then e ∷ es else f ∷ put e es) is

pub put-later : (e f : Entry) (es : List Entry) → is_same_key e.key f.key ≡ false → put e (f ∷ es) ≡ f ∷ put e es
put-later e f es is = ap (λ b. if b then e ∷ es else f ∷ put e es) is

-- the entry of a known key
pub entry-shown : (queue : ℕ → List Claim) (k : ℕ) (key : Key) (keys : List Key) (p : ℕ)
    → place_in key keys < length keys → p ≡ k + place_in key keys
    → entry_of key (entries_from queue k keys) ≡ entry_at queue key p
entry-shown queue k key [] p lt is = absurd (omega arith)
entry-shown queue k key (x ∷ xs) p lt is = elim (cases_Bool (is_same_key key x)) [
  | inl here ↦
      let at = place-here key x xs here in
      let same : k ≡ p = omega arith in
      entry_of-here key (entry_at queue x k) (entries_from queue (suc k) xs) here
      ∙ (ap (λ z. entry_at queue z k) (sym (same_key key x here)) ∙ ap (entry_at queue key) same)
  | inr later ↦
      let at = place-later key x xs later in
      entry_of-later key (entry_at queue x k) (entries_from queue (suc k) xs) later
      ∙ entry-shown queue (suc k) key xs p (omega arith) (omega arith)
]

-- a thread's list
pub held-shown : (chain : ℕ → List Hold) (t n i j : ℕ) → i < n → j ≡ t + i
    → get_or (held_from chain t n) i [] ≡ chain (j + j + 1)
held-shown chain t zero i j lt is = absurd (omega arith)
held-shown chain t (suc n) zero j lt is = let same : t ≡ j = omega arith in ap (λ z. chain (z + z + 1)) same
held-shown chain t (suc n) (suc i) j lt is = held-shown chain (suc t) n i j (omega arith) (omega arith)

-- the queues of one key change
pub entries-kept : (queue queue' : ℕ → List Claim) (k : ℕ) (keys : List Key)
    → ((j : ℕ) → k ≤ j → (queue' (j + j + 1) ≡ queue (j + j + 1)) × (queue' (j + j + 2) ≡ queue (j + j + 2)))
    → entries_from queue' k keys ≡ entries_from queue k keys
entries-kept queue queue' k [] same = refl
entries-kept queue queue' k (x ∷ xs) same =
    let here = same k (omega arith) in
    let first : entry_at queue' x k ≡ entry_at queue x k =
    ap (λ z. record { key = x; holders = z; waiters = queue' (k + k + 2) }) here.0
    ∙ ap (λ z. record { key = x; holders = queue (k + k + 1); waiters = z }) here.1 in
    ap (λ z. z ∷ entries_from queue' (suc k) xs) first
    ∙ ap (λ z. entry_at queue x k ∷ z) (entries-kept queue queue' (suc k) xs (λ j le. same j (omega arith)))

pub entries-put : (queue queue' : ℕ → List Claim) (k : ℕ) (key : Key) (keys : List Key) (p : ℕ)
    → place_in key keys < length keys → p ≡ k + place_in key keys
    → ((j : ℕ) → j ≢ p → (queue' (j + j + 1) ≡ queue (j + j + 1)) × (queue' (j + j + 2) ≡ queue (j + j + 2)))
    → entries_from queue' k keys ≡ put (entry_at queue' key p) (entries_from queue k keys)
entries-put queue queue' k key [] p lt is same = absurd (omega arith)
entries-put queue queue' k key (x ∷ xs) p lt is same = elim (cases_Bool (is_same_key key x)) [
  | inl here ↦
      let at = place-here key x xs here in
      let same_p : k ≡ p = omega arith in
      let rest : entries_from queue' (suc k) xs ≡ entries_from queue (suc k) xs =
      entries-kept queue queue' (suc k) xs (λ j le. same j (λ e. absurd (omega arith))) in
      ap (λ z. entry_at queue' z k ∷ entries_from queue' (suc k) xs) (sym (same_key key x here))
      ∙ (ap (λ z. entry_at queue' key z ∷ entries_from queue' (suc k) xs) same_p
      ∙ (ap (λ z. entry_at queue' key p ∷ z) rest
      ∙ sym (put-here (entry_at queue' key p) (entry_at queue x k) (entries_from queue (suc k) xs) here)))
  | inr later ↦
      let at = place-later key x xs later in
      let both = same k (λ e. absurd (omega arith)) in
      let first : entry_at queue' x k ≡ entry_at queue x k =
      ap (λ z. record { key = x; holders = z; waiters = queue' (k + k + 2) }) both.0
      ∙ ap (λ z. record { key = x; holders = queue (k + k + 1); waiters = z }) both.1 in
      ap (λ z. z ∷ entries_from queue' (suc k) xs) first
      ∙ (ap (λ z. entry_at queue x k ∷ z) (entries-put queue queue' (suc k) key xs p (omega arith) (omega arith) same)
      ∙ sym (put-later (entry_at queue' key p) (entry_at queue x k) (entries_from queue (suc k) xs) later))
]

-- one thread's list changes
pub held-kept : (chain chain' : ℕ → List Hold) (t n : ℕ) → ((j : ℕ) → t ≤ j → chain' (j + j + 1) ≡ chain (j + j + 1))
    → held_from chain' t n ≡ held_from chain t n
held-kept chain chain' t zero same = refl
held-kept chain chain' t (suc n) same = ap (λ z. z ∷ held_from chain' (suc t) n) (same t (omega arith))
    ∙ ap (λ z. chain (t + t + 1) ∷ z) (held-kept chain chain' (suc t) n (λ j le. same j (omega arith)))

pub held-set : (chain chain' : ℕ → List Hold) (t n i j : ℕ) → i < n → j ≡ t + i
    → ((m : ℕ) → m ≢ j → chain' (m + m + 1) ≡ chain (m + m + 1))
    → held_from chain' t n ≡ set (held_from chain t n) i (chain' (j + j + 1))
held-set chain chain' t zero i j lt is same = absurd (omega arith)
held-set chain chain' t (suc n) zero j lt is same =
    let here : t ≡ j = omega arith in
    ap (λ z. chain' (z + z + 1) ∷ held_from chain' (suc t) n) here
    ∙ ap (λ z. chain' (j + j + 1) ∷ z)
    (held-kept chain chain' (suc t) n (λ m le. same m (λ e. absurd (omega arith))))
held-set chain chain' t (suc n) (suc i) j lt is same =
    ap (λ z. z ∷ held_from chain' (suc t) n) (same t (λ e. absurd (omega arith)))
    ∙ ap (λ z. chain (t + t + 1) ∷ z) (held-set chain chain' (suc t) n i j (omega arith) (omega arith) same)

-- the first of a list
pub uncons : (xs : List ℕ) (x : ℕ) → head_or xs None ≡ Some x → (rest : List ℕ) × (xs ≡ x ∷ rest)
uncons [] x is = absurd (let no_number : None ≡ Some x = is in cc)
uncons (y ∷ ys) x is = (ys, let same : y ≡ x = (cc) in ap (λ z. z ∷ ys) same)

pub nothing_first : (xs : List ℕ) → head_or xs None ≡ None → xs ≡ []
nothing_first [] is = refl
nothing_first (x ∷ xs) is = absurd (let number : Some x ≡ None = is in cc)

-- how many lists there are
pub record Seen (keys : List Key) (threads : ℕ) (q c : Shape) (now : Contents) : Type 0 where
  pub keys_are : length keys ≡ length now.entries
  pub threads_are : threads ≡ length now.held
  pub queues : length q.lists ≡ length now.entries + length now.entries + 1
  pub few : length q.lists < 2 ^ 60
  pub chains : length c.lists ≡ length now.held + length now.held + 1
  pub numbers : (key : Key) → place_in key keys ≡ number_of key now.entries

pub seen : (nodes : List Grant) (keys : List Key) (threads : ℕ) (q c : Shape) (now : Contents)
    → IsArena nodes keys threads q c → shown nodes keys threads q c ≡ now → Seen keys threads q c now
seen nodes keys threads q c now a is =
    let n : length keys ≡ length now.entries = sym (length-entries_from (queue_at nodes q.lists) 0 keys)
    ∙ ap (λ (s : Contents). length s.entries) is in
    let m : threads ≡ length now.held = sym (length-held_from (chain_at nodes c.lists) 0 threads)
    ∙ ap (λ (s : Contents). length s.held) is in
    record {
      keys_are = n;
      threads_are = m;
      queues = a.queues ∙ ap (λ z. z + z + 1) n;
      few = a.few;
      chains = a.chains ∙ ap (λ z. z + z + 1) m;
      numbers = λ key. sym (number_of-entries_from key (queue_at nodes q.lists) 0 keys)
          ∙ ap (λ (s : Contents). number_of key s.entries) is;
    }

-- the claims on a known key
pub queues-seen : (nodes : List Grant) (keys : List Key) (threads : ℕ) (q c : Shape) (now : Contents) (key : Key)
    (at : ℕ) → IsArena nodes keys threads q c → shown nodes keys threads q c ≡ now → at ≡ number_of key now.entries
    → at < length now.entries → entry_of key now.entries ≡ entry_at (queue_at nodes q.lists) key at
queues-seen nodes keys threads q c now key at a is number known =
    let s = seen nodes keys threads q c now a is in
    let p : place_in key keys ≡ number_of key now.entries = s.numbers key in
    let n : length keys ≡ length now.entries = s.keys_are in
    sym (ap (λ (z : Contents). entry_of key z.entries) is)
    ∙ entry-shown (queue_at nodes q.lists) 0 key keys at (omega arith) (omega arith)

-- a thread's list
pub chain-seen : (nodes : List Grant) (keys : List Key) (threads : ℕ) (q c : Shape) (now : Contents) (t : ℕ)
    → IsArena nodes keys threads q c → shown nodes keys threads q c ≡ now → t < length now.held
    → get_or now.held t [] ≡ chain_at nodes c.lists (t + t + 1)
chain-seen nodes keys threads q c now t a is lt =
    let s = seen nodes keys threads q c now a is in
    let m : threads ≡ length now.held = s.threads_are in
    sym (ap (λ (z : Contents). get_or z.held t []) is)
    ∙ held-shown (chain_at nodes c.lists) 0 threads t t (omega arith) (omega arith)

pub first_claim : (nodes : List Grant) (xs : List ℕ) (x : ℕ) (r : Grant) → head_or xs None ≡ Some x
    → r ≡ node_at nodes x → (let o : Option Claim = Some (record { thread = r.thread; mode = r.mode }) in o) ≡ first_of
    (claims nodes xs)
first_claim nodes xs x r is is_r =
    let found = uncons xs x is in
    ap (λ (z : Grant). Some (claim_of z.thread z.mode)) is_r ∙ sym (ap (λ z. first_of (claims nodes z)) found.1)

pub no_claim : (nodes : List Grant) (xs : List ℕ) → head_or xs None ≡ None
    → (let o : Option Claim = None in o) ≡ first_of (claims nodes xs)
no_claim nodes xs is = sym (ap (λ z. first_of (claims nodes z)) (nothing_first xs is))

pub first_held : (nodes : List Grant) (xs : List ℕ) (x : ℕ) (r : Grant) → head_or xs None ≡ Some x → r ≡ node_at nodes x
    → (let o : Option Hold = Some (record { key = r.key; mode = r.mode }) in o) ≡ first_hold (holds_at nodes xs)
first_held nodes xs x r is is_r =
    let found = uncons xs x is in
    ap (λ (z : Grant). Some (hold_of z.key z.mode)) is_r ∙ sym (ap (λ z. first_hold (holds_at nodes z)) found.1)

pub no_hold : (nodes : List Grant) (xs : List ℕ) → head_or xs None ≡ None
    → (let o : Option Hold = None in o) ≡ first_hold (holds_at nodes xs)
no_hold nodes xs is = sym (ap (λ z. first_hold (holds_at nodes z)) (nothing_first xs is))

-- a list that shows something has a first number
pub claimed_first : (nodes : List Grant) (xs : List ℕ) → 0 < length (claims nodes xs) → IsSome (head_or xs None)
claimed_first nodes [] some = absurd (omega arith)
claimed_first nodes (x ∷ xs) some = search rules

pub held_first : (nodes : List Grant) (xs : List ℕ) → 0 < length (holds_at nodes xs) → IsSome (head_or xs None)
held_first nodes [] some = absurd (omega arith)
held_first nodes (x ∷ xs) some = search rules

pub held_key : (nodes : List Grant) (xs : List ℕ) (key : Key)
    → option_map (λ (h : Hold). h.key) (first_hold (holds_at nodes xs)) ≡ Some key
    → (x : ℕ) × (rest : List ℕ) × (xs ≡ x ∷ rest) × ((node_at nodes x).key ≡ key)
held_key nodes [] key is = absurd (let no_key : None ≡ Some key = is in cc)
held_key nodes (x ∷ xs) key is = (x, xs, refl, let same : (node_at nodes x).key ≡ key = (cc) in same)

pub found_first : (xs : List ℕ) (x : ℕ) (rest : List ℕ) → xs ≡ x ∷ rest → IsSome (head_or xs None)
found_first xs x rest is = subst (λ z. IsSome (head_or z None)) (sym is) (search rules)

-- the lists of a known key are there, and their numbers are far from the greatest
pub record KeyLists (q : Shape) (at : ℕ) : Type 0 where
  pub holders : at + at + 1 < length q.lists
  pub waiters : at + at + 2 < length q.lists
  pub few : at + at + 2 < 2 ^ 60

pub key_lists : (nodes : List Grant) (keys : List Key) (threads : ℕ) (q c : Shape) (now : Contents) (at : ℕ)
    → IsArena nodes keys threads q c → shown nodes keys threads q c ≡ now → at < length now.entries → KeyLists q at
key_lists nodes keys threads q c now at a is known =
    let s = seen nodes keys threads q c now a is in
    let n = s.queues in
    let few = s.few in
    record { holders = omega arith; waiters = omega arith; few = omega arith }
