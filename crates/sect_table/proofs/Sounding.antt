-- What each step of a call keeps.
use Rattle.std.proofs.Common.{◌≡◌, inl, inr, ℕ, ◌+◌, ◌<◌, ◌≤◌, List, [], ◌∷◌, ◌++◌, length, drop, get_or, set}
use Rattle.std.proofs.Common.{true, false, None, refl, sym, ◌∙◌, ap, subst, arith, append_assoc, get_or-set_same}
use Rattle.std.proofs.{Common.{get_or-set_other}, lemmas.Bool.{eqb-true, eq-eqb, cases_Bool, eqb-false}}
use Rattle.std.proofs.lemmas.List.{length-set, append-nil}
use Rattle.std.specs.Prelude.{◌==◌, if◌then◌else◌}
use Rattle.sect_modes.specs.{declared.mode.Mode.{Mode}, declared.key.Key.{Key}, Key.{is_same_key}}
use Rattle.sect_modes.proofs.shared.Keys.{same_key, key_itself}
use Rattle.sect_table.specs.{declared.claims.Claim.{Claim}, declared.claims.Hold.{Hold}}
use Rattle.sect_table.specs.Contents.{Entry, Contents, entry_of, put, is_among, mode_in, mode_for, may_join, stay, give}
use Rattle.sect_table.specs.Contents.{hold_of, claim_of, with_holder, with_waiter, with_grant, without_holder, AreApart}
use Rattle.sect_table.specs.Sound.{AreTogether, AreKeysApart, claims_by, waits_of, waiting_count, AreThreadsBelow}
use Rattle.sect_table.specs.Sound.{AreWaitersBelow, IsSound}
use Rattle.sect_table.proofs.shared.Shown.{entry_of-here, entry_of-later}
use Rattle.sect_table.proofs.shared.Entries.{entry_key, entry_of-put, entry_of-put_other, put-put}
use Rattle.sect_table.proofs.shared.Claiming.{true_or_false, among-append, apart_swap, apart_stay, mode_for-missing}
use Rattle.sect_table.proofs.shared.Claiming.{mode_for-push, mode_for-push_other, mode_for-stay_other, missing_stay}
use Rattle.sect_table.proofs.shared.{Claiming.{mode_in-later}, Sounding.{put_all, waits_of-put}}
use Rattle.sect_table.proofs.Shown.{put-here, put-later}
use Rattle.sect_table.proofs.Claiming.{apart_insert, together_push, together_stay, mode_in-push, mode_in-push_other}
use Rattle.sect_table.proofs.Claiming.{keys_push, claims_by-append, claims_by-one, claims_by-le, below_push}

pub waiting_count-put : (e : Entry) (es : List Entry)
    → waiting_count (put e es) + length (entry_of e.key es).waiters ≡ waiting_count es + length e.waiters
waiting_count-put e [] = omega arith
waiting_count-put e (f ∷ fs) = elim (cases_Bool (is_same_key e.key f.key)) [
  | inl here ↦
      let a : waiting_count (put e (f ∷ fs)) ≡ length e.waiters + waiting_count fs =
      ap waiting_count (put-here e f fs here) in
      let b : length (entry_of e.key (f ∷ fs)).waiters ≡ length f.waiters =
      ap (λ (z : Entry). length z.waiters) (entry_of-here e.key f fs here) in
      omega arith
  | inr later ↦
      let a : waiting_count (put e (f ∷ fs)) ≡ length f.waiters + waiting_count (put e fs) =
      ap waiting_count (put-later e f fs later) in
      let b : length (entry_of e.key (f ∷ fs)).waiters ≡ length (entry_of e.key fs).waiters =
      ap (λ (z : Entry). length z.waiters) (entry_of-later e.key f fs later) in
      let rest = waiting_count-put e fs in
      omega arith
]

pub below_put : (n : ℕ) (e : Entry) (es : List Entry) → AreThreadsBelow n e.waiters → AreWaitersBelow n es
    → AreWaitersBelow n (put e es)
below_put n e [] b bs = (b, tt)
below_put n e (f ∷ fs) b bs = elim (is_same_key e.key f.key) as
    (λ z. AreWaitersBelow n (if z then e ∷ fs else f ∷ put e fs)) [
      | true ↦ (b, bs.1)
      | false ↦ (bs.0, below_put n e fs b bs.1)
    ]

pub below_at : (n : ℕ) (k : Key) (es : List Entry) → AreWaitersBelow n es → AreThreadsBelow n (entry_of k es).waiters
below_at n k [] b = tt
below_at n k (f ∷ fs) b = elim (cases_Bool (is_same_key k f.key)) [
  | inl here ↦ subst (λ (z : Entry). AreThreadsBelow n z.waiters) (sym (entry_of-here k f fs here)) b.0
  | inr later ↦ subst (λ (z : Entry). AreThreadsBelow n z.waiters) (sym (entry_of-later k f fs later))
      (below_at n k fs b.1)
]

-- the same lists
pub sound_of : (c c' : Contents) → c'.held ≡ c.held → c'.entries ≡ c.entries → IsSound c → IsSound c'
sound_of c c' h e s = record {
  together = subst (λ es. (k : Key) → AreTogether (entry_of k es).holders) (sym e) s.together;
  apart = subst (λ es. (k : Key) → AreApart ((entry_of k es).holders ++ (entry_of k es).waiters)) (sym e) s.apart;
  agree = subst (λ es. (t : ℕ) (k : Key) → mode_in k (get_or c'.held t []) ≡ mode_for t (entry_of k es).holders) (sym e)
      (subst (λ hs. (t : ℕ) (k : Key) → mode_in k (get_or hs t []) ≡ mode_for t (entry_of k c.entries).holders) (sym h)
      s.agree);
  keys = subst (λ hs. (t : ℕ) → AreKeysApart (get_or hs t [])) (sym h) s.keys;
  once = subst (λ es. (t : ℕ) → waits_of t es ≤ 1) (sym e) s.once;
  threads = subst (λ es. AreWaitersBelow (length c'.held) es) (sym e)
      (subst (λ hs. AreWaitersBelow (length hs) c.entries) (sym h) s.threads);
}

pub other_way : (t u : ℕ) → (t == u) ≡ false → (u == t) ≡ false
other_way t u ne = grind (arith, ne)

-- a thread comes to hold a key
pub holder_sound : (held : List (List Hold)) (entries : List Entry) (spare spare' : ℕ) (t : ℕ) (m : Mode) (k : Key)
    → IsSound (record { held = held; entries = entries; spare = spare }) → t < length held
    → is_among t ((entry_of k entries).holders ++ (entry_of k entries).waiters) ≡ false
    → may_join (entry_of k entries).holders t m ≡ true
    → IsSound (record {
      held = give t k m held;
      entries =
          put (with_holder (claim_of t m) (entry_of k entries)) entries;
      spare = spare';
    })
holder_sound held entries spare spare' t m k s lt none joins =
    let e : Entry = entry_of k entries in
    let e' : Entry = with_holder (claim_of t m) e in
    let keyed : e'.key ≡ k = entry_key k entries in
    let found : entry_of k (put e' entries) ≡ e' = ap (λ z. entry_of z (put e' entries)) (sym keyed)
    ∙ entry_of-put e' entries in
    let off = among-append t e.holders e.waiters none in
    let here : get_or (give t k m held) t [] ≡ get_or held t [] ++ hold_of k m ∷ [] =
    get_or-set_same held t (get_or held t [] ++ hold_of k m ∷ []) [] lt in
    let no_mode : mode_in k (get_or held t []) ≡ None = s.agree t k ∙ mode_for-missing t e.holders off.0 in
    record {
      together = put_all (λ z. AreTogether z.holders) e' entries
          (together_push e.holders (claim_of t m) (s.together k) off.0 joins) (λ j ne. s.together j);
      apart = put_all (λ z. AreApart (z.holders ++ z.waiters)) e' entries
          (subst AreApart (sym (append_assoc e.holders (claim_of t m ∷ []) e.waiters))
          (apart_insert e.holders (claim_of t m) e.waiters (s.apart k) none)) (λ j ne. s.apart j);
      agree = λ u j. elim (cases_Bool (is_same_key j k)) [
        | inl same ↦ subst (λ z. mode_in z (get_or (give t k m held) u []) ≡ mode_for u
            (entry_of z (put e' entries)).holders) (sym (same_key j k same))
            (own u e off.0 here no_mode (s.agree u k) ∙ sym (ap (λ (z : Entry). mode_for u z.holders) found))
        | inr other ↦ others u j other here (s.agree u j)
            ∙ sym (ap (λ (z : Entry). mode_for u z.holders)
            (entry_of-put_other j e' entries (ap (is_same_key j) keyed ∙ other)))
      ];
      keys = λ u. elim (cases_Bool (u == t)) [
        | inl same ↦ subst (λ z. AreKeysApart (get_or (give t k m held) z [])) (sym (eqb-true u t same))
            (subst AreKeysApart (sym here) (keys_push (get_or held t []) (hold_of k m) (s.keys t) no_mode))
        | inr other ↦ subst AreKeysApart
            (sym (get_or-set_other held t u (get_or held t [] ++ hold_of k m ∷ []) [] (eqb-false u t other)))
            (s.keys u)
      ];
      once = λ u. (let sum = waits_of-put u e' entries in
          let same : claims_by u (entry_of e'.key entries).waiters ≡ claims_by u e.waiters =
          ap (λ z. claims_by u (entry_of z entries).waiters) keyed in
          let le : waits_of u entries ≤ 1 = s.once u in
          omega arith);
      threads = subst (λ n. AreWaitersBelow n (put e' entries))
          (sym (length-set held t (get_or held t [] ++ hold_of k m ∷ [])))
          (below_put (length held) e' entries (below_at (length held) k entries s.threads) s.threads);
    }
  where
    own : (u : ℕ) (e : Entry) → is_among t e.holders ≡ false → get_or (give t k m held) t [] ≡ get_or held t []
        ++ hold_of k m ∷ [] → mode_in k (get_or held t []) ≡ None → mode_in k (get_or held u []) ≡ mode_for u e.holders
        → mode_in k (get_or (give t k m held) u []) ≡ mode_for u (e.holders ++ claim_of t m ∷ [])
    own u e off here no_mode was = elim (cases_Bool (u == t)) [
      | inl same ↦ subst (λ z. mode_in k (get_or (give t k m held) z []) ≡ mode_for z (e.holders ++ claim_of t m ∷ []))
          (sym (eqb-true u t same))
          (ap (mode_in k) here ∙ (mode_in-push k (get_or held t []) (hold_of k m) no_mode (key_itself k)
          ∙ sym (mode_for-push t e.holders (claim_of t m) off (eq-eqb t t refl))))
      | inr other ↦ ap (mode_in k) (get_or-set_other held t u (get_or held t [] ++ hold_of k m ∷ []) []
          (eqb-false u t other)) ∙ (was
          ∙ sym (mode_for-push_other u e.holders (claim_of t m) (other_way u t other)))
    ]

    others : (u : ℕ) (j : Key) → is_same_key j k ≡ false → get_or (give t k m held) t [] ≡ get_or held t []
        ++ hold_of k m ∷ [] → mode_in j (get_or held u []) ≡ mode_for u (entry_of j entries).holders
        → mode_in j (get_or (give t k m held) u []) ≡ mode_for u (entry_of j entries).holders
    others u j ne here was = elim (cases_Bool (u == t)) [
      | inl same ↦
          let apart : is_same_key k j ≡ false = elim (cases_Bool (is_same_key k j)) [
            | inl is ↦ absurd (true_or_false (is_same_key j k) (ap (is_same_key j) (same_key k j is) ∙ key_itself j) ne)
            | inr other_key ↦ other_key
          ] in
          ap (λ z. mode_in j (get_or (give t k m held) z [])) (eqb-true u t same)
          ∙ (ap (mode_in j) here ∙ (mode_in-push_other j (get_or held t []) (hold_of k m) apart
          ∙ (ap (λ z. mode_in j (get_or held z [])) (sym (eqb-true u t same)) ∙ was)))
      | inr other ↦ ap (mode_in j) (get_or-set_other held t u (get_or held t [] ++ hold_of k m ∷ []) []
          (eqb-false u t other)) ∙ was
    ]

-- the waiters of a key change, to no more than they were and one
waiters_sound : (held : List (List Hold)) (entries : List Entry) (spare spare' : ℕ) (k : Key) (ws : List Claim)
    → IsSound (record { held = held; entries = entries; spare = spare })
    → AreApart ((entry_of k entries).holders ++ ws)
    → ((u : ℕ) → waits_of u entries + claims_by u ws ≤ 1 + claims_by u (entry_of k entries).waiters)
    → AreThreadsBelow (length held) ws
    → IsSound (record {
      held = held;
      entries =
          put (record { key = (entry_of k entries).key; holders = (entry_of k entries).holders; waiters = ws }) entries;
      spare = spare';
    })
waiters_sound held entries spare spare' k ws s apart once below =
    let e : Entry = entry_of k entries in
    let e' : Entry = record { key = e.key; holders = e.holders; waiters = ws } in
    let keyed : e'.key ≡ k = entry_key k entries in
    let found : entry_of k (put e' entries) ≡ e' = ap (λ z. entry_of z (put e' entries)) (sym keyed)
    ∙ entry_of-put e' entries in
    record {
      together = put_all (λ z. AreTogether z.holders) e' entries (s.together k) (λ j ne. s.together j);
      apart = put_all (λ z. AreApart (z.holders ++ z.waiters)) e' entries apart (λ j ne. s.apart j);
      agree = λ u j. elim (cases_Bool (is_same_key j k)) [
        | inl same ↦ subst (λ z. mode_in z (get_or held u []) ≡ mode_for u (entry_of z (put e' entries)).holders)
            (sym (same_key j k same)) (s.agree u k ∙ sym (ap (λ (z : Entry). mode_for u z.holders) found))
        | inr other ↦ s.agree u j ∙ sym
            (ap (λ (z : Entry). mode_for u z.holders)
            (entry_of-put_other j e' entries (ap (is_same_key j) keyed ∙ other)))
      ];
      keys = s.keys;
      once = λ u. (let sum = waits_of-put u e' entries in
          let same : claims_by u (entry_of e'.key entries).waiters ≡ claims_by u e.waiters =
          ap (λ z. claims_by u (entry_of z entries).waiters) keyed in
          let le = once u in
          omega arith);
      threads = below_put (length held) e' entries below s.threads;
    }

-- a thread that waits nowhere comes to wait for a key
pub waiter_sound : (held : List (List Hold)) (entries : List Entry) (spare spare' : ℕ) (t : ℕ) (m : Mode) (k : Key)
    → IsSound (record { held = held; entries = entries; spare = spare }) → t < length held
    → is_among t ((entry_of k entries).holders ++ (entry_of k entries).waiters) ≡ false → waits_of t entries ≡ 0
    → IsSound (record {
      held = held;
      entries = put (with_waiter (claim_of t m) (entry_of k entries)) entries;
      spare =
          spare';
    })
waiter_sound held entries spare spare' t m k s lt none idle =
    let e : Entry = entry_of k entries in
    waiters_sound held entries spare spare' k (e.waiters ++ claim_of t m ∷ []) s
    (subst AreApart (append_assoc e.holders e.waiters (claim_of t m ∷ []))
    (apart_insert (e.holders ++ e.waiters) (claim_of t m) []
    (subst AreApart (sym (append-nil (e.holders ++ e.waiters))) (s.apart k))
    (subst (λ z. is_among t z ≡ false) (sym (append-nil (e.holders ++ e.waiters))) none)))
    (λ u. (let sum = claims_by-append u e.waiters (claim_of t m ∷ []) in
    let most = claims_by-le u (claim_of t m) in
    let le : waits_of u entries ≤ 1 = s.once u in
    elim (cases_Bool (t == u)) [
      | inl same ↦ let idle' : waits_of u entries ≡ 0 = ap (λ z. waits_of z entries) (sym (eqb-true t u same)) ∙ idle in
          omega arith
      | inr other ↦ let zero_claims = claims_by-one u (claim_of t m) other in omega arith
    ]))
    (below_push (length held) e.waiters (claim_of t m) (below_at (length held) k entries s.threads) lt)

-- the first waiter, which the holders let join, comes to hold the key
pub grant_sound : (held : List (List Hold)) (entries : List Entry) (spare spare' : ℕ) (k : Key) (w : Claim)
    (ws : List Claim)
    → IsSound (record { held = held; entries = entries; spare = spare }) → (entry_of k entries).waiters ≡ w ∷ ws
    → may_join (entry_of k entries).holders w.thread w.mode ≡ true
    → IsSound (record {
      held = give w.thread k w.mode held;
      entries =
          put (with_grant w (entry_of k entries)) entries;
      spare = spare';
    })
grant_sound held entries spare spare' k w ws s is joins =
    let e : Entry = entry_of k entries in
    let e1 : Entry = record { key = e.key; holders = e.holders; waiters = ws } in
    let keyed : e1.key ≡ k = entry_key k entries in
    let found : entry_of k (put e1 entries) ≡ e1 = ap (λ z. entry_of z (put e1 entries)) (sym keyed)
    ∙ entry_of-put e1 entries in
    let all : AreApart (e.holders ++ w ∷ ws) = subst (λ z. AreApart (e.holders ++ z)) is (s.apart k) in
    let swapped = apart_swap e.holders w ws all in
    let below : AreThreadsBelow (length held) (w ∷ ws) =
    subst (AreThreadsBelow (length held)) is (below_at (length held) k entries s.threads) in
    let rest : IsSound (record { held = held; entries = put e1 entries; spare = spare })
    = waiters_sound held entries spare spare k ws s swapped.0
    (λ u. (let same : claims_by u e.waiters ≡ claims_by u (w ∷ ws) = ap (claims_by u) is in
    let le : waits_of u entries ≤ 1 = s.once u in omega arith)) below.1 in
    let one = holder_sound held (put e1 entries) spare spare' w.thread w.mode k rest below.0
    (subst (λ (z : Entry). is_among w.thread (z.holders ++ z.waiters) ≡ false) (sym found) swapped.1)
    (subst (λ (z : Entry). may_join z.holders w.thread w.mode ≡ true) (sym found) joins) in
    let last : put (with_holder w (entry_of k (put e1 entries))) (put e1 entries) ≡ put (with_grant w e) entries
    = ap (λ z. put (with_holder w z) (put e1 entries)) found
    ∙ (put-put (with_holder w e1) e1 entries refl
    ∙ ap (λ z. put (record { key = e.key; holders = e.holders ++ w ∷ []; waiters = z }) entries)
    (sym (ap (drop 1) is))) in
    sound_of (record {
      held = give w.thread k w.mode held;
      entries =
          put (with_holder w (entry_of k (put e1 entries))) (put e1 entries);
      spare = spare';
    })
    (record { held = give w.thread k w.mode held; entries = put (with_grant w e) entries; spare = spare' }) refl
    (sym last) one

-- a thread gives the first key of its list back
pub release_sound : (held : List (List Hold)) (entries : List Entry) (spare spare' : ℕ) (t : ℕ) (h : Hold)
    (rest : List Hold)
    → IsSound (record { held = held; entries = entries; spare = spare }) → t < length held → get_or held t [] ≡ h ∷ rest
    → IsSound (record {
      held = set held t rest;
      entries =
          put (without_holder t (entry_of h.key entries)) entries;
      spare = spare';
    })
release_sound held entries spare spare' t h rest s lt is =
    let k : Key = h.key in
    let e : Entry = entry_of k entries in
    let e' : Entry = without_holder t e in
    let keyed : e'.key ≡ k = entry_key k entries in
    let found : entry_of k (put e' entries) ≡ e' = ap (λ z. entry_of z (put e' entries)) (sym keyed)
    ∙ entry_of-put e' entries in
    let here : get_or (set held t rest) t [] ≡ rest = get_or-set_same held t rest [] lt in
    let keys : AreKeysApart (h ∷ rest) = subst AreKeysApart is (s.keys t) in
    record {
      together = put_all (λ z. AreTogether z.holders) e' entries (together_stay t e.holders (s.together k))
          (λ j ne. s.together j);
      apart = put_all (λ z. AreApart (z.holders ++ z.waiters)) e' entries (apart_stay t e.holders e.waiters (s.apart k))
          (λ j ne. s.apart j);
      agree = λ u j. elim (cases_Bool (is_same_key j k)) [
        | inl same ↦ subst (λ z. mode_in z (get_or (set held t rest) u []) ≡ mode_for u
            (entry_of z (put e' entries)).holders) (sym (same_key j k same))
            (own u here keys.0 (s.agree u k) ∙ sym (ap (λ (z : Entry). mode_for u z.holders) found))
        | inr other ↦ others u j other here (s.agree u j)
            ∙ sym (ap (λ (z : Entry). mode_for u z.holders)
            (entry_of-put_other j e' entries (ap (is_same_key j) keyed ∙ other)))
      ];
      keys = λ u. elim (cases_Bool (u == t)) [
        | inl same ↦ subst (λ z. AreKeysApart (get_or (set held t rest) z [])) (sym (eqb-true u t same))
            (subst AreKeysApart (sym here) keys.1)
        | inr other ↦ subst AreKeysApart (sym (get_or-set_other held t u rest [] (eqb-false u t other))) (s.keys u)
      ];
      once = λ u. (let sum = waits_of-put u e' entries in
          let same : claims_by u (entry_of e'.key entries).waiters ≡ claims_by u e.waiters =
          ap (λ z. claims_by u (entry_of z entries).waiters) keyed in
          let le : waits_of u entries ≤ 1 = s.once u in
          omega arith);
      threads = subst (λ n. AreWaitersBelow n (put e' entries)) (sym (length-set held t rest))
          (below_put (length held) e' entries (below_at (length held) k entries s.threads) s.threads);
    }
  where
    own : (u : ℕ) → get_or (set held t rest) t [] ≡ rest → mode_in h.key rest ≡ None
        → mode_in h.key (get_or held u []) ≡ mode_for u (entry_of h.key entries).holders
        → mode_in h.key (get_or (set held t rest) u []) ≡ mode_for u (stay t (entry_of h.key entries).holders)
    own u here none was = elim (cases_Bool (u == t)) [
      | inl same ↦ subst (λ z. mode_in h.key (get_or (set held t rest) z []) ≡ mode_for z
          (stay t (entry_of h.key entries).holders)) (sym (eqb-true u t same))
          (ap (mode_in h.key) here ∙ (none
          ∙ sym (mode_for-missing t (stay t (entry_of h.key entries).holders)
          (missing_stay t (entry_of h.key entries).holders))))
      | inr other ↦ ap (mode_in h.key) (get_or-set_other held t u rest [] (eqb-false u t other))
          ∙ (was ∙ sym (mode_for-stay_other u t (entry_of h.key entries).holders other))
    ]

    others : (u : ℕ) (j : Key) → is_same_key j h.key ≡ false → get_or (set held t rest) t [] ≡ rest
        → mode_in j (get_or held u []) ≡ mode_for u (entry_of j entries).holders
        → mode_in j (get_or (set held t rest) u []) ≡ mode_for u (entry_of j entries).holders
    others u j ne here was = elim (cases_Bool (u == t)) [
      | inl same ↦
          let apart : is_same_key h.key j ≡ false = elim (cases_Bool (is_same_key h.key j)) [
            | inl eq ↦ absurd (true_or_false (is_same_key j h.key)
                (ap (is_same_key j) (same_key h.key j eq) ∙ key_itself j) ne)
            | inr other_key ↦ other_key
          ] in
          ap (λ z. mode_in j (get_or (set held t rest) z [])) (eqb-true u t same)
          ∙ (ap (mode_in j) here ∙ (sym (mode_in-later j h rest apart)
          ∙ (sym (ap (mode_in j) is) ∙ (ap (λ z. mode_in j (get_or held z [])) (sym (eqb-true u t same)) ∙ was))))
      | inr other ↦ ap (mode_in j) (get_or-set_other held t u rest [] (eqb-false u t other)) ∙ was
    ]
