-- What a table that fits says of the state, and what its calls keep.
use Rattle.std.proofs.Common.{◌≡◌, ◌≢◌, inl, inr, ℕ, zero, suc, ◌<◌, List, [], ◌∷◌, ◌++◌, length, map, true, false, not}
use Rattle.std.proofs.Common.{Some, None, refl, sym, ◌∙◌, ap, subst, arith, append_assoc}
use Rattle.std.proofs.{lemmas.Bool.{eqb-true, eq-eqb, and_parts, cases_Bool, ne_eqb}, lemmas.List.{append-nil}}
use Rattle.std.specs.{Prelude.{ℤ, slice_index_or, slice_set, is_some, ◌==◌, ◌||◌}, List.{list_any}}
use Rattle.sect_lemmas.specs.Lists.{Has, put_at}
use Rattle.sect_lemmas.proofs.{Membership.{Has-cases, Has-right}, Options.{some_injective, none_or_some}}
use Rattle.sect_lemmas.proofs.{Replaced.{at-put_at}, Places.{at_of}}
use Rattle.sect_modes.specs.{declared.mode.Mode.{Mode}, declared.key.Key.{Key}, Key.{is_same_key}}
use Rattle.sect_table.specs.{declared.claims.Claim.{Claim}, declared.claims.Hold.{Hold}, declared.claims.Grant.{Grant}}
use Rattle.sect_table.specs.declared.claims.Answer.TheVariants.{Granted, Queued}
use Rattle.sect_table.specs.Contents.{Entry, Contents, Released, entry_of, put, mode_in, mode_for, stay, is_among}
use Rattle.sect_table.specs.Contents.{is_waiting, may_join, held_by, first_of, with_holder, with_waiter, claim_of}
use Rattle.sect_table.specs.Contents.{let_through, without_holder, grant_of, give, give_all, release_key, release_each}
use Rattle.sect_table.specs.{Contents.{released, AreApart}, Answers.{IsAnswered}}
use Rattle.sect_table.specs.Sound.{waits_of, AreEntriesApart, IsKept, IsFirstBlocked}
use Rattle.sect_table.proofs.shared.Shown.{entry_of-here, entry_of-later}
use Rattle.sect_table.proofs.shared.Entries.{entry_key, entry-new, entry_of-put, entry_of-put_other}
use Rattle.sect_table.proofs.shared.Claiming.{apart_left, mode_for-here, mode_for-later, mode_for-missing}
use Rattle.sect_table.proofs.shared.Claiming.{mode_for-stay_other, missing_stay, missing-claims_by}
use Rattle.sect_table.proofs.shared.Sounding.{waits_at-le, waits_for_none}
use Rattle.sect_types.specs.Store.{StoreView}
use Rattle.sect_modes.proofs.shared.Keys.{same_key, key_itself}
use Rattle.sect_emit.specs.{Plan.{held_mode}, Compiled.{CompiledView}, State.{Entered, ThreadState, State, IsThread}}
use Rattle.sect_world.specs.{Events.{Happens}, Runs.{RunsTo}, Blocked.{WantsFirst, IsBlocked}}
use Rattle.sect_world.specs.Waiting.{grips, Asks, AllWaitersAsk}
use Rattle.sect_world.specs.steps.Fits.{Fits, FitsBut, granted, all_granted, take_of, takes, given_to, grants_at}
use Rattle.sect_world.specs.steps.Fits.{grants_of, entries_left, takes_first}
use Rattle.sect_world.proofs.Claims.{held-grips, in_the_way, not_claiming, get-changed_other}
use Rattle.sect_world.proofs.Letting.{take_happens, keys_let_in}

-- who is among claims has one of them
among_has : (t : ℕ) (cs : List Claim) → is_among t cs ≡ true → (c : Claim) × Has cs c × (c.thread ≡ t)
among_has t [] e = absurd (let off : false ≡ true = e in cc)
among_has t (c ∷ cs) e = elim (cases_Bool (c.thread == t)) [
  | inl here ↦ (c, inl refl, eqb-true c.thread t here)
  | inr later ↦ let r = among_has t cs (sym (ap (λ b. b || is_among t cs) later) ∙ e) in (r.0, inr r.1, r.2)
]

-- the entry in which a thread waits
record Waiting (t : ℕ) (es : List Entry) : Type 0 where
  key : Key
  claim : Claim
  there : Has (entry_of key es).waiters claim
  own : claim.thread ≡ t

found : (t : ℕ) (es : List Entry) → AreEntriesApart es → list_any (λ e. is_among t e.waiters) es ≡ true → Waiting t es
found t [] a e = absurd (let off : false ≡ true = e in cc)
found t (f ∷ fs) a e = elim (cases_Bool (is_among t f.waiters)) [
  | inl here ↦
      let c = among_has t f.waiters here in
      record {
        key = f.key;
        claim = c.0;
        there =
            subst (λ (z : Entry). Has z.waiters c.0) (sym (entry_of-here f.key f fs (key_itself f.key))) c.1;
        own = c.2;
      }
  | inr later ↦
      let r = found t fs a.1 (sym (ap (λ b. b || list_any (λ e. is_among t e.waiters) fs) later) ∙ e) in
      let other : is_same_key r.key f.key ≡ false = elim (cases_Bool (is_same_key r.key f.key)) [
        | inl same ↦ absurd (subst (λ (z : Entry). Has z.waiters r.claim)
            (ap (λ z. entry_of z fs) (same_key r.key f.key same) ∙ entry-new f.key fs a.0) r.there)
        | inr e ↦ e
      ] in
      record {
        key = r.key;
        claim = r.claim;
        there =
            subst (λ (z : Entry). Has z.waiters r.claim) (sym (entry_of-later r.key f fs other)) r.there;
        own = r.own;
      }
]

-- a claim's mode
mode_of_claim : (cs : List Claim) (c : Claim) → AreApart cs → Has cs c → mode_for c.thread cs ≡ Some c.mode
mode_of_claim [] c a h = absurd h
mode_of_claim (d ∷ ds) c a (inl same) =
    mode_for-here c.thread d ds (eq-eqb d.thread c.thread (ap (λ (z : Claim). z.thread) same))
    ∙ ap (λ (z : Claim). Some z.mode) same
mode_of_claim (d ∷ ds) c a (inr h) =
    mode_for-later c.thread d ds (ne_eqb d.thread c.thread (λ e. not_claiming d.thread ds a.0 c h (sym e)))
    ∙ mode_of_claim ds c a.1 h

-- who holds a key is a thread
holder_there : (held : List (List Hold)) (u : ℕ) (k : Key) (m : Mode) → mode_in k (slice_index_or held u []) ≡ Some m
    → u < length held
holder_there [] u k m e = absurd (none_or_some m e)
holder_there (x ∷ xs) zero k m e = omega arith
holder_there (x ∷ xs) (suc u) k m e = let r = holder_there xs u k m e in omega arith

-- the mode in which the machine has a thread's key is the table's
pub table_tells : (c : Contents) (s : State) → IsKept c → Fits c s → (u : ℕ) (th : ThreadState) → IsThread s u th
    → (k : Key) → held_mode k th.held ≡ mode_for u (entry_of k c.entries).holders
table_tells c s kept f u th at k = ap (held_mode k) (f.held u th at)
    ∙ (held-grips k (held_by c u) ∙ kept.sound.agree u k)

record Holder (s : State) (k : Key) (h : Claim) : Type 0 where
  thread : ThreadState
  at : IsThread s h.thread thread
  mode : held_mode k thread.held ≡ Some h.mode

holder_of : (c : Contents) (s : State) → IsKept c → Fits c s → (k : Key) (h : Claim)
    → Has (entry_of k c.entries).holders h → Holder s k h
holder_of c s kept f k h there =
    let mode : mode_for h.thread (entry_of k c.entries).holders ≡ Some h.mode =
    mode_of_claim (entry_of k c.entries).holders h
    (apart_left (entry_of k c.entries).holders (entry_of k c.entries).waiters (kept.sound.apart k)) there in
    let within : h.thread < length c.held =
    holder_there c.held h.thread k h.mode (kept.sound.agree h.thread k ∙ mode) in
    let x = at_of s.threads h.thread (subst (λ n. h.thread < n) f.as_many within) in
    record { thread = x.0; at = x.1; mode = table_tells c s kept f h.thread x.0 x.1 k ∙ mode }

-- who waits in the table asks in the machine
pub waiter_asks : (c : Contents) (s : State) (t : ℕ) → IsKept c → Fits c s → is_waiting t c ≡ true
    → (k : Key) × (m : Mode) × Asks s t k m
waiter_asks c s t kept f e =
    let w = found t c.entries kept.apart e in
    (w.key, w.claim.mode, subst (λ z. Asks s z w.key w.claim.mode) w.own (f.waits w.key w.claim w.there))

-- and is blocked there
pub claim_is_blocked : (c : Contents) (s : State) (t : ℕ) (th : ThreadState) (k : Key) (w : Claim) → IsKept c → Fits c s
    → IsThread s t th → Has (entry_of k c.entries).waiters w → w.thread ≡ t → IsBlocked s th
claim_is_blocked c s t th k w kept f at there own = by (entry_of k c.entries).waiters refl there where
  asks : Asks s t k w.mode
  asks = subst (λ z. Asks s z k w.mode) own (f.waits k w there)

  by : (ws : List Claim) → (entry_of k c.entries).waiters ≡ ws → Has ws w → IsBlocked s th
  by [] is here = absurd here
  by (v ∷ vs) is here =
      let holders : List Claim = (entry_of k c.entries).holders in
      let way = in_the_way holders v.thread v.mode (subst (λ z. IsFirstBlocked holders z) is (kept.settled k)) in
      let asker = f.waits k v (subst (λ z. Has z v) (sym is) (inl refl)) in
      let holder = holder_of c s kept f k way.who way.there in
      record {
        key = k;
        mode = w.mode;
        first = subst (λ z. WantsFirst z k w.mode) (some_injective asks.0 th (sym asks.1 ∙ at)) asks.3;
        asker = v.thread;
        asking = asker.0;
        asker_is = asker.1;
        asked = v.mode;
        asks = asker.3;
        holder = way.who.thread;
        holding = holder.thread;
        holder_is = holder.at;
        other = way.other;
        held = way.who.mode;
        holds = holder.mode;
        against = way.against;
      }

pub waiter_is_blocked : (c : Contents) (s : State) (t : ℕ) (th : ThreadState) → IsKept c → Fits c s → IsThread s t th
    → is_waiting t c ≡ true → IsBlocked s th
waiter_is_blocked c s t th kept f at e =
    let w = found t c.entries kept.apart e in
    claim_is_blocked c s t th w.key w.claim kept f at w.there w.own

-- so is one that has just been queued
pub queued_is_blocked : (c c' : Contents) (s : State) (t : ℕ) (th : ThreadState) (k : Key) (m : Mode) → IsKept c'
    → Fits c' s → IsThread s t th → IsAnswered Queued t k m c c' → IsBlocked s th
queued_is_blocked c c' s t th k m kept f at a =
    let e : Entry = with_waiter (claim_of t m) (entry_of k c.entries) in
    let is : entry_of k c'.entries ≡ e =
    ap (entry_of k) a.2 ∙ (ap (λ z. entry_of z (put e c.entries)) (sym (entry_key k c.entries))
    ∙ entry_of-put e c.entries) in
    claim_is_blocked c' s t th k (claim_of t m) kept f at
    (subst (λ (z : Entry). Has z.waiters (claim_of t m)) (sym is)
    (Has-right (entry_of k c.entries).waiters (claim_of t m ∷ []) (claim_of t m) (inl refl))) refl

-- a thread that doesn't ask doesn't wait
pub no_waiter : (c : Contents) (s : State) (t : ℕ) (th : ThreadState) → IsKept c → Fits c s → IsThread s t th
    → ((k : Key) (m : Mode) → th.position ≡ Entered → WantsFirst th k m → ⊥) → is_waiting t c ≡ false
no_waiter c s t th kept f at none = elim (cases_Bool (is_waiting t c)) [
  | inl e ↦
      let a = waiter_asks c s t kept f e in
      let same : a.2.0 ≡ th = some_injective a.2.0 th (sym a.2.1 ∙ at) in
      absurd (none a.0 a.1 (subst (λ (z : ThreadState). z.position ≡ Entered) same a.2.2)
      (subst (λ z. WantsFirst z a.0 a.1) same a.2.3))
  | inr e ↦ e
]

-- a thread that doesn't wait is none of the waiters
not_waiting : (t : ℕ) (es : List Entry) → waits_of t es ≡ 0 → (k : Key) (w : Claim) → Has (entry_of k es).waiters w
    → w.thread ≢ t
not_waiting t es none k w h = let le = waits_at-le t k es in
    not_claiming t (entry_of k es).waiters (missing-claims_by t (entry_of k es).waiters (omega arith)) w h

-- the other threads are the same
abbrev pub KeepsOthers : ℕ → State → State → Type 0
KeepsOthers t s s' = (u : ℕ) (th : ThreadState) → u ≢ t → IsThread s u th → IsThread s' u th

pub put_keeps : (s : State) (t : ℕ) (th : ThreadState) (store : StoreView) (output : List ℤ)
    → KeepsOthers t s (record { store = store; output = output; threads = put_at t th s.threads })
put_keeps s t th store output u other ne at = get-changed_other t u (λ old. th) s.threads (λ e. ne (sym e)) ∙ at

pub granted_keeps : (s : State) (g : Grant) → KeepsOthers g.thread s (granted g s)
granted_keeps s g u other ne at = get-changed_other g.thread u (takes_first g.key g.mode) s.threads (λ e. ne (sym e))
    ∙ at

asks_on : (t : ℕ) (s s' : State) → KeepsOthers t s s' → (u : ℕ) (k : Key) (m : Mode) → u ≢ t → Asks s u k m
    → Asks s' u k m
asks_on t s s' keeps u k m ne a = (a.0, keeps u a.0 ne a.1, a.2, a.3)

-- where a thread that doesn't wait changes, the waiters ask as before
pub others_ask : (t : ℕ) (es : List Entry) (s s' : State) → waits_of t es ≡ 0 → KeepsOthers t s s' → AllWaitersAsk s es
    → AllWaitersAsk s' es
others_ask t es s s' none keeps all k w h =
    asks_on t s s' keeps w.thread k w.mode (not_waiting t es none k w h) (all k w h)

pub put_asks : (k : Key) (e : Entry) (es : List Entry) (s : State) → e.key ≡ k → AllWaitersAsk s es
    → ((w : Claim) → Has e.waiters w → Asks s w.thread k w.mode) → AllWaitersAsk s (put e es)
put_asks k e es s key all own q w h = elim (cases_Bool (is_same_key q e.key)) [
  | inl same ↦
      let is : q ≡ e.key = same_key q e.key same in
      let at : entry_of q (put e es) ≡ e = ap (λ z. entry_of z (put e es)) is ∙ entry_of-put e es in
      subst (λ z. Asks s w.thread z w.mode) (sym (is ∙ key)) (own w (subst (λ (z : Entry). Has z.waiters w) at h))
  | inr other ↦ all q w (subst (λ (z : Entry). Has z.waiters w) (entry_of-put_other q e es other) h)
]

-- a request that is granted is a `take`
pub granted_happens : (p : CompiledView) (c c' : Contents) (s : State) (g : Grant) → IsKept c → Fits c s
    → Asks s g.thread g.key g.mode → IsAnswered Granted g.thread g.key g.mode c c'
    → Happens p s (take_of g) (granted g s)
granted_happens p c c' s g kept f asks a =
    let both = and_parts (not (is_some (first_of (entry_of g.key c.entries).waiters)))
    (may_join (entry_of g.key c.entries).holders g.thread g.mode) a.0 in
    take_happens p s g (entry_of g.key c.entries).holders asks (λ u th at ne. table_tells c s kept f u th at g.key)
    both.1

pub granted_asks : (c c' : Contents) (s : State) (g : Grant) → Fits c s → is_waiting g.thread c ≡ false
    → IsAnswered Granted g.thread g.key g.mode c c' → AllWaitersAsk (granted g s) c'.entries
granted_asks c c' s g f idle a =
    let e : Entry = with_holder (claim_of g.thread g.mode) (entry_of g.key c.entries) in
    let before = others_ask g.thread c.entries s (granted g s) (waits_for_none g.thread c.entries idle)
    (granted_keeps s g) f.waits in
    subst (AllWaitersAsk (granted g s)) (sym a.2)
    (put_asks g.key e c.entries (granted g s) (entry_key g.key c.entries) before (λ w h. before g.key w h))

-- and one that is queued changes nothing in the machine
pub queued_fits : (c c' : Contents) (s : State) (t : ℕ) (k : Key) (m : Mode) → Fits c s → Asks s t k m
    → IsAnswered Queued t k m c c' → Fits c' s
queued_fits c c' s t k m f asks a =
    let e : Entry = with_waiter (claim_of t m) (entry_of k c.entries) in
    let own : (w : Claim) → Has e.waiters w → Asks s w.thread k w.mode =
    λ w h. elim (Has-cases (entry_of k c.entries).waiters (claim_of t m ∷ []) w h) [
      | inl old ↦ f.waits k w old
      | inr new ↦ elim new [ inl is ↦ subst (λ (z : Claim). Asks s z.thread k z.mode) is asks | inr off ↦ absurd off ]
    ] in
    record {
      as_many = ap length a.1 ∙ f.as_many;
      held = λ u th at. f.held u th at ∙ ap (λ z. grips (slice_index_or z u [])) (sym a.1);
      waits = subst (AllWaitersAsk s) (sym a.2) (put_asks k e c.entries s (entry_key k c.entries) f.waits own);
    }

-- thread t gives back what it holds
pub out_fits : (c : Contents) (s : State) (t : ℕ) (th : ThreadState) (store : StoreView) (output : List ℤ) → IsKept c
    → Fits c s → is_waiting t c ≡ false → th.held ≡ []
    → FitsBut t c.entries (record { store = store; output = output; threads = put_at t th s.threads })
out_fits c s t th store output kept f idle empty = record {
  agree = λ u x at k. elim (at-put_at t u th x s.threads at) [
    | inl same ↦
        ap (λ (z : ThreadState). held_mode k z.held) (sym same.1) ∙ (ap (held_mode k) empty
        ∙ sym (ap (λ z. mode_for z (stay t (entry_of k c.entries).holders)) (sym same.0)
        ∙ mode_for-missing t (stay t (entry_of k c.entries).holders) (missing_stay t (entry_of k c.entries).holders)))
    | inr other ↦ table_tells c s kept f u x other.1 k
        ∙ sym (mode_for-stay_other u t (entry_of k c.entries).holders (ne_eqb u t (λ e. other.0 (sym e))))
  ];
  waits = others_ask t c.entries s (record { store = store; output = output; threads = put_at t th s.threads })
      (waits_for_none t c.entries idle) (put_keeps s t th store output) f.waits;
  once = kept.sound.once;
  apart = kept.sound.apart;
}

-- what `released` says, in these words
all_given : (k : Key) (gs : List Claim) (held : List (List Hold))
    → give_all k gs held ≡ given_to (map (grant_of k) gs) held
all_given k [] held = refl
all_given k (g ∷ gs) held = all_given k gs (give g.thread k g.mode held)

given-append : (xs ys : List Grant) (held : List (List Hold))
    → given_to (xs ++ ys) held ≡ given_to ys (given_to xs held)
given-append [] ys held = refl
given-append (x ∷ xs) ys held = given-append xs ys (give x.thread x.key x.mode held)

pub record ReleasedAs (t : ℕ) (hs : List Hold) (r : Released) : Type 0 where
  pub entries : (release_each t hs r).entries ≡ entries_left t hs r.entries
  pub grants : (release_each t hs r).grants ≡ r.grants ++ grants_of t hs r.entries
  pub held : (release_each t hs r).held ≡ given_to (grants_of t hs r.entries) r.held

pub released_as : (t : ℕ) (hs : List Hold) (r : Released) → ReleasedAs t hs r
released_as t [] r = record { entries = refl; grants = sym (append-nil r.grants); held = refl }
released_as t (h ∷ hs) r =
    let r1 : Released = release_key t h.key r in
    let rest = released_as t hs r1 in
    let here : List Grant = grants_at t h.key r.entries in
    let more : List Grant = grants_of t hs r1.entries in
    let through : List Claim = let_through (without_holder t (entry_of h.key r.entries)).holders
    (without_holder t (entry_of h.key r.entries)).waiters in
    record {
      entries = rest.entries;
      grants = rest.grants ∙ append_assoc r.grants here more;
      held = rest.held ∙ (ap (given_to more) (all_given h.key through r.held) ∙ sym (given-append here more r.held));
    }

-- the release of all keys of thread t: its grants are takes that may happen, after which the waiters ask as they should
pub record ReleaseLeads (p : CompiledView) (t : ℕ) (c : Contents) (s : State) : Type 0 where
  pub leads : RunsTo p s (takes (released t c).grants) (all_granted (released t c).grants s)
  pub waits : AllWaitersAsk (all_granted (released t c).grants s) (released t c).entries
  pub held : (released t c).held ≡ given_to (released t c).grants (slice_set c.held t [])

pub release_leads : (p : CompiledView) (t : ℕ) (c : Contents) (s : State) → FitsBut t c.entries s
    → is_waiting t c ≡ false → ReleaseLeads p t c s
release_leads p t c s f idle =
    let is = released_as t (held_by c t) (record { held = slice_set c.held t []; entries = c.entries; grants = [] }) in
    let l = keys_let_in p t (held_by c t) c.entries s f (waits_for_none t c.entries idle) in
    let gs : List Grant = grants_of t (held_by c t) c.entries in
    record {
      leads = subst (λ z. RunsTo p s (takes z) (all_granted z s)) (sym is.grants) l.leads;
      waits = subst (λ z. AllWaitersAsk (all_granted z s) (released t c).entries) (sym is.grants)
          (subst (AllWaitersAsk (all_granted gs s)) (sym is.entries) l.fits.waits);
      held = is.held ∙ ap (λ z. given_to z (slice_set c.held t [])) (sym is.grants);
    }

-- a key that nobody holds or wants is free
pub nobody_claims : (c : Contents) (s : State) (k : Key) → IsKept c → Fits c s
    → ((u : ℕ) (th : ThreadState) → IsThread s u th → held_mode k th.held ≡ None)
    → ((u : ℕ) (th : ThreadState) (m : Mode) → IsThread s u th → WantsFirst th k m → ⊥)
    → ((entry_of k c.entries).holders ≡ []) × ((entry_of k c.entries).waiters ≡ [])
nobody_claims c s k kept f unheld unwanted = (
  none_of (entry_of k c.entries).holders (λ h there. no_holder h there),
  none_of (entry_of k c.entries).waiters (λ w there. no_claim w there),
) where
  none_of : (cs : List Claim) → ((x : Claim) → Has cs x → ⊥) → cs ≡ []
  none_of [] no_one = refl
  none_of (x ∷ xs) no_one = absurd (no_one x (inl refl))

  no_holder : (h : Claim) → Has (entry_of k c.entries).holders h → ⊥
  no_holder h there = let x = holder_of c s kept f k h there in
      none_or_some h.mode (sym (unheld h.thread x.thread x.at) ∙ x.mode)

  no_claim : (w : Claim) → Has (entry_of k c.entries).waiters w → ⊥
  no_claim w there = let a = f.waits k w there in unwanted w.thread a.0 w.mode a.1 a.3
