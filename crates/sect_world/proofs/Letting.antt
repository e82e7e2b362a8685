-- The grants of a release are `take` events that may happen one after another.
use Rattle.std.proofs.Common.{◌≡◌, ◌≢◌, ◌⊎◌, inl, inr, ℕ, ◌+◌, ◌≤◌, List, [], ◌∷◌, ◌++◌, length, map, drop, true, false}
use Rattle.std.proofs.Common.{Some, None, refl, sym, ◌∙◌, ap, subst, arith, append_assoc}
use Rattle.std.proofs.lemmas.List.{append-nil, map-append}
use Rattle.std.proofs.lemmas.Bool.{cases_eq, eqb-true, eq-eqb, cases_Bool, or_parts}
use Rattle.std.specs.Prelude.{slice_get, ◌==◌}
use Rattle.sect_lemmas.specs.Lists.{Has, changed_at}
use Rattle.sect_modes.specs.{declared.mode.Mode.{Mode}, declared.key.Key.{Key}, Key.{is_same_key}}
use Rattle.sect_table.specs.{declared.claims.Claim.{Claim}, declared.claims.Hold.{Hold}, declared.claims.Grant.{Grant}}
use Rattle.sect_table.specs.Contents.{Entry, entry_of, put, mode_for, stay, is_among, may_join, let_in, let_through}
use Rattle.sect_table.specs.{Contents.{without_holder, grant_of, AreApart}, Sound.{waits_of, claims_by}}
use Rattle.sect_table.proofs.shared.Entries.{entry_key, entry_of-put, entry_of-put_other, put-put}
use Rattle.sect_table.proofs.shared.Claiming.{true_or_false, among-append, among_append, among_one, apart_swap}
use Rattle.sect_table.proofs.shared.Claiming.{apart_stay, mode_for-missing, mode_for-push, mode_for-push_other}
use Rattle.sect_table.proofs.shared.Claiming.{missing_stay, missing-claims_by, claims_by-drop, stay-missing}
use Rattle.sect_table.proofs.shared.Sounding.{put_all, waits_of-put, waits_at-le}
use Rattle.sect_table.proofs.shared.Passing.{let_through-yes, let_through-no}
use Rattle.sect_emit.specs.{declared.plan.Grip.{Grip}, Plan.{grip, held_mode}, Compiled.{CompiledView}}
use Rattle.sect_emit.specs.State.{ThreadState, State, IsThread}
use Rattle.sect_world.specs.{Events.{taking, lets_in, all_but, Happens}, Runs.{RunsTo}}
use Rattle.sect_world.specs.Waiting.{Asks}
use Rattle.sect_lemmas.proofs.Options.{some_injective}
use Rattle.sect_modes.proofs.shared.Keys.{same_key, key_itself}
use Rattle.sect_world.specs.steps.Fits.{FitsBut, takes_first, granted, all_granted, take_of, takes, grants_at}
use Rattle.sect_world.specs.steps.Fits.{entries_after, grants_of, entries_left}
use Rattle.sect_world.proofs.Claims.{held-push, held-push_other, joins, all_but_of, lets_of, get-changed_other}
use Rattle.sect_world.proofs.Claims.{get-changed_here, changed-put, not_claiming}
use Rattle.sect_world.proofs.shared.LongerRuns.{leads_on}

abbrev entry : Key → List Claim → List Claim → Entry
entry k hs ws = record { key = k; holders = hs; waiters = ws }

-- what a thread that asks does when it takes
pub taken : (k : Key) (m : Mode) (th : ThreadState) (rest : List Grip) → th.wanted ≡ grip k m ∷ rest
    → takes_first k m th ≡ taking k m rest th
taken k m th rest e = ap (λ gs. taking k m (drop 1 gs) th) e

-- the `take` of a thread whose first key the holders let it have
pub take_happens : (c : CompiledView) (s : State) (g : Grant) (hs : List Claim) → Asks s g.thread g.key g.mode
    → ((u : ℕ) (th : ThreadState) → IsThread s u th → u ≢ g.thread → held_mode g.key th.held ≡ mode_for u hs)
    → may_join hs g.thread g.mode ≡ true → Happens c s (take_of g) (granted g s)
take_happens c s g hs asks agree joined =
    let th = asks.0 in
    let rest = asks.3.0 in
    let free : all_but g.thread (lets_in g.key g.mode) s.threads ≡ true =
    all_but_of g.thread (lets_in g.key g.mode) s.threads (λ u other at ne.
    lets_of (held_mode g.key other.held) g.mode
    (λ n e. joins hs g.thread g.mode u n joined (sym (agree u other at ne) ∙ e) ne)) in
    let same : changed_at g.thread (takes_first g.key g.mode) s.threads ≡ changed_at g.thread
    (λ old. taking g.key g.mode rest th) s.threads =
    changed-put g.thread (takes_first g.key g.mode) s.threads th asks.1
    ∙ ap (λ z. changed_at g.thread (λ old. z) s.threads) (taken g.key g.mode th rest asks.3.1) in (
      th,
      asks.1,
      (
        rest,
        asks.2,
        asks.3.1,
        free,
        ap (λ ths. record { store = s.store; output = s.output; threads = ths })
            same,
      ),
    )

-- a thread after a grant: another one is as it was
asks_still : (s : State) (g : Grant) (t : ℕ) (k : Key) (m : Mode) → t ≢ g.thread → Asks s t k m
    → Asks (granted g s) t k m
asks_still s g t k m ne a = (
  a.0,
  get-changed_other g.thread t (takes_first g.key g.mode) s.threads (λ e. ne (sym e))
      ∙ a.1,
  a.2,
  a.3,
)

-- what it holds after a grant
record Was (s : State) (g : Grant) (u : ℕ) (th : ThreadState) : Type 0 where
  old : ThreadState
  at : IsThread s u old
  is : ((u ≡ g.thread) × (th.held ≡ old.held ++ grip g.key g.mode ∷ [])) ⊎ ((u ≢ g.thread) × (th.held ≡ old.held))

was : (s : State) (g : Grant) (a : Asks s g.thread g.key g.mode) (u : ℕ) (th : ThreadState)
    → IsThread (granted g s) u th → Was s g u th
was s g a u th at = elim (cases_eq u g.thread) [
  | inl same ↦
      let here : slice_get (changed_at g.thread (takes_first g.key g.mode) s.threads) u ≡ Some
      (takes_first g.key g.mode a.0) =
      ap (slice_get (changed_at g.thread (takes_first g.key g.mode) s.threads)) same
      ∙ get-changed_here g.thread (takes_first g.key g.mode) s.threads a.0 a.1 in
      let is : takes_first g.key g.mode a.0 ≡ th = some_injective (takes_first g.key g.mode a.0) th (sym here ∙ at) in
      record {
        old = a.0;
        at = ap (slice_get s.threads) same ∙ a.1;
        is =
            inl (same, ap (λ (z : ThreadState). z.held) (sym is));
      }
  | inr other ↦
      record {
        old = th;
        at = sym (get-changed_other g.thread u (takes_first g.key g.mode) s.threads
            (λ e. other (sym e))) ∙ at;
        is = inr (other, refl);
      }
]

-- one claim more
stay_push : (t : ℕ) (hs : List Claim) (w : Claim) → is_among t hs ≡ false → w.thread ≢ t
    → is_among t (hs ++ w ∷ []) ≡ false
stay_push t hs w e ne = among_append t hs (w ∷ []) e
    (among_one t w (elim (cases_Bool (w.thread == t))
    [ inl own ↦ absurd (ne (eqb-true w.thread t own)) | inr other ↦ other ]))

-- how these entries fit where one is put in the place of another
record Puts (t : ℕ) (k : Key) (e : Entry) (es : List Entry) (s s' : State) : Type 0 where
  key : e.key ≡ k
  here : (u : ℕ) (th : ThreadState) → IsThread s' u th → held_mode k th.held ≡ mode_for u (stay t e.holders)
  others : (u : ℕ) (th : ThreadState) → IsThread s' u th → (q : Key) → is_same_key q k ≡ false
      → held_mode q th.held ≡ mode_for u (stay t (entry_of q es).holders)
  waiting : (w : Claim) → Has e.waiters w → Asks s' w.thread k w.mode
  others_waiting : (q : Key) → is_same_key q k ≡ false → (w : Claim) → Has (entry_of q es).waiters w
      → Asks s' w.thread q w.mode
  fewer : (u : ℕ) → claims_by u e.waiters ≤ claims_by u (entry_of k es).waiters
  apart : AreApart (e.holders ++ e.waiters)

put_fits : (t : ℕ) (k : Key) (e : Entry) (es : List Entry) (s s' : State) → FitsBut t es s → Puts t k e es s s'
    → FitsBut t (put e es) s'
put_fits t k e es s s' f p = record {
  agree = λ u th at q. elim (cases_Bool (is_same_key q k)) [
    | inl same ↦
        let is : q ≡ k = same_key q k same in
        subst (λ z. held_mode z th.held ≡ mode_for u (stay t (entry_of z (put e es)).holders)) (sym is)
        (p.here u th at ∙ ap (λ (z : Entry). mode_for u (stay t z.holders)) (sym at_k))
    | inr other ↦ p.others u th at q other ∙ ap (λ (z : Entry). mode_for u (stay t z.holders)) (sym (at_other q other))
  ];
  waits = λ q w h. elim (cases_Bool (is_same_key q k)) [
    | inl same ↦
        let is : q ≡ k = same_key q k same in
        subst (λ z. Asks s' w.thread z w.mode) (sym is)
        (p.waiting w (subst (λ (z : Entry). Has z.waiters w) (ap (λ z. entry_of z (put e es)) is ∙ at_k) h))
    | inr other ↦ p.others_waiting q other w (subst (λ (z : Entry). Has z.waiters w) (at_other q other) h)
  ];
  once = λ u.
      let one = f.once u in
      let eq : waits_of u (put e es) + claims_by u (entry_of k es).waiters ≡ waits_of u es + claims_by u e.waiters =
      subst (λ z. waits_of u (put e es) + claims_by u (entry_of z es).waiters ≡ waits_of u es + claims_by u e.waiters)
      p.key (waits_of-put u e es) in
      let less = p.fewer u in
      omega arith;
  apart = put_all (λ z. AreApart (z.holders ++ z.waiters)) e es p.apart (λ q other. f.apart q);
} where
  at_k : entry_of k (put e es) ≡ e
  at_k = ap (λ z. entry_of z (put e es)) (sym p.key) ∙ entry_of-put e es

  at_other : (q : Key) → is_same_key q k ≡ false → entry_of q (put e es) ≡ entry_of q es
  at_other q other = entry_of-put_other q e es (ap (is_same_key q) p.key ∙ other)

-- the entry of a key without thread t
without_fits : (t : ℕ) (k : Key) (es : List Entry) (s : State) → FitsBut t es s
    → FitsBut t (put (without_holder t (entry_of k es)) es) s
without_fits t k es s f = put_fits t k (without_holder t (entry_of k es)) es s s f (record {
  key = entry_key k es;
  here = λ u th at. f.agree u th at k
      ∙ ap (mode_for u)
      (sym (stay-missing t (stay t (entry_of k es).holders) (missing_stay t (entry_of k es).holders)));
  others = λ u th at q other. f.agree u th at q;
  waiting = λ w h. f.waits k w h;
  others_waiting = λ q other w h. f.waits q w h;
  fewer = λ u. omega arith;
  apart = apart_stay t (entry_of k es).holders (entry_of k es).waiters (f.apart k);
})

-- the claims of a key, and of others, once its first waiter is taken out
record FirstOut (es : List Entry) (k : Key) (hs : List Claim) (w : Claim) (ws : List Claim) : Type 0 where
  rest : is_among w.thread ws ≡ false
  holds : is_among w.thread hs ≡ false
  elsewhere : (q : Key) → is_same_key q k ≡ false → is_among w.thread (entry_of q es).waiters ≡ false

claims-own : (w : Claim) (ws : List Claim) → claims_by w.thread (w ∷ ws) ≡ 1 + claims_by w.thread ws
claims-own w ws = ap (λ b. (elim b as (λ z. ℕ) [ true ↦ 1 | false ↦ 0 ]) + claims_by w.thread ws)
    (eq-eqb w.thread w.thread refl)

first_out : (t : ℕ) (es : List Entry) (s : State) (k : Key) (hs : List Claim) (w : Claim) (ws : List Claim)
    → FitsBut t es s → entry_of k es ≡ entry k hs (w ∷ ws) → FirstOut es k hs w ws
first_out t es s k hs w ws f is = record {
  rest = (among-append w.thread hs ws apart.1).1;
  holds = (among-append w.thread hs ws apart.1).0;
  elsewhere = λ q other.
      let without : List Entry = put (entry k hs ws) es in
      let one = f.once w.thread in
      let own = claims-own w ws in
      let before : claims_by w.thread (entry_of k es).waiters ≡ claims_by w.thread (w ∷ ws) =
      ap (λ (z : Entry). claims_by w.thread z.waiters) is in
      let eq : waits_of w.thread without + claims_by w.thread (entry_of k es).waiters ≡ waits_of w.thread es + claims_by
      w.thread ws = waits_of-put w.thread (entry k hs ws) es in
      let there = waits_at-le w.thread q without in
      let same : claims_by w.thread (entry_of q without).waiters ≡ claims_by w.thread (entry_of q es).waiters =
      ap (λ (z : Entry). claims_by w.thread z.waiters) (entry_of-put_other q (entry k hs ws) es other) in
      missing-claims_by w.thread (entry_of q es).waiters (omega arith);
} where
  apart : AreApart (hs ++ ws) × (is_among w.thread (hs ++ ws) ≡ false)
  apart = apart_swap hs w ws (subst (λ (z : Entry). AreApart (z.holders ++ z.waiters)) is (f.apart k))

-- the first waiter of a key comes to hold it
grant_fits : (t : ℕ) (es : List Entry) (s : State) (k : Key) (hs : List Claim) (w : Claim) (ws : List Claim)
    → FitsBut t es s → is_among t hs ≡ false → w.thread ≢ t
    → entry_of k es ≡ entry k hs (w ∷ ws) → FitsBut t (put (entry k (hs ++ w ∷ []) ws) es) (granted (grant_of k w) s)
grant_fits t es s k hs w ws f out ne is = put_fits t k (entry k (hs ++ w ∷ []) ws) es s (granted g s) f (record {
  key = refl;
  here = λ u th at.
      let b = was s g asks u th at in
      let before : held_mode k b.old.held ≡ mode_for u hs = f.agree u b.old b.at k
      ∙ (ap (λ (z : Entry). mode_for u (stay t z.holders)) is ∙ ap (mode_for u) (stay-missing t hs out)) in
      let after : mode_for u (stay t (hs ++ w ∷ [])) ≡ mode_for u (hs ++ w ∷ []) =
      ap (mode_for u) (stay-missing t (hs ++ w ∷ []) (stay_push t hs w out ne)) in
      elim b.is [
        | inl own ↦
            let none : held_mode k b.old.held ≡ None =
            before ∙ (ap (λ z. mode_for z hs) own.0 ∙ mode_for-missing w.thread hs o.holds) in
            ap (held_mode k) own.1 ∙ (held-push k (grip k w.mode) b.old.held none (key_itself k)
            ∙ (sym (mode_for-push u hs w (subst (λ z. is_among z hs ≡ false) (sym own.0) o.holds)
            (eq-eqb w.thread u (sym own.0))) ∙ sym after))
        | inr other ↦
            let not_own : (w.thread == u) ≡ false =
            elim (cases_Bool (w.thread == u))
            [ inl e ↦ absurd (other.0 (sym (eqb-true w.thread u e))) | inr e ↦ e ] in
            ap (held_mode k) other.1 ∙ (before ∙ (sym (mode_for-push_other u hs w not_own) ∙ sym after))
      ];
  others = λ u th at q off.
      let b = was s g asks u th at in
      elim b.is [
        | inl own ↦ ap (held_mode q) own.1 ∙ (held-push_other q (grip k w.mode) b.old.held off ∙ f.agree u b.old b.at q)
        | inr other ↦ ap (held_mode q) other.1 ∙ f.agree u b.old b.at q
      ];
  waiting = λ v h. asks_still s g v.thread k v.mode (not_claiming w.thread ws o.rest v h)
      (f.waits k v (subst (λ (z : Entry). Has z.waiters v) (sym is) (inr h)));
  others_waiting = λ q off v h. asks_still s g v.thread q v.mode
      (not_claiming w.thread (entry_of q es).waiters (o.elsewhere q off) v h) (f.waits q v h);
  fewer = λ u. subst (λ (z : Entry). claims_by u ws ≤ claims_by u z.waiters) (sym is) (omega arith);
  apart = subst AreApart (sym (append_assoc hs (w ∷ []) ws))
      (subst (λ (z : Entry). AreApart (z.holders ++ z.waiters)) is (f.apart k));
}) where
  g : Grant
  g = grant_of k w

  asks : Asks s w.thread k w.mode
  asks = f.waits k w (subst (λ (z : Entry). Has z.waiters w) (sym is) (inl refl))

  o : FirstOut es k hs w ws
  o = first_out t es s k hs w ws f is

pub granted-append : (xs ys : List Grant) (s : State) → all_granted (xs ++ ys) s ≡ all_granted ys (all_granted xs s)
granted-append [] ys s = refl
granted-append (x ∷ xs) ys s = granted-append xs ys (granted x s)

-- what a release leads to
pub record LetsIn (c : CompiledView) (t : ℕ) (s : State) (gs : List Grant) (es : List Entry) : Type 0 where
  pub leads : RunsTo c s (takes gs) (all_granted gs s)
  pub fits : FitsBut t es (all_granted gs s)

-- nothing changes where the entry that is put is the one that stands there
same_fits : (t : ℕ) (k : Key) (e : Entry) (es : List Entry) (s : State) → FitsBut t es s → e ≡ entry_of k es
    → FitsBut t (put e es) s
same_fits t k e es s f is = subst (λ z. FitsBut t (put z es) s) (sym is)
    (put_fits t k (entry_of k es) es s s f (record {
      key = entry_key k es;
      here = λ u th at. f.agree u th at k;
      others = λ u th at q other. f.agree u th at q;
      waiting = λ w h. f.waits k w h;
      others_waiting = λ q other w h. f.waits q w h;
      fewer = λ u. omega arith;
      apart = f.apart k;
    }))

-- letting one in first comes to the same
let_in_step : (k : Key) (hs : List Claim) (w : Claim) (ws : List Claim) → may_join hs w.thread w.mode ≡ true
    → let_in (entry k (hs ++ w ∷ []) ws) ≡ let_in (entry k hs (w ∷ ws))
let_in_step k hs w ws joined =
    let later : List Claim = let_through (hs ++ w ∷ []) ws in
    ap (λ z. record { key = k; holders = z; waiters = drop (length later) ws }) (append_assoc hs (w ∷ []) later)
    ∙ sym (ap (λ z. record { key = k; holders = hs ++ z; waiters = drop (length z) (w ∷ ws) })
    (let_through-yes hs w ws joined))

let_in_none : (k : Key) (hs ws : List Claim) → let_through hs ws ≡ [] → let_in (entry k hs ws) ≡ entry k hs ws
let_in_none k hs ws nobody =
    ap (λ z. record { key = k; holders = hs ++ z; waiters = drop (length z) ws }) nobody
    ∙ ap (λ z. record { key = k; holders = z; waiters = ws }) (append-nil hs)

-- nobody is let in
stays : (c : CompiledView) (t : ℕ) (k : Key) (ws hs : List Claim) (es : List Entry) (s : State) → FitsBut t es s
    → entry_of k es ≡ entry k hs ws
    → let_through hs ws ≡ [] → LetsIn c t s (map (grant_of k) (let_through hs ws)) (put (let_in (entry k hs ws)) es)
stays c t k ws hs es s f is nobody =
    subst (λ z. LetsIn c t s (map (grant_of k) z) (put (let_in (entry k hs ws)) es)) (sym nobody) (record {
      leads = refl;
      fits = same_fits t k (let_in (entry k hs ws)) es s f (let_in_none k hs ws nobody ∙ sym is);
    })

abbrev Through : CompiledView → ℕ → Key → List Claim → Type 0
Through c t k ws = (hs : List Claim) (es : List Entry) (s : State) → FitsBut t es s → is_among t hs ≡ false
    → is_among t ws ≡ false
    → entry_of k es ≡ entry k hs ws
    → LetsIn c t s (map (grant_of k) (let_through hs ws)) (put (let_in (entry k hs ws)) es)

-- the waiters of one key, from the front
through : (c : CompiledView) (t : ℕ) (k : Key) (ws hs : List Claim) (es : List Entry) (s : State) → FitsBut t es s
    → is_among t hs ≡ false → is_among t ws ≡ false
    → entry_of k es ≡ entry k hs ws
    → LetsIn c t s (map (grant_of k) (let_through hs ws)) (put (let_in (entry k hs ws)) es)
through c t k [] hs es s f out away is = stays c t k [] hs es s f is refl
through c t k (w ∷ ws) hs es s f out away is =
    by (λ hs1 es1 s1 f1 out1 away1 is1. through c t k ws hs1 es1 s1 f1 out1 away1 is1)
    (cases_Bool (may_join hs w.thread w.mode)) where
      off : ((w.thread == t) ≡ false) × (is_among t ws ≡ false)
      off = or_parts (w.thread == t) (is_among t ws) away

      other : w.thread ≢ t
      other e = true_or_false (w.thread == t) (eq-eqb w.thread t e) off.0

      by : Through c t k ws → (may_join hs w.thread w.mode ≡ true) ⊎ (may_join hs w.thread w.mode ≡ false)
          → LetsIn c t s (map (grant_of k) (let_through hs (w ∷ ws))) (put (let_in (entry k hs (w ∷ ws))) es)
      by next (inl joined) =
          let e1 : Entry = entry k (hs ++ w ∷ []) ws in
          let s1 : State = granted (grant_of k w) s in
          let rec = next (hs ++ w ∷ []) (put e1 es) s1 (grant_fits t es s k hs w ws f out other is)
          (stay_push t hs w out other) off.1 (entry_of-put e1 es) in
          let asks : Asks s w.thread k w.mode =
          f.waits k w (subst (λ (z : Entry). Has z.waiters w) (sym is) (inl refl)) in
          let happens = take_happens c s (grant_of k w) hs asks
          (λ u th at ne. f.agree u th at k
          ∙ (ap (λ (z : Entry). mode_for u (stay t z.holders)) is ∙ ap (mode_for u) (stay-missing t hs out))) joined in
          let puts : put (let_in e1) (put e1 es) ≡ put (let_in (entry k hs (w ∷ ws))) es =
          put-put (let_in e1) e1 es refl
          ∙ ap (λ z. put z es) (let_in_step k hs w ws joined) in
          subst (λ z. LetsIn c t s (map (grant_of k) z) (put (let_in (entry k hs (w ∷ ws))) es))
          (sym (let_through-yes hs w ws joined)) (record {
            leads = (s1, happens, rec.leads);
            fits = subst (λ z. FitsBut t z (all_granted (map (grant_of k) (let_through (hs ++ w ∷ []) ws)) s1)) puts
                rec.fits;
          })
      by next (inr stopped) = stays c t k (w ∷ ws) hs es s f is (let_through-no hs w ws stopped)

-- one key that thread t gives back
pub key_lets_in : (c : CompiledView) (t : ℕ) (k : Key) (es : List Entry) (s : State) → FitsBut t es s
    → is_among t (entry_of k es).waiters ≡ false
    → LetsIn c t s (grants_at t k es) (entries_after t k es)
key_lets_in c t k es s f away =
    let e : Entry = without_holder t (entry_of k es) in
    let one = through c t k e.waiters e.holders (put e es) s (without_fits t k es s f)
    (missing_stay t (entry_of k es).holders) away at_e in
    record {
      leads = subst (λ z. RunsTo c s (takes (map (grant_of k) (let_through e.holders e.waiters))) z) refl
          one.leads;
      fits = subst (λ z. FitsBut t z (all_granted (grants_at t k es) s)) puts one.fits;
    } where
      keyed : (without_holder t (entry_of k es)).key ≡ k
      keyed = entry_key k es

      small : without_holder t (entry_of k es) ≡ entry k (without_holder t (entry_of k es)).holders
          (without_holder t (entry_of k es)).waiters
      small = ap (λ z. entry z (without_holder t (entry_of k es)).holders (without_holder t (entry_of k es)).waiters)
          keyed

      at_e : entry_of k (put (without_holder t (entry_of k es)) es) ≡ entry k (without_holder t (entry_of k es)).holders
          (without_holder t (entry_of k es)).waiters
      at_e = ap (λ z. entry_of z (put (without_holder t (entry_of k es)) es)) (sym keyed)
          ∙ (entry_of-put (without_holder t (entry_of k es)) es ∙ small)

      puts : put
          (let_in (entry k (without_holder t (entry_of k es)).holders (without_holder t (entry_of k es)).waiters))
          (put (without_holder t (entry_of k es)) es) ≡ entries_after t k es
      puts =
          put-put
          (let_in (entry k (without_holder t (entry_of k es)).holders (without_holder t (entry_of k es)).waiters))
          (without_holder t (entry_of k es)) es (sym keyed) ∙ ap (λ z. put (let_in z) es) (sym small)

-- thread t waits for none of these
abbrev pub WaitsForNone : ℕ → List Entry → Type 0
WaitsForNone t es = waits_of t es ≡ 0

still_none : (t : ℕ) (k : Key) (es : List Entry) → WaitsForNone t es → WaitsForNone t (entries_after t k es)
still_none t k es none =
    let e : Entry = without_holder t (entry_of k es) in
    let eq : waits_of t (put (let_in e) es) + claims_by t (entry_of e.key es).waiters ≡ waits_of t es + claims_by t
    (let_in e).waiters = waits_of-put t (let_in e) es in
    let here : claims_by t (entry_of k es).waiters ≤ waits_of t es = waits_at-le t k es in
    let less : claims_by t (let_in e).waiters ≤ claims_by t e.waiters =
    claims_by-drop t (length (let_through e.holders e.waiters)) e.waiters in
    omega arith

-- the keys that thread t gives back, one after another
pub keys_let_in : (c : CompiledView) (t : ℕ) (hs : List Hold) (es : List Entry) (s : State) → FitsBut t es s
    → WaitsForNone t es
    → LetsIn c t s (grants_of t hs es) (entries_left t hs es)
keys_let_in c t [] es s f none = record { leads = refl; fits = f }
keys_let_in c t (h ∷ hs) es s f none =
    let here : claims_by t (entry_of h.key es).waiters ≤ waits_of t es = waits_at-le t h.key es in
    let one = key_lets_in c t h.key es s f (missing-claims_by t (entry_of h.key es).waiters (omega arith)) in
    let s1 : State = all_granted (grants_at t h.key es) s in
    let rest = keys_let_in c t hs (entries_after t h.key es) s1 one.fits (still_none t h.key es none) in
    let gs : List Grant = grants_at t h.key es in
    let more : List Grant = grants_of t hs (entries_after t h.key es) in
    let same : all_granted (gs ++ more) s ≡ all_granted more s1 = granted-append gs more s in
    record {
      leads = subst (λ z. RunsTo c s z (all_granted (gs ++ more) s)) (sym (map-append take_of gs more))
          (leads_on c s s1 (all_granted (gs ++ more) s) (takes gs) (takes more) one.leads
          (subst (λ z. RunsTo c s1 (takes more) z) (sym same) rest.leads));
      fits = subst (λ z. FitsBut t (entries_left t (h ∷ hs) es) z) (sym same) rest.fits;
    }
