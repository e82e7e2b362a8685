-- Giving keys back, one by one.
use Rattle.std.proofs.Common.{◌≡◌, ℕ, suc, ◌+◌, ◌<◌, ◌≤◌, List, [], ◌∷◌, ◌++◌, length, map, drop, get_or, set, false}
use Rattle.std.proofs.Common.{Some, None, refl, sym, ◌∙◌, ap, subst, arith, length-append, get_or-set_same}
use Rattle.std.proofs.{lemmas.Bool.{eq-eqb}, lemmas.List.{length-set, set-set, length-map}}
use Rattle.std.specs.Prelude.{◌==◌, is_some}
use Rattle.sect_modes.specs.declared.key.Key.{Key}
use Rattle.sect_modes.proofs.shared.Keys.{key_itself}
use Rattle.sect_table.specs.{declared.claims.Claim.{Claim}, declared.claims.Hold.{Hold}, declared.claims.Grant.{Grant}}
use Rattle.sect_table.specs.Contents.{Entry, Contents, Released, number_of, entry_of, put, held_by, mode_in, is_among}
use Rattle.sect_table.specs.Contents.{is_waiting, first_hold, grant_of, without_holder, let_in, let_through, give_all}
use Rattle.sect_table.specs.Contents.{release_key, release_each, AreApart}
use Rattle.sect_table.specs.Sound.{IsFirstBlocked, AreEntriesApart, claims_by, one_if, waits_of, waiting_count}
use Rattle.sect_table.specs.Sound.{AreThreadsBelow, AreWaitersBelow, IsSound, IsKept}
use Rattle.sect_table.specs.steps.{Links.{Each, IsAbsent, AreDistinct}, Letting.{Releasing}}
use Rattle.sect_table.proofs.{Whole.{few_distinct}, Entries.{put_apart}}
use Rattle.sect_table.proofs.{Sounding.{waiting_count-put, sound_of, release_sound}, Keeping.{held_known}}
use Rattle.sect_table.proofs.Passing.{length-put, number_of-put, entry-put, among_through, give_all-other}
use Rattle.sect_table.proofs.Passing.{length-give_all, set-give_all}
use Rattle.sect_table.proofs.shared.Entries.{entry_key, put-put}
use Rattle.sect_table.proofs.shared.Claiming.{apart_left, mode_in-here, claims_by-drop, missing-claims_by}
use Rattle.sect_table.proofs.shared.Sounding.{put_all, waits_of-put, waits_at-le, waits_for_none}

-- as many wait as there are threads at most
abbrev times : ℕ → List ℕ → ℕ
times t [] = 0
times t (x ∷ xs) = one_if (x == t) + times t xs

abbrev threads_of : List Claim → List ℕ
threads_of = map (λ c. c.thread)

abbrev all_waiting : List Entry → List ℕ
all_waiting [] = []
all_waiting (e ∷ es) = threads_of e.waiters ++ all_waiting es

times-append : (t : ℕ) (xs ys : List ℕ) → times t (xs ++ ys) ≡ times t xs + times t ys
times-append t [] ys = omega arith
times-append t (x ∷ xs) ys = let rest = times-append t xs ys in omega arith

times-threads_of : (t : ℕ) (cs : List Claim) → times t (threads_of cs) ≡ claims_by t cs
times-threads_of t [] = refl
times-threads_of t (c ∷ cs) = ap (λ z. one_if (c.thread == t) + z) (times-threads_of t cs)

times-all_waiting : (t : ℕ) (es : List Entry) → times t (all_waiting es) ≡ waits_of t es
times-all_waiting t [] = refl
times-all_waiting t (e ∷ es) =
    let both = times-append t (threads_of e.waiters) (all_waiting es) in
    let here = times-threads_of t e.waiters in
    let rest = times-all_waiting t es in
    omega arith

length-all_waiting : (es : List Entry) → length (all_waiting es) ≡ waiting_count es
length-all_waiting [] = refl
length-all_waiting (e ∷ es) =
    let both = length-append (threads_of e.waiters) (all_waiting es) in
    let here : length (threads_of e.waiters) ≡ length e.waiters = length-map e.waiters (λ c. c.thread) in
    let rest = length-all_waiting es in
    omega arith

absent_of : (x : ℕ) (xs : List ℕ) → times x xs ≡ 0 → IsAbsent x xs
absent_of x [] e = tt
absent_of x (y ∷ ys) e = (
  (λ same. let one : one_if (y == x) ≡ 1 = ap one_if (eq-eqb y x same) in absurd (omega arith)),
  absent_of x ys (omega arith),
)

distinct_of : (xs : List ℕ) → ((t : ℕ) → times t xs ≤ 1) → AreDistinct xs
distinct_of [] e = tt
distinct_of (x ∷ xs) e =
    let one : one_if (x == x) ≡ 1 = ap one_if (eq-eqb x x refl) in
    let le : one_if (x == x) + times x xs ≤ 1 = e x in (
      absent_of x xs (omega arith),
      distinct_of xs (λ t. (let all : one_if (x == t) + times t xs ≤ 1 = e t in omega arith)),
    )

each_join : (n : ℕ) (xs ys : List ℕ) → Each (λ i. i < n) xs → Each (λ i. i < n) ys → Each (λ i. i < n) (xs ++ ys)
each_join n [] ys a b = b
each_join n (x ∷ xs) ys a b = (a.0, each_join n xs ys a.1 b)

threads_below : (n : ℕ) (cs : List Claim) → AreThreadsBelow n cs → Each (λ i. i < n) (threads_of cs)
threads_below n [] b = tt
threads_below n (c ∷ cs) b = (b.0, threads_below n cs b.1)

all_below : (n : ℕ) (es : List Entry) → AreWaitersBelow n es → Each (λ i. i < n) (all_waiting es)
all_below n [] b = tt
all_below n (e ∷ es) b = each_join n (threads_of e.waiters) (all_waiting es) (threads_below n e.waiters b.0)
    (all_below n es b.1)

pub few_waiters : (c : Contents) → IsSound c → waiting_count c.entries ≤ length c.held
few_waiters c s =
    let most = few_distinct (length c.held) (all_waiting c.entries)
    (distinct_of (all_waiting c.entries)
    (λ t. (let same = times-all_waiting t c.entries in let le : waits_of t c.entries ≤ 1 = s.once t in
    omega arith))) (all_below (length c.held) c.entries s.threads) in
    let same = length-all_waiting c.entries in
    omega arith

-- the beginning of a release
pub releasing_first : (t room : ℕ) (old : Contents) (g : List Grant) → IsKept old → is_waiting t old ≡ false
    → length old.held ≤ room → g ≡ [] → Releasing t room old old g
releasing_first t room old g s idle fits none = record {
  apart = s.apart;
  sound = s.sound;
  settled = s.settled;
  passes = ap (λ z. release_each t (held_by old t)
      (record { held = set old.held t []; entries = old.entries; grants = z })) none;
  idle = waits_for_none t old.entries idle;
  count = refl;
  spare = refl;
  fits = (let few = few_waiters old s.sound in let empty : length g ≡ 0 = ap length none in omega arith);
}

-- the first key of the list
next_hold : (hs : List Hold) (h : Hold) → first_hold hs ≡ Some h → (rest : List Hold) × (hs ≡ h ∷ rest)
next_hold [] h is = absurd (let none : None ≡ Some h = is in cc)
next_hold (g ∷ gs) h is = (gs, let same : g ≡ h = (cc) in ap (λ z. z ∷ gs) same)

pub first_some : (hs : List Hold) (h : Hold) → first_hold hs ≡ Some h → 0 < length hs
first_some hs h is =
    let found = next_hold hs h is in
    let n : length hs ≡ suc (length found.0) = ap length found.1 in
    omega arith

pub first_known : (c : Contents) (t : ℕ) (h : Hold) → IsSound c → first_hold (held_by c t) ≡ Some h
    → number_of h.key c.entries < length c.entries
first_known c t h s first =
    let found = next_hold (held_by c t) h first in
    held_known c t h.key s (ap is_some (ap (mode_in h.key) found.1 ∙ mode_in-here h.key h found.0 (key_itself h.key)))

pub first_apart : (c : Contents) (k : Key) → IsSound c → AreApart (entry_of k c.entries).holders
first_apart c k s = apart_left (entry_of k c.entries).holders (entry_of k c.entries).waiters (s.apart k)

-- after the first key's node is free
pub record FirstOut (t : ℕ) (k : Key) (now mid : Contents) : Type 0 where
  pub sound : IsSound mid
  pub number : number_of k mid.entries ≡ number_of k now.entries
  pub count : length mid.entries ≡ length now.entries
  pub entry : entry_of k mid.entries ≡ without_holder t (entry_of k now.entries)
  pub waiting : waiting_count mid.entries ≡ waiting_count now.entries
  pub idle : waits_of t mid.entries ≡ waits_of t now.entries

pub first_out : (t : ℕ) (h : Hold) (now mid : Contents) → IsSound now → t < length now.held
    → first_hold (held_by now t) ≡ Some h
    → mid.held ≡ set now.held t (drop 1 (held_by now t))
    → mid.entries ≡ put (without_holder t (entry_of h.key now.entries)) now.entries → FirstOut t h.key now mid
first_out t h now mid s lt first held entries =
    let found = next_hold (held_by now t) h first in
    let rest : List Hold = found.0 in
    let e : Entry = entry_of h.key now.entries in
    let e' : Entry = without_holder t e in
    let keyed : e'.key ≡ h.key = entry_key h.key now.entries in
    let known = first_known now t h s first in
    let own : number_of e'.key now.entries < length now.entries =
    subst (λ z. number_of z now.entries < length now.entries) (sym keyed) known in
    let same : length (entry_of e'.key now.entries).waiters ≡ length e.waiters =
    ap (λ z. length (entry_of z now.entries).waiters) keyed in
    let same_t : claims_by t (entry_of e'.key now.entries).waiters ≡ claims_by t e.waiters =
    ap (λ z. claims_by t (entry_of z now.entries).waiters) keyed in
    let counted = waiting_count-put e' now.entries in
    let waited = waits_of-put t e' now.entries in
    let count : waiting_count mid.entries ≡ waiting_count (put e' now.entries) = ap waiting_count entries in
    let waits : waits_of t mid.entries ≡ waits_of t (put e' now.entries) = ap (waits_of t) entries in
    record {
      sound = sound_of (record { held = set now.held t rest; entries = put e' now.entries; spare = mid.spare }) mid
          (held ∙ ap (λ z. set now.held t (drop 1 z)) found.1) entries
          (release_sound now.held now.entries now.spare mid.spare t h rest
          (sound_of now (record { held = now.held; entries = now.entries; spare = now.spare }) refl refl s) lt
          found.1);
      number = ap (number_of h.key) entries ∙ number_of-put h.key e' now.entries keyed known;
      count = ap length entries ∙ length-put e' now.entries own;
      entry = ap (entry_of h.key) entries ∙ entry-put h.key e' now.entries keyed;
      waiting = omega arith;
      idle = omega arith;
    }

-- one key is given back
pub releasing_on : (t room : ℕ) (old now mid now' : Contents) (g g' : List Grant) (h : Hold)
    → Releasing t room old now g → t < length old.held → first_hold (held_by now t) ≡ Some h
    → mid.held ≡ set now.held t (drop 1 (held_by now t))
    → mid.entries ≡ put (without_holder t (entry_of h.key now.entries)) now.entries → mid.spare ≡ now.spare + 1
    → IsSound now' → IsFirstBlocked (entry_of h.key now'.entries).holders (entry_of h.key now'.entries).waiters
    → now'.held ≡ give_all h.key (let_through (entry_of h.key mid.entries).holders (entry_of h.key mid.entries).waiters)
    mid.held
    → now'.entries ≡ put (let_in (entry_of h.key mid.entries)) mid.entries → now'.spare ≡ mid.spare
    → g' ≡ g ++ map (grant_of h.key)
    (let_through (entry_of h.key mid.entries).holders (entry_of h.key mid.entries).waiters)
    → length g' + waiting_count now'.entries ≤ room
    → Releasing t room old now' g' × (length (held_by now' t) < length (held_by now t))
releasing_on t room old now mid now' g g' h r lt first held entries spare sound blocked held' entries' spare' is_g
    fits =
    let k : Key = h.key in
    let found = next_hold (held_by now t) h first in
    let rest : List Hold = found.0 in
    let count = r.count in
    let out : FirstOut t k now mid = first_out t h now mid r.sound (omega arith) first held entries in
    let e : Entry = without_holder t (entry_of k now.entries) in
    let through : List Claim = let_through e.holders e.waiters in
    let keyed : e.key ≡ k = entry_key k now.entries in
    let same : let_through (entry_of k mid.entries).holders (entry_of k mid.entries).waiters ≡ through =
    ap (λ (z : Entry). let_through z.holders z.waiters) out.entry in
    let done : now'.entries ≡ put (let_in e) now.entries =
    entries' ∙ (ap (λ z. put (let_in z) mid.entries) out.entry
    ∙ (ap (put (let_in e)) entries ∙ put-put (let_in e) e now.entries refl)) in
    let at_k : entry_of k now'.entries ≡ let_in e = ap (entry_of k) done ∙ entry-put k (let_in e) now.entries keyed in
    let idle : waits_of t now.entries ≡ 0 = r.idle in
    let at_most = waits_at-le t k now.entries in
    let missing : is_among t through ≡ false =
    among_through t e.holders e.waiters (missing-claims_by t e.waiters (omega arith)) in
    let mid_held : mid.held ≡ set now.held t rest = held ∙ ap (λ z. set now.held t (drop 1 z)) found.1 in
    let new_held : now'.held ≡ give_all k through (set now.held t rest) =
    held' ∙ (ap (λ z. give_all k z mid.held) same ∙ ap (give_all k through) mid_held) in
    let mine : held_by now' t ≡ rest = ap (λ z. get_or z t []) new_held
    ∙ (give_all-other k t through (set now.held t rest) missing
    ∙ get_or-set_same now.held t rest [] (omega arith)) in
    let emptied : set now'.held t [] ≡ give_all k through (set now.held t []) = ap (λ z. set z t []) new_held
    ∙ (set-give_all k t [] through (set now.held t rest) missing
    ∙ ap (give_all k through) (set-set now.held t rest [])) in
    let granted : g' ≡ g ++ map (grant_of k) through = is_g ∙ ap (λ z. g ++ map (grant_of k) z) same in
    let start : Released = record { held = set now.held t []; entries = now.entries; grants = g } in
    let after : Released = record { held = set now'.held t []; entries = now'.entries; grants = g' } in
    let step : after ≡ release_key t k start
    = ap (λ z. record { held = z; entries = now'.entries; grants = g' }) emptied
    ∙ (ap (λ z. record { held = give_all k through (set now.held t []); entries = z; grants = g' }) done
    ∙ ap (λ z. record {
      held = give_all k through (set now.held t []);
      entries = put (let_in e) now.entries;
      grants =
          z;
    }) granted) in
    let n1 : length now'.held ≡ length (give_all k through (set now.held t rest)) = ap length new_held in
    let n2 = length-give_all k through (set now.held t rest) in
    let n3 = length-set now.held t rest in
    let long : length (held_by now t) ≡ suc (length rest) = ap length found.1 in
    let short : length (held_by now' t) ≡ length rest = ap length mine in
    let kept = r.spare in
    let waited = waits_of-put t (let_in e) now.entries in
    let fewer : claims_by t (let_in e).waiters ≤ claims_by t e.waiters = claims_by-drop t (length through) e.waiters in
    let now_waits : waits_of t now'.entries ≡ waits_of t (put (let_in e) now.entries) = ap (waits_of t) done in (
      record {
        apart = subst AreEntriesApart (sym done) (put_apart (let_in e) now.entries r.apart);
        sound = sound;
        settled = subst (λ es. (j : Key) → IsFirstBlocked (entry_of j es).holders (entry_of j es).waiters) (sym done)
            (put_all (λ z. IsFirstBlocked z.holders z.waiters) (let_in e) now.entries
            (subst (λ (z : Entry). IsFirstBlocked z.holders z.waiters) at_k blocked) (λ j ne. r.settled j));
        passes = ap (λ z. release_each t z after) mine
            ∙ (ap (release_each t rest) step ∙ (sym (ap (λ z. release_each t z start) found.1) ∙ r.passes));
        idle = omega arith;
        count = omega arith;
        spare = omega arith;
        fits = fits;
      },
      omega arith,
    )
