-- Letting waiters in, one by one.
use Rattle.std.proofs.Common.{◌≡◌, inl, inr, ℕ, suc, ◌+◌, ◌<◌, ◌≤◌, List, [], ◌∷◌, ◌++◌, length, map, drop, get_or, set}
use Rattle.std.proofs.Common.{true, false, Some, None, refl, sym, ◌∙◌, ap, subst, arith, append_assoc, length-append}
use Rattle.std.proofs.{Common.{get_or-set_other}, lemmas.List.{length-set, append-nil, set_comm}}
use Rattle.std.proofs.lemmas.Bool.{cases_Bool, or_parts, eqb-false}
use Rattle.std.specs.Prelude.{◌==◌, ◌||◌, if◌then◌else◌}
use Rattle.sect_modes.specs.{declared.key.Key.{Key}, Key.{is_same_key}}
use Rattle.sect_modes.proofs.shared.Keys.{key_itself}
use Rattle.sect_table.specs.{declared.claims.Claim.{Claim}, declared.claims.Hold.{Hold}, declared.claims.Grant.{Grant}}
use Rattle.sect_table.specs.Contents.{Entry, Contents, number_of, entry_of, put, is_among, may_join, first_of, give}
use Rattle.sect_table.specs.Contents.{hold_of, grant_of, with_grant, let_in, let_through, give_all}
use Rattle.sect_table.specs.Sound.{waiting_count}
use Rattle.sect_table.specs.steps.Letting.{LettingIn}
use Rattle.sect_table.proofs.shared.Entries.{entry_key, entry_of-put, put-put}
use Rattle.sect_table.proofs.shared.Passing.{let_through-yes, let_through-no}
use Rattle.sect_table.proofs.{Shown.{put-here, put-later}, Entries.{number-here, number-later, put-itself}}
use Rattle.sect_table.proofs.Sounding.{waiting_count-put, sound_of, grant_sound, other_way}

-- a known key keeps its number
pub length-put : (e : Entry) (es : List Entry) → number_of e.key es < length es → length (put e es) ≡ length es
length-put e [] lt = absurd (omega arith)
length-put e (f ∷ fs) lt = elim (cases_Bool (is_same_key e.key f.key)) [
  | inl here ↦ ap length (put-here e f fs here)
  | inr later ↦ let at = number-later e.key f fs later in
      ap length (put-later e f fs later) ∙ ap suc (length-put e fs (omega arith))
]

pub number_of-put : (k : Key) (e : Entry) (es : List Entry) → e.key ≡ k → number_of k es < length es
    → number_of k (put e es) ≡ number_of k es
number_of-put k e [] is lt = absurd (omega arith)
number_of-put k e (f ∷ fs) is lt = elim (cases_Bool (is_same_key k f.key)) [
  | inl here ↦
      let own : is_same_key e.key f.key ≡ true = ap (λ z. is_same_key z f.key) is ∙ here in
      let self : is_same_key k e.key ≡ true = subst (λ z. is_same_key z e.key ≡ true) is (key_itself e.key) in
      ap (number_of k) (put-here e f fs own) ∙ (number-here k e fs self ∙ sym (number-here k f fs here))
  | inr later ↦
      let own : is_same_key e.key f.key ≡ false = ap (λ z. is_same_key z f.key) is ∙ later in
      let at = number-later k f fs later in
      ap (number_of k) (put-later e f fs own)
      ∙ (number-later k f (put e fs) later ∙ (ap suc (number_of-put k e fs is (omega arith)) ∙ sym at))
]

pub entry-put : (k : Key) (e : Entry) (es : List Entry) → e.key ≡ k → entry_of k (put e es) ≡ e
entry-put k e es is = ap (λ z. entry_of z (put e es)) (sym is) ∙ entry_of-put e es

pub first_claimed : (ws : List Claim) (c : Claim) → first_of ws ≡ Some c → (rest : List Claim) × (ws ≡ c ∷ rest)
first_claimed [] c is = absurd (let none : None ≡ Some c = is in cc)
first_claimed (w ∷ ws) c is = (ws, let same : w ≡ c = (cc) in ap (λ z. z ∷ ws) same)

nobody_claimed : (ws : List Claim) → first_of ws ≡ None → ws ≡ []
nobody_claimed [] is = refl
nobody_claimed (w ∷ ws) is = absurd (let some : Some w ≡ None = is in cc)

-- letting one in first comes to the same
let_in_step : (k : Key) (hs : List Claim) (c : Claim) (rest : List Claim) → may_join hs c.thread c.mode ≡ true
    → let_in (record { key = k; holders = hs ++ c ∷ []; waiters = rest }) ≡ let_in
    (record { key = k; holders = hs; waiters = c ∷ rest })
let_in_step k hs c rest joins =
    let later : List Claim = let_through (hs ++ c ∷ []) rest in
    ap (λ z. record { key = k; holders = z; waiters = drop (length later) rest }) (append_assoc hs (c ∷ []) later)
    ∙ sym (ap (λ z. record { key = k; holders = hs ++ z; waiters = drop (length z) (c ∷ rest) })
    (let_through-yes hs c rest joins))

pub letting_on : (k : Key) (at room : ℕ) (old now : Contents) (g0 g : List Grant) (c : Claim) (r : Grant)
    (now' : Contents) (g' : List Grant) → LettingIn k at room old now g0 g
    → first_of (entry_of k now.entries).waiters ≡ Some c
    → may_join (entry_of k now.entries).holders c.thread c.mode ≡ true → r ≡ grant_of k c
    → now'.held ≡ give c.thread k c.mode now.held
    → now'.entries ≡ put (with_grant c (entry_of k now.entries)) now.entries → now'.spare ≡ now.spare → g' ≡ g ++ r ∷ []
    → LettingIn k at room old now' g0 g'
    × (length (entry_of k now'.entries).waiters < length (entry_of k now.entries).waiters)
letting_on k at room old now g0 g c r now' g' l first joins is_r held entries spare is_g =
    let e : Entry = entry_of k now.entries in
    let found = first_claimed e.waiters c first in
    let rest : List Claim = found.0 in
    let is : e.waiters ≡ c ∷ rest = found.1 in
    let e' : Entry = with_grant c e in
    let keyed : e'.key ≡ k = entry_key k now.entries in
    let at_k : entry_of k now'.entries ≡ e' = ap (entry_of k) entries ∙ entry-put k e' now.entries keyed in
    let number : at ≡ number_of k now.entries = l.number in
    let known : at < length now.entries = l.known in
    let own : number_of e'.key now.entries < length now.entries =
    subst (λ z. number_of z now.entries < length now.entries) (sym keyed) (omega arith) in
    let small : Entry = record { key = e.key; holders = e.holders ++ c ∷ []; waiters = rest } in
    let as_small : e' ≡ small = ap (λ z. record { key = e.key; holders = e.holders ++ c ∷ []; waiters = drop 1 z })
    is in
    let large : Entry = record { key = e.key; holders = e.holders; waiters = c ∷ rest } in
    let as_large : e ≡ large = ap (λ z. record { key = e.key; holders = e.holders; waiters = z }) is in
    let later : List Claim = let_through (e.holders ++ c ∷ []) rest in
    let step : let_through e.holders e.waiters ≡ c ∷ later = ap (let_through e.holders) is
    ∙ let_through-yes e.holders c rest joins in
    let left : let_through (entry_of k now'.entries).holders (entry_of k now'.entries).waiters ≡ later =
    ap (λ (z : Entry). let_through z.holders z.waiters) (at_k ∙ as_small) in
    let outcome : let_in (entry_of k now'.entries) ≡ let_in e = ap let_in (at_k ∙ as_small)
    ∙ (let_in_step e.key e.holders c rest joins ∙ sym (ap let_in as_large)) in
    let count : waiting_count (put e' now.entries) + length (entry_of e'.key now.entries).waiters ≡ waiting_count
    now.entries + length (drop 1 e.waiters) = waiting_count-put e' now.entries in
    let same : length (entry_of e'.key now.entries).waiters ≡ length e.waiters =
    ap (λ z. length (entry_of z now.entries).waiters) keyed in
    let long : length e.waiters ≡ suc (length rest) = ap length is in
    let short : length (drop 1 e.waiters) ≡ length rest = ap (λ z. length (drop 1 z)) is in
    let now_count : waiting_count now'.entries ≡ waiting_count (put e' now.entries) = ap waiting_count entries in
    let longer : length g' ≡ length g + 1 = ap length is_g ∙ length-append g (r ∷ []) in
    let fits : length g + waiting_count now.entries ≤ room = l.fits in
    let length_now : length now'.entries ≡ length now.entries = ap length entries ∙ length-put e' now.entries own in
    let new_waiters : length (entry_of k now'.entries).waiters ≡ length rest =
    ap (λ (z : Entry). length z.waiters) (at_k ∙ as_small) in (
      record {
        sound =
            sound_of (record {
              held = give c.thread k c.mode now.held;
              entries = put e' now.entries;
              spare =
                  now'.spare;
            }) now' held entries
            (grant_sound now.held now.entries now.spare now'.spare k c rest
            (sound_of now (record { held = now.held; entries = now.entries; spare = now.spare }) refl refl l.sound)
            is joins);
        number = l.number ∙ sym (ap (number_of k) entries ∙ number_of-put k e' now.entries keyed (omega arith));
        known = omega arith;
        passes = record {
          entries = ap (λ z. put z now'.entries) outcome
              ∙ (ap (put (let_in e)) entries ∙ (put-put (let_in e) e' now.entries refl ∙ l.passes.entries));
          given = ap (λ z. give_all k z now'.held) left
              ∙ (ap (give_all k later) held ∙ (ap (λ z. give_all k z now.held) (sym step) ∙ l.passes.given));
          granted = ap (λ z. g' ++ map (grant_of k) z) left
              ∙ (ap (λ z. z ++ map (grant_of k) later) is_g
              ∙ (append_assoc g (r ∷ []) (map (grant_of k) later)
              ∙ (ap (λ z. g ++ z ∷ map (grant_of k) later) is_r
              ∙ (ap (λ z. g ++ map (grant_of k) z) (sym step) ∙ l.passes.granted))));
        };
        spare = spare ∙ l.spare;
        fits = omega arith;
      },
      omega arith,
    )

-- nothing more is let in, so all is done
pub letting_done : (k : Key) (at room : ℕ) (old now : Contents) (g0 g : List Grant) → LettingIn k at room old now g0 g
    → let_through (entry_of k now.entries).holders (entry_of k now.entries).waiters ≡ []
    → now.entries ≡ put (let_in (entry_of k old.entries)) old.entries
letting_done k at room old now g0 g l none =
    let e : Entry = entry_of k now.entries in
    let number = l.number in
    let known = l.known in
    let whole : let_in e ≡ e =
    ap (λ z. record { key = e.key; holders = e.holders ++ z; waiters = drop (length z) e.waiters }) none
    ∙ ap (λ z. record { key = e.key; holders = z; waiters = e.waiters }) (append-nil e.holders) in
    sym (put-itself k now.entries (omega arith)) ∙ (ap (λ z. put z now.entries) (sym whole) ∙ l.passes.entries)

pub nobody_let : (hs ws : List Claim) → first_of ws ≡ None → let_through hs ws ≡ []
nobody_let hs ws is = ap (let_through hs) (nobody_claimed ws is)

pub first_stopped : (hs ws : List Claim) (c : Claim) → first_of ws ≡ Some c → may_join hs c.thread c.mode ≡ false
    → let_through hs ws ≡ []
first_stopped hs ws c first stops = let found = first_claimed ws c first in
    ap (let_through hs) found.1 ∙ let_through-no hs c found.0 stops

pub room_left : (k : Key) (room : ℕ) (es : List Entry) (n : ℕ) (c : Claim) → first_of (entry_of k es).waiters ≡ Some c
    → n + waiting_count es ≤ room → n < room
room_left k room es n c first fits =
    let found = first_claimed (entry_of k es).waiters c first in
    let long : length (entry_of k es).waiters ≡ suc (length found.0) = ap length found.1 in
    let keyed : (entry_of k es).key ≡ k = entry_key k es in
    let count = waiting_count-put (record { key = (entry_of k es).key; holders = []; waiters = [] }) es in
    let same : length (entry_of (entry_of k es).key es).waiters ≡ length (entry_of k es).waiters =
    ap (λ z. length (entry_of z es).waiters) keyed in
    omega arith

-- a thread that isn't let through keeps its list
pub among_through : (t : ℕ) (hs ws : List Claim) → is_among t ws ≡ false → is_among t (let_through hs ws) ≡ false
among_through t hs [] e = refl
among_through t hs (w ∷ ws) e =
    let both = or_parts (w.thread == t) (is_among t ws) e in
    let rest = among_through t (hs ++ w ∷ []) ws both.1 in
    elim (may_join hs w.thread w.mode) as
    (λ b. is_among t (if b then w ∷ let_through (hs ++ w ∷ []) ws else []) ≡ false) [
      | true ↦ ap (λ b. b || is_among t (let_through (hs ++ w ∷ []) ws)) both.0 ∙ rest
      | false ↦ refl
    ]

pub give_all-other : (k : Key) (t : ℕ) (gs : List Claim) (held : List (List Hold)) → is_among t gs ≡ false
    → get_or (give_all k gs held) t [] ≡ get_or held t []
give_all-other k t [] held e = refl
give_all-other k t (g ∷ gs) held e =
    let both = or_parts (g.thread == t) (is_among t gs) e in
    give_all-other k t gs (give g.thread k g.mode held) both.1
    ∙ get_or-set_other held g.thread t (get_or held g.thread [] ++ hold_of k g.mode ∷ []) []
    (eqb-false t g.thread (other_way g.thread t both.0))

pub length-give_all : (k : Key) (gs : List Claim) (held : List (List Hold)) → length (give_all k gs held) ≡ length held
length-give_all k [] held = refl
length-give_all k (g ∷ gs) held = length-give_all k gs (give g.thread k g.mode held)
    ∙ length-set held g.thread (get_or held g.thread [] ++ hold_of k g.mode ∷ [])

pub set-give_all : (k : Key) (t : ℕ) (x : List Hold) (gs : List Claim) (held : List (List Hold)) → is_among t gs ≡ false
    → set (give_all k gs held) t x ≡ give_all k gs (set held t x)
set-give_all k t x [] held e = refl
set-give_all k t x (g ∷ gs) held e =
    let both = or_parts (g.thread == t) (is_among t gs) e in
    let apart = eqb-false t g.thread (other_way g.thread t both.0) in
    let same : get_or (set held t x) g.thread [] ≡ get_or held g.thread [] =
    get_or-set_other held t g.thread x [] (λ q. apart (sym q)) in
    set-give_all k t x gs (give g.thread k g.mode held) both.1
    ∙ ap (give_all k gs) (set_comm held g.thread t (get_or held g.thread [] ++ hold_of k g.mode ∷ []) x
    (λ q. apart (sym q))
    ∙ ap (λ z. set (set held t x) g.thread (z ++ hold_of k g.mode ∷ [])) (sym same))
