-- What each call keeps.
use Rattle.std.proofs.Common.{◌≡◌, inl, inr, ℕ, zero, suc, ◌<◌, List, [], ◌∷◌, ◌++◌, length, get_or, true, false, not}
use Rattle.std.proofs.{Common.{None, refl, sym, ◌∙◌, ap, subst, arith}, lemmas.Bool.{cases_lt, and_parts}}
use Rattle.std.specs.Prelude.{◌&&◌, is_some, replicate}
use Rattle.sect_lemmas.proofs.Options.{not_some}
use Rattle.sect_modes.specs.{declared.mode.Mode.{Mode}, declared.key.Key.{Key}}
use Rattle.sect_table.specs.{declared.claims.Claim.{Claim}, declared.claims.Hold.{Hold}}
use Rattle.sect_table.specs.Contents.{Entry, Contents, number_of, entry_of, no_entry, put, held_by, is_among}
use Rattle.sect_table.specs.Contents.{is_waiting, is_free, holds, mode_in, mode_for, may_join, first_of, give, claim_of}
use Rattle.sect_table.specs.Contents.{with_holder, with_waiter, IsEmptyFor}
use Rattle.sect_table.specs.Sound.{AreTogether, IsFirstBlocked, AreKeysApart, AreEntriesApart, waits_of, IsSound}
use Rattle.sect_table.specs.{Sound.{IsKept}, declared.claims.Answer.{Answer}}
use Rattle.sect_table.specs.{declared.claims.Answer.TheVariants.{Granted, Queued}, Answers.{IsAnswered}}
use Rattle.sect_table.proofs.{Entries.{number_of-le, put_apart}, Claiming.{missing-mode_for}}
use Rattle.sect_table.proofs.Sounding.{sound_of, holder_sound, waiter_sound}
use Rattle.sect_table.proofs.shared.Entries.{entry_key, entry-new, entry_of-put, put-put}
use Rattle.sect_table.proofs.shared.Claiming.{true_or_false, among_append, missing-claims_by}
use Rattle.sect_table.proofs.shared.Sounding.{put_all, waits_at-le, waits_for_none}

-- a thread that neither waits nor holds the key has no claim on it
no_claim : (c : Contents) (t : ℕ) (k : Key) → IsSound c → is_waiting t c ≡ false → mode_in k (held_by c t) ≡ None
    → is_among t ((entry_of k c.entries).holders ++ (entry_of k c.entries).waiters) ≡ false
no_claim c t k s idle none =
    let idle' : waits_of t c.entries ≡ 0 = waits_for_none t c.entries idle in
    let le = waits_at-le t k c.entries in
    among_append t (entry_of k c.entries).holders (entry_of k c.entries).waiters
    (missing-mode_for t (entry_of k c.entries).holders (sym (s.agree t k) ∙ none))
    (missing-claims_by t (entry_of k c.entries).waiters (omega arith))

none_first : (ws : List Claim) → not (is_some (first_of ws)) ≡ true → ws ≡ []
none_first [] e = refl
none_first (w ∷ ws) e = absurd (let off : false ≡ true = e in cc)

nobody_blocked : (hs ws : List Claim) → ws ≡ [] → IsFirstBlocked hs ws
nobody_blocked hs ws is = subst (IsFirstBlocked hs) (sym is) tt

pub granted_kept : (c c' : Contents) (t : ℕ) (k : Key) (m : Mode) → IsKept c → t < length c.held
    → is_waiting t c ≡ false → mode_in k (held_by c t) ≡ None → is_free t k m c ≡ true
    → c'.held ≡ give t k m c.held → c'.entries ≡ put (with_holder (claim_of t m) (entry_of k c.entries)) c.entries
    → IsKept c'
granted_kept c c' t k m s lt idle none free h e =
    let both = and_parts (not (is_some (first_of (entry_of k c.entries).waiters)))
    (may_join (entry_of k c.entries).holders t m) free in
    let e' : Entry = with_holder (claim_of t m) (entry_of k c.entries) in
    record {
      apart = subst AreEntriesApart (sym e) (put_apart e' c.entries s.apart);
      sound = sound_of (record { held = give t k m c.held; entries = put e' c.entries; spare = c'.spare }) c' h e
          (holder_sound c.held c.entries c.spare c'.spare t m k
          (sound_of c (record { held = c.held; entries = c.entries; spare = c.spare }) refl refl s.sound) lt
          (no_claim c t k s.sound idle none) both.1);
      settled = subst (λ es. (j : Key) → IsFirstBlocked (entry_of j es).holders (entry_of j es).waiters) (sym e)
          (put_all (λ z. IsFirstBlocked z.holders z.waiters) e' c.entries
          (nobody_blocked e'.holders e'.waiters (none_first (entry_of k c.entries).waiters both.0))
          (λ j ne. s.settled j));
    }

still_blocked : (hs ws : List Claim) (t : ℕ) (m : Mode) → IsFirstBlocked hs ws
    → (not (is_some (first_of ws)) && may_join hs t m) ≡ false → IsFirstBlocked hs (ws ++ claim_of t m ∷ [])
still_blocked hs [] t m b e = e
still_blocked hs (w ∷ ws) t m b e = b

pub queued_kept : (c c' : Contents) (t : ℕ) (k : Key) (m : Mode) → IsKept c → t < length c.held → is_waiting t c ≡ false
    → mode_in k (held_by c t) ≡ None → is_free t k m c ≡ false
    → c'.held ≡ c.held → c'.entries ≡ put (with_waiter (claim_of t m) (entry_of k c.entries)) c.entries → IsKept c'
queued_kept c c' t k m s lt idle none free h e =
    let e' : Entry = with_waiter (claim_of t m) (entry_of k c.entries) in
    record {
      apart = subst AreEntriesApart (sym e) (put_apart e' c.entries s.apart);
      sound = sound_of (record { held = c.held; entries = put e' c.entries; spare = c'.spare }) c' h e
          (waiter_sound c.held c.entries c.spare c'.spare t m k
          (sound_of c (record { held = c.held; entries = c.entries; spare = c.spare }) refl refl s.sound) lt
          (no_claim c t k s.sound idle none) (waits_for_none t c.entries idle));
      settled = subst (λ es. (j : Key) → IsFirstBlocked (entry_of j es).holders (entry_of j es).waiters) (sym e)
          (put_all (λ z. IsFirstBlocked z.holders z.waiters) e' c.entries
          (still_blocked (entry_of k c.entries).holders (entry_of k c.entries).waiters t m (s.settled k) free)
          (λ j ne. s.settled j));
    }

pub fresh_free : (c : Contents) (t : ℕ) (k : Key) (m : Mode) → (entry_of k c.entries).holders ≡ []
    → (entry_of k c.entries).waiters ≡ [] → is_free t k m c ≡ true
fresh_free c t k m hs ws = ap (λ z. not (is_some (first_of z)) && may_join (entry_of k c.entries).holders t m) ws
    ∙ ap (λ z. may_join z t m) hs

pub fresh_kept : (c c' : Contents) (t : ℕ) (k : Key) (m : Mode) → IsKept c → t < length c.held
    → (entry_of k c.entries).holders ≡ [] → (entry_of k c.entries).waiters ≡ []
    → c'.held ≡ give t k m c.held → c'.entries ≡ put (with_holder (claim_of t m) (entry_of k c.entries)) c.entries
    → IsKept c'
fresh_kept c c' t k m s lt hs ws h e =
    let e' : Entry = with_holder (claim_of t m) (entry_of k c.entries) in
    record {
      apart = subst AreEntriesApart (sym e) (put_apart e' c.entries s.apart);
      sound = sound_of (record { held = give t k m c.held; entries = put e' c.entries; spare = c'.spare }) c' h e
          (holder_sound c.held c.entries c.spare c'.spare t m k
          (sound_of c (record { held = c.held; entries = c.entries; spare = c.spare }) refl refl s.sound) lt
          (ap (λ z. is_among t (z ++ (entry_of k c.entries).waiters)) hs ∙ ap (is_among t) ws)
          (ap (λ z. may_join z t m) hs));
      settled = subst (λ es. (j : Key) → IsFirstBlocked (entry_of j es).holders (entry_of j es).waiters) (sym e)
          (put_all (λ z. IsFirstBlocked z.holders z.waiters) e' c.entries (nobody_blocked e'.holders e'.waiters ws)
          (λ j ne. s.settled j));
    }

-- a key that some thread holds is known
pub held_known : (c : Contents) (u : ℕ) (k : Key) → IsSound c → holds u k c ≡ true
    → number_of k c.entries < length c.entries
held_known c u k s some = elim (cases_lt (number_of k c.entries) (length c.entries)) [
  | inl lt ↦ lt
  | inr le ↦
      let at = number_of-le k c.entries in
      let new : entry_of k c.entries ≡ no_entry k = entry-new k c.entries (omega arith) in
      let none : mode_in k (held_by c u) ≡ None = s.agree u k ∙ ap (λ (z : Entry). mode_for u z.holders) new in
      absurd (true_or_false (holds u k c) some (ap is_some none))
]

-- a table in which nobody holds or waits
empty_held : (n t : ℕ) → get_or (replicate n (let none : List Hold = [] in none)) t [] ≡ []
empty_held zero t = refl
empty_held (suc n) zero = refl
empty_held (suc n) (suc t) = empty_held n t

pub empty_kept : (threads : ℕ) (c : Contents) → IsEmptyFor threads c → IsKept c
empty_kept threads c e = record {
  apart = subst AreEntriesApart (sym e.entries) tt;
  sound = sound_of (record { held = replicate threads []; entries = []; spare = 0 }) c e.held e.entries (record {
    together = λ k. tt;
    apart = λ k. tt;
    agree = λ t k. ap (mode_in k) (empty_held threads t);
    keys = λ t. subst AreKeysApart (sym (empty_held threads t)) tt;
    once = λ t. omega arith;
    threads = tt;
  });
  settled = subst (λ es. (k : Key) → IsFirstBlocked (entry_of k es).holders (entry_of k es).waiters) (sym e.entries)
      (λ k. tt);
}

-- an answer that was made after the key got its number
prepared : (k : Key) (es : List Entry) → entry_of k (put (entry_of k es) es) ≡ entry_of k es
prepared k es = ap (λ z. entry_of z (put (entry_of k es) es)) (sym (entry_key k es)) ∙ entry_of-put (entry_of k es) es

pub prepared_free : (c c1 : Contents) (t : ℕ) (k : Key) (m : Mode) → c1.entries ≡ put (entry_of k c.entries) c.entries
    → is_free t k m c1 ≡ is_free t k m c
prepared_free c c1 t k m e = ap (λ (z : Entry). not (is_some (first_of z.waiters)) && may_join z.holders t m)
    (ap (entry_of k) e ∙ prepared k c.entries)

pub prepared_put : (f : Entry → Entry) (k : Key) (es es1 : List Entry) → ((e : Entry) → (f e).key ≡ e.key)
    → es1 ≡ put (entry_of k es) es → put (f (entry_of k es1)) es1 ≡ put (f (entry_of k es)) es
prepared_put f k es es1 keyed is =
    ap (λ z. put (f (entry_of k z)) z) is
    ∙ (ap (λ z. put (f z) (put (entry_of k es) es)) (prepared k es)
    ∙ put-put (f (entry_of k es)) (entry_of k es) es (keyed (entry_of k es)))

pub prepared_together : (k : Key) (es es1 : List Entry) → es1 ≡ put (entry_of k es) es
    → AreTogether (entry_of k es).holders → AreTogether (entry_of k es1).holders
prepared_together k es es1 is = subst (λ (z : Entry). AreTogether z.holders)
    (sym (ap (entry_of k) is ∙ prepared k es))

pub prepared_answer : (a : Answer) (t : ℕ) (k : Key) (m : Mode) (c c1 c2 : Contents) → c1.held ≡ c.held
    → c1.entries ≡ put (entry_of k c.entries) c.entries → IsAnswered a t k m c1 c2 → IsAnswered a t k m c c2
prepared_answer Granted t k m c c1 c2 h e a = (
  sym (prepared_free c c1 t k m e) ∙ a.0,
  a.1 ∙ ap (give t k m) h,
  a.2
      ∙ prepared_put (with_holder (claim_of t m)) k c.entries c1.entries (λ z. refl) e,
)
prepared_answer Queued t k m c c1 c2 h e a = (
  sym (prepared_free c c1 t k m e) ∙ a.0,
  a.1 ∙ h,
  a.2
      ∙ prepared_put (with_waiter (claim_of t m)) k c.entries c1.entries (λ z. refl) e,
)

pub answer_kept : (a : Answer) (t : ℕ) (k : Key) (m : Mode) (c c' : Contents) → IsKept c → t < length c.held
    → is_waiting t c ≡ false → holds t k c ≡ false → IsAnswered a t k m c c' → IsKept c'
answer_kept Granted t k m c c' s lt idle none a =
    granted_kept c c' t k m s lt idle (not_some (mode_in k (held_by c t)) none) a.0 a.1 a.2
answer_kept Queued t k m c c' s lt idle none a =
    queued_kept c c' t k m s lt idle (not_some (mode_in k (held_by c t)) none) a.0 a.1 a.2
