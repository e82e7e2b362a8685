-- Lists of claims and of holds.
use Rattle.std.proofs.Common.{◌≡◌, inl, inr, ℕ, ◌+◌, ◌<◌, ◌≤◌, List, [], ◌∷◌, ◌++◌, Bool, true, false, not, Some, None}
use Rattle.std.proofs.Common.{refl, sym, ◌∙◌, ap, subst, arith}
use Rattle.std.proofs.lemmas.Bool.{or_parts, and_parts, cases_Bool, or_right}
use Rattle.std.specs.Prelude.{◌==◌, ◌||◌, ◌&&◌, if◌then◌else◌}
use Rattle.sect_modes.specs.{declared.mode.Mode.{Mode}, declared.key.Key.{Key}, Mode.{are_compatible, is_at_least}}
use Rattle.sect_modes.specs.Key.{is_same_key}
use Rattle.sect_modes.proofs.shared.Keys.{same_key, key_itself}
use Rattle.sect_table.specs.{declared.claims.Claim.{Claim}, declared.claims.Hold.{Hold}}
use Rattle.sect_table.specs.Contents.{is_among, mode_in, mode_for, may_join, first_of, stay, AreApart}
use Rattle.sect_table.specs.Sound.{SharesWith, AreTogether, AreKeysApart, claims_by, one_if, AreThreadsBelow}
use Rattle.sect_table.proofs.shared.Claiming.{true_or_false, among-append, among_append, mode_for-here, mode_for-later}
use Rattle.sect_table.proofs.shared.Claiming.{mode_in-here, mode_in-later}

pub apart_insert : (xs : List Claim) (w : Claim) (ys : List Claim) → AreApart (xs ++ ys)
    → is_among w.thread (xs ++ ys) ≡ false → AreApart (xs ++ w ∷ ys)
apart_insert [] w ys a e = (e, a)
apart_insert (x ∷ xs) w ys a e =
    let both = or_parts (x.thread == w.thread) (is_among w.thread (xs ++ ys)) e in
    let off = among-append x.thread xs ys a.0 in
    let other : (w.thread == x.thread) ≡ false = grind (arith, both.0) in (
      among_append x.thread xs (w ∷ ys) off.0 (ap (λ b. b || is_among x.thread ys) other ∙ off.1),
      apart_insert xs w ys a.1 both.1,
    )

-- pairwise compatible modes
shares_push : (m : Mode) (w : Claim) (xs : List Claim) → SharesWith m xs → are_compatible m w.mode ≡ true
    → SharesWith m (xs ++ w ∷ [])
shares_push m w [] s c = (c, tt)
shares_push m w (x ∷ xs) s c = (s.0, shares_push m w xs s.1 c)

compatible_other : (a b : ℕ) (c : Bool) → ((a == b) || c) ≡ true → (a == b) ≡ false → c ≡ true
compatible_other a b c e other = sym (ap (λ q. q || c) other) ∙ e

pub together_push : (hs : List Claim) (w : Claim) → AreTogether hs → is_among w.thread hs ≡ false
    → may_join hs w.thread w.mode ≡ true → AreTogether (hs ++ w ∷ [])
together_push [] w t e j = (tt, tt)
together_push (h ∷ hs) w t e j =
    let off = or_parts (h.thread == w.thread) (is_among w.thread hs) e in
    let both = and_parts ((h.thread == w.thread) || are_compatible h.mode w.mode) (may_join hs w.thread w.mode) j in (
      shares_push h.mode w hs t.0 (compatible_other h.thread w.thread (are_compatible h.mode w.mode) both.0 off.0),
      together_push hs w t.1 off.1 both.1,
    )

-- what shares with a mode shares with each weaker one
weaker_shares : (a b c : Mode) → is_at_least a b ≡ true → are_compatible a c ≡ true → are_compatible c b ≡ true
weaker_shares a b c least shares = grind (arith, least, shares)

and_true : (b : Bool) → (b && true) ≡ b
and_true true = refl
and_true false = refl

weaker_join : (a b : Mode) (t : ℕ) (cs : List Claim) → is_at_least a b ≡ true → SharesWith a cs → may_join cs t b ≡ true
weaker_join a b t [] least s = refl
weaker_join a b t (c ∷ cs) least s = rw (weaker_shares a b c.mode least s.0, weaker_join a b t cs least s.1)
    (and_true ((c.thread == t) || true) ∙ or_right (c.thread == t) true refl)

-- a first claim that is at least as strong decides for all
pub first_decides : (hs : List Claim) (c : Claim) (t : ℕ) (m : Mode) → AreTogether hs → Some c ≡ first_of hs
    → is_at_least c.mode m ≡ true → ((c.thread == t) || are_compatible c.mode m) ≡ may_join hs t m
first_decides [] c t m together is least = absurd (let none : Some c ≡ None = is in cc)
first_decides (h ∷ hs) c t m together is least = let same : c ≡ h = cc in
    rw (same, weaker_join h.mode m t hs (subst (λ (z : Claim). is_at_least z.mode m ≡ true) same least) together.0)
    (sym (and_true ((h.thread == t) || are_compatible h.mode m)))

shares_stay : (m : Mode) (t : ℕ) (xs : List Claim) → SharesWith m xs → SharesWith m (stay t xs)
shares_stay m t [] s = tt
shares_stay m t (x ∷ xs) s = elim (not (x.thread == t)) as (λ b. SharesWith m (if b then x ∷ stay t xs else stay t xs))
    [ true ↦ (s.0, shares_stay m t xs s.1) | false ↦ shares_stay m t xs s.1 ]

pub together_stay : (t : ℕ) (hs : List Claim) → AreTogether hs → AreTogether (stay t hs)
together_stay t [] s = tt
together_stay t (h ∷ hs) s = elim (not (h.thread == t)) as (λ b. AreTogether (if b then h ∷ stay t hs else stay t hs))
    [ true ↦ (shares_stay h.mode t hs s.0, together_stay t hs s.1) | false ↦ together_stay t hs s.1 ]

pub missing-mode_for : (t : ℕ) (cs : List Claim) → mode_for t cs ≡ None → is_among t cs ≡ false
missing-mode_for t [] e = refl
missing-mode_for t (c ∷ cs) e = elim (cases_Bool (c.thread == t)) [
  | inl here ↦ absurd (let some : Some c.mode ≡ None = sym (mode_for-here t c cs here) ∙ e in cc)
  | inr later ↦ ap (λ b. b || is_among t cs) later ∙ missing-mode_for t cs (sym (mode_for-later t c cs later) ∙ e)
]

pub mode_in-push_other : (k : Key) (hs : List Hold) (h : Hold) → is_same_key h.key k ≡ false
    → mode_in k (hs ++ h ∷ []) ≡ mode_in k hs
mode_in-push_other k [] h e = mode_in-later k h [] e
mode_in-push_other k (g ∷ gs) h e = elim (cases_Bool (is_same_key g.key k)) [
  | inl here ↦ mode_in-here k g (gs ++ h ∷ []) here ∙ sym (mode_in-here k g gs here)
  | inr later ↦ mode_in-later k g (gs ++ h ∷ []) later
      ∙ (mode_in-push_other k gs h e ∙ sym (mode_in-later k g gs later))
]

pub mode_in-push : (k : Key) (hs : List Hold) (h : Hold) → mode_in k hs ≡ None → is_same_key h.key k ≡ true
    → mode_in k (hs ++ h ∷ []) ≡ Some h.mode
mode_in-push k [] h none e = mode_in-here k h [] e
mode_in-push k (g ∷ gs) h none e = elim (cases_Bool (is_same_key g.key k)) [
  | inl here ↦ absurd (let some : Some g.mode ≡ None = sym (mode_in-here k g gs here) ∙ none in cc)
  | inr later ↦ mode_in-later k g (gs ++ h ∷ []) later ∙ mode_in-push k gs h (sym (mode_in-later k g gs later) ∙ none) e
]

pub keys_push : (hs : List Hold) (h : Hold) → AreKeysApart hs → mode_in h.key hs ≡ None → AreKeysApart (hs ++ h ∷ [])
keys_push [] h a none = (refl, tt)
keys_push (g ∷ gs) h a none = elim (cases_Bool (is_same_key g.key h.key)) [
  | inl here ↦ absurd (let some : Some g.mode ≡ None = sym (mode_in-here h.key g gs here) ∙ none in cc)
  | inr later ↦
      let other : is_same_key h.key g.key ≡ false = elim (cases_Bool (is_same_key h.key g.key)) [
        | inl same ↦ absurd (true_or_false (is_same_key g.key h.key)
            (ap (λ z. is_same_key g.key z) (same_key h.key g.key same) ∙ key_itself g.key) later)
        | inr apart ↦ apart
      ] in
      (mode_in-push_other g.key gs h other ∙ a.0, keys_push gs h a.1 (sym (mode_in-later h.key g gs later) ∙ none))
]

-- how many claims a thread has
pub claims_by-append : (t : ℕ) (xs ys : List Claim) → claims_by t (xs ++ ys) ≡ claims_by t xs + claims_by t ys
claims_by-append t [] ys = omega arith
claims_by-append t (x ∷ xs) ys = let rest = claims_by-append t xs ys in omega arith

pub claims_by-missing : (t : ℕ) (xs : List Claim) → is_among t xs ≡ false → claims_by t xs ≡ 0
claims_by-missing t [] e = refl
claims_by-missing t (x ∷ xs) e =
    let both = or_parts (x.thread == t) (is_among t xs) e in
    let rest = claims_by-missing t xs both.1 in
    let first : one_if (x.thread == t) ≡ 0 = ap one_if both.0 in
    omega arith

pub claims_by-one : (t : ℕ) (c : Claim) → (c.thread == t) ≡ false → claims_by t (c ∷ []) ≡ 0
claims_by-one t c e = let first : one_if (c.thread == t) ≡ 0 = ap one_if e in omega arith

pub claims_by-le : (t : ℕ) (c : Claim) → claims_by t (c ∷ []) ≤ 1
claims_by-le t c = elim (c.thread == t) as (λ b. one_if b + 0 ≤ 1) [ true ↦ omega arith | false ↦ omega arith ]

pub below_push : (n : ℕ) (xs : List Claim) (c : Claim) → AreThreadsBelow n xs → c.thread < n
    → AreThreadsBelow n (xs ++ c ∷ [])
below_push n [] c b lt = (lt, tt)
below_push n (x ∷ xs) c b lt = (b.0, below_push n xs c b.1 lt)
