-- Lists of claims and of holds: who is among them, and in which mode.
use Rattle.std.proofs.Common.{◌≡◌, inl, inr, ℕ, zero, suc, ◌≤◌, List, [], ◌∷◌, ◌++◌, drop, Bool, true, false, not}
use Rattle.std.proofs.Common.{Option, Some, None, refl, sym, ◌∙◌, ap, arith}
use Rattle.std.proofs.lemmas.Bool.{or_parts, eqb-true, cases_Bool}
use Rattle.std.specs.{Prelude.{◌==◌, ◌||◌, if◌then◌else◌}, List.{find}, Option.{option_map}}
use Rattle.sect_modes.specs.{declared.mode.Mode.{Mode}, declared.key.Key.{Key}, Key.{is_same_key}}
use Rattle.sect_table.specs.{declared.claims.Claim.{Claim}, declared.claims.Hold.{Hold}}
use Rattle.sect_table.specs.{Contents.{is_among, mode_in, mode_for, stay, AreApart}, Sound.{claims_by, one_if}}

pub true_or_false : (b : Bool) → b ≡ true → b ≡ false → ⊥
true_or_false b t f = let off : true ≡ false = sym t ∙ f in cc

-- a thread among claims
pub among-append : (t : ℕ) (xs ys : List Claim) → is_among t (xs ++ ys) ≡ false
    → (is_among t xs ≡ false) × (is_among t ys ≡ false)
among-append t [] ys e = (refl, e)
among-append t (x ∷ xs) ys e =
    let both = or_parts (x.thread == t) (is_among t (xs ++ ys)) e in
    let rest = among-append t xs ys both.1 in
    (ap (λ b. b || is_among t xs) both.0 ∙ rest.0, rest.1)

pub among_append : (t : ℕ) (xs ys : List Claim) → is_among t xs ≡ false → is_among t ys ≡ false
    → is_among t (xs ++ ys) ≡ false
among_append t [] ys e f = f
among_append t (x ∷ xs) ys e f =
    let both = or_parts (x.thread == t) (is_among t xs) e in
    ap (λ b. b || is_among t (xs ++ ys)) both.0 ∙ among_append t xs ys both.1 f

pub among_one : (t : ℕ) (c : Claim) → (c.thread == t) ≡ false → is_among t (c ∷ []) ≡ false
among_one t c e = ap (λ b. b || false) e

pub among_stay : (t u : ℕ) (xs : List Claim) → is_among t xs ≡ false → is_among t (stay u xs) ≡ false
among_stay t u [] e = refl
among_stay t u (x ∷ xs) e =
    let both = or_parts (x.thread == t) (is_among t xs) e in
    let rest = among_stay t u xs both.1 in
    elim (not (x.thread == u)) as (λ b. is_among t (if b then x ∷ stay u xs else stay u xs) ≡ false) [
      | true ↦ ap (λ b. b || is_among t (stay u xs)) both.0 ∙ rest
      | false ↦ rest
    ]

-- no thread twice
pub apart_swap : (xs : List Claim) (w : Claim) (ys : List Claim) → AreApart (xs ++ w ∷ ys)
    → AreApart (xs ++ ys) × (is_among w.thread (xs ++ ys) ≡ false)
apart_swap [] w ys a = (a.1, a.0)
apart_swap (x ∷ xs) w ys a =
    let rest = apart_swap xs w ys a.1 in
    let off = among-append x.thread xs (w ∷ ys) a.0 in
    let both = or_parts (w.thread == x.thread) (is_among x.thread ys) off.1 in
    let other : (x.thread == w.thread) ≡ false = grind (arith, both.0) in
    ((among_append x.thread xs ys off.0 both.1, rest.0), ap (λ b. b || is_among w.thread (xs ++ ys)) other ∙ rest.1)

pub apart_left : (xs ys : List Claim) → AreApart (xs ++ ys) → AreApart xs
apart_left [] ys a = tt
apart_left (x ∷ xs) ys a = ((among-append x.thread xs ys a.0).0, apart_left xs ys a.1)

pub apart_stay : (t : ℕ) (xs ys : List Claim) → AreApart (xs ++ ys) → AreApart (stay t xs ++ ys)
apart_stay t [] ys a = a
apart_stay t (x ∷ xs) ys a =
    let rest = apart_stay t xs ys a.1 in
    let off = among-append x.thread xs ys a.0 in
    elim (not (x.thread == t)) as (λ b. AreApart ((if b then x ∷ stay t xs else stay t xs) ++ ys)) [
      | true ↦ (among_append x.thread (stay t xs) ys (among_stay x.thread t xs off.0) off.1, rest)
      | false ↦ rest
    ]

-- the mode of a thread
abbrev mode_if : Bool → Claim → Option Claim → Option Mode
mode_if b c rest = option_map (λ (z : Claim). z.mode) (if b then Some c else rest)

pub mode_for-here : (t : ℕ) (c : Claim) (cs : List Claim) → (c.thread == t) ≡ true → mode_for t (c ∷ cs) ≡ Some c.mode
mode_for-here t c cs e = ap (λ b. mode_if b c (find (λ (z : Claim). z.thread == t) cs)) e

pub mode_for-later : (t : ℕ) (c : Claim) (cs : List Claim) → (c.thread == t) ≡ false
    → mode_for t (c ∷ cs) ≡ mode_for t cs
mode_for-later t c cs e = ap (λ b. mode_if b c (find (λ (z : Claim). z.thread == t) cs)) e

pub mode_for-missing : (t : ℕ) (cs : List Claim) → is_among t cs ≡ false → mode_for t cs ≡ None
mode_for-missing t [] e = refl
mode_for-missing t (c ∷ cs) e = let both = or_parts (c.thread == t) (is_among t cs) e in
    mode_for-later t c cs both.0 ∙ mode_for-missing t cs both.1

pub mode_for-push_other : (t : ℕ) (cs : List Claim) (c : Claim) → (c.thread == t) ≡ false
    → mode_for t (cs ++ c ∷ []) ≡ mode_for t cs
mode_for-push_other t [] c e = mode_for-later t c [] e
mode_for-push_other t (d ∷ ds) c e = elim (cases_Bool (d.thread == t)) [
  | inl here ↦ mode_for-here t d (ds ++ c ∷ []) here ∙ sym (mode_for-here t d ds here)
  | inr later ↦ mode_for-later t d (ds ++ c ∷ []) later
      ∙ (mode_for-push_other t ds c e ∙ sym (mode_for-later t d ds later))
]

pub mode_for-push : (t : ℕ) (cs : List Claim) (c : Claim) → is_among t cs ≡ false → (c.thread == t) ≡ true
    → mode_for t (cs ++ c ∷ []) ≡ Some c.mode
mode_for-push t [] c none e = mode_for-here t c [] e
mode_for-push t (d ∷ ds) c none e = let both = or_parts (d.thread == t) (is_among t ds) none in
    mode_for-later t d (ds ++ c ∷ []) both.0 ∙ mode_for-push t ds c both.1 e

pub mode_for-stay_other : (t u : ℕ) (cs : List Claim) → (t == u) ≡ false → mode_for t (stay u cs) ≡ mode_for t cs
mode_for-stay_other t u [] ne = refl
mode_for-stay_other t u (c ∷ cs) ne = elim (cases_Bool (c.thread == u)) [
  | inl gone ↦
      let same : c.thread ≡ u = eqb-true c.thread u gone in
      let other : (c.thread == t) ≡ false =
      ap (λ z. z == t) same ∙ (let q : (u == t) ≡ false = grind (arith, ne) in q) in
      ap (λ b. mode_for t (if not b then c ∷ stay u cs else stay u cs)) gone
      ∙ (mode_for-stay_other t u cs ne ∙ sym (mode_for-later t c cs other))
  | inr kept ↦
      ap (λ b. mode_for t (if not b then c ∷ stay u cs else stay u cs)) kept ∙ elim (cases_Bool (c.thread == t)) [
        | inl here ↦ mode_for-here t c (stay u cs) here ∙ sym (mode_for-here t c cs here)
        | inr later ↦ mode_for-later t c (stay u cs) later
            ∙ (mode_for-stay_other t u cs ne ∙ sym (mode_for-later t c cs later))
      ]
]

pub missing_stay : (t : ℕ) (cs : List Claim) → is_among t (stay t cs) ≡ false
missing_stay t [] = refl
missing_stay t (c ∷ cs) = elim (cases_Bool (c.thread == t)) [
  | inl gone ↦ ap (λ b. is_among t (if not b then c ∷ stay t cs else stay t cs)) gone ∙ missing_stay t cs
  | inr kept ↦ ap (λ b. is_among t (if not b then c ∷ stay t cs else stay t cs)) kept
      ∙ (ap (λ b. b || is_among t (stay t cs)) kept ∙ missing_stay t cs)
]

-- the mode of a key
abbrev hold_mode_if : Bool → Hold → Option Hold → Option Mode
hold_mode_if b h rest = option_map (λ (z : Hold). z.mode) (if b then Some h else rest)

pub mode_in-here : (k : Key) (h : Hold) (hs : List Hold) → is_same_key h.key k ≡ true → mode_in k (h ∷ hs) ≡ Some h.mode
mode_in-here k h hs e = ap (λ b. hold_mode_if b h (find (λ (z : Hold). is_same_key z.key k) hs)) e

pub mode_in-later : (k : Key) (h : Hold) (hs : List Hold) → is_same_key h.key k ≡ false
    → mode_in k (h ∷ hs) ≡ mode_in k hs
mode_in-later k h hs e = ap (λ b. hold_mode_if b h (find (λ (z : Hold). is_same_key z.key k) hs)) e

pub missing-claims_by : (t : ℕ) (xs : List Claim) → claims_by t xs ≡ 0 → is_among t xs ≡ false
missing-claims_by t [] e = refl
missing-claims_by t (x ∷ xs) e = elim (cases_Bool (x.thread == t)) [
  | inl here ↦ let first : one_if (x.thread == t) ≡ 1 = ap one_if here in absurd (omega arith)
  | inr later ↦ let first : one_if (x.thread == t) ≡ 0 = ap one_if later in
      ap (λ b. b || is_among t xs) later ∙ missing-claims_by t xs (omega arith)
]

pub claims_by-drop : (t n : ℕ) (xs : List Claim) → claims_by t (drop n xs) ≤ claims_by t xs
claims_by-drop t zero xs = omega arith
claims_by-drop t (suc n) [] = omega arith
claims_by-drop t (suc n) (x ∷ xs) = let rest = claims_by-drop t n xs in omega arith

-- the claims of a thread that has none there are all that there are
pub stay-missing : (t : ℕ) (cs : List Claim) → is_among t cs ≡ false → stay t cs ≡ cs
stay-missing t [] e = refl
stay-missing t (c ∷ cs) e =
    let both = or_parts (c.thread == t) (is_among t cs) e in
    ap (λ b. if not b then c ∷ stay t cs else stay t cs) both.0 ∙ ap (λ z. c ∷ z) (stay-missing t cs both.1)
