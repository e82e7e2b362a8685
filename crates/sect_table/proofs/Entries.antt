-- Entries by their keys.
use Rattle.std.proofs.Common.{◌≡◌, inl, inr, suc, ◌<◌, ◌≤◌, List, [], ◌∷◌, ◌++◌, length, true, false, refl, sym, ◌∙◌}
use Rattle.std.proofs.{Common.{ap, subst, arith}, lemmas.Bool.{cases_Bool}}
use Rattle.std.specs.Prelude.{if◌then◌else◌}
use Rattle.sect_modes.specs.{declared.key.Key.{Key}, Key.{is_same_key}}
use Rattle.sect_modes.proofs.shared.Keys.{same_key, key_itself, other_key}
use Rattle.sect_table.specs.{Contents.{Entry, number_of, entry_of, no_entry, put}, Sound.{AreEntriesApart}}
use Rattle.sect_table.proofs.shared.Shown.{entry_of-here, entry_of-later}
use Rattle.sect_table.proofs.shared.Entries.{entry_key, entry-new}
use Rattle.sect_table.proofs.Shown.{put-here, put-later}

pub number-here : (k : Key) (e : Entry) (es : List Entry) → is_same_key k e.key ≡ true → number_of k (e ∷ es) ≡ 0
number-here k e es is = ap (λ b. if b then 0 else suc (number_of k es)) is

pub number-later : (k : Key) (e : Entry) (es : List Entry) → is_same_key k e.key ≡ false
    → number_of k (e ∷ es) ≡ suc (number_of k es)
number-later k e es is = ap (λ b. if b then 0 else suc (number_of k es)) is

pub number_of-le : (k : Key) (es : List Entry) → number_of k es ≤ length es
number_of-le k [] = omega arith
number_of-le k (e ∷ es) =
    elim (is_same_key k e.key) as (λ b. (if b then 0 else suc (number_of k es)) ≤ suc (length es)) [
      | true ↦ omega arith
      | false ↦ let below = number_of-le k es in omega arith
    ]

-- a known key's entry takes its own place
pub put-itself : (k : Key) (es : List Entry) → number_of k es < length es → put (entry_of k es) es ≡ es
put-itself k [] lt = absurd (omega arith)
put-itself k (e ∷ es) lt = elim (cases_Bool (is_same_key k e.key)) [
  | inl here ↦ ap (λ z. put z (e ∷ es)) (entry_of-here k e es here) ∙ put-here e e es (key_itself e.key)
  | inr later ↦
      let at = number-later k e es later in
      let apart : is_same_key (entry_of k es).key e.key ≡ false = ap (λ z. is_same_key z e.key) (entry_key k es)
      ∙ later in
      ap (λ z. put z (e ∷ es)) (entry_of-later k e es later)
      ∙ (put-later (entry_of k es) e es apart ∙ ap (λ z. e ∷ z) (put-itself k es (omega arith)))
]

pub put-new : (e : Entry) (es : List Entry) → number_of e.key es ≡ length es → put e es ≡ es ++ e ∷ []
put-new e [] is = refl
put-new e (f ∷ es) is = elim (cases_Bool (is_same_key e.key f.key)) [
  | inl here ↦ let at = number-here e.key f es here in absurd (omega arith)
  | inr later ↦ let at = number-later e.key f es later in
      put-later e f es later ∙ ap (λ z. f ∷ z) (put-new e es (omega arith))
]

pub put-unknown : (k : Key) (es : List Entry) → number_of k es ≡ length es
    → put (entry_of k es) es ≡ es ++ no_entry k ∷ []
put-unknown k es is = ap (λ z. put z es) (entry-new k es is) ∙ put-new (no_entry k) es is

pub number-push : (k : Key) (es : List Entry) → number_of k es ≡ length es
    → number_of k (es ++ no_entry k ∷ []) ≡ number_of k es
number-push k [] is = number-here k (no_entry k) [] (key_itself k)
number-push k (e ∷ es) is = elim (cases_Bool (is_same_key k e.key)) [
  | inl here ↦ let at = number-here k e es here in absurd (omega arith)
  | inr later ↦ let at = number-later k e es later in
      number-later k e (es ++ no_entry k ∷ []) later ∙ (ap suc (number-push k es (omega arith)) ∙ sym at)
]

-- another key's entry that is put leaves an unknown key unknown
unknown-put : (k : Key) (e : Entry) (es : List Entry) → is_same_key k e.key ≡ false → number_of k es ≡ length es
    → number_of k (put e es) ≡ length (put e es)
unknown-put k e [] ne is = number-later k e [] ne
unknown-put k e (f ∷ es) ne is = elim (cases_Bool (is_same_key k f.key)) [
  | inl at ↦ let none = number-here k f es at in absurd (omega arith)
  | inr past ↦
      let n = number-later k f es past in
      let rest : number_of k es ≡ length es = omega arith in
      elim (cases_Bool (is_same_key e.key f.key)) [
        | inl here ↦ subst (λ z. number_of k z ≡ length z) (sym (put-here e f es here))
            (number-later k e es ne ∙ ap suc rest)
        | inr later ↦ subst (λ z. number_of k z ≡ length z) (sym (put-later e f es later))
            (number-later k f (put e es) past ∙ ap suc (unknown-put k e es ne rest))
      ]
]

-- no key gets a second entry
pub put_apart : (e : Entry) (es : List Entry) → AreEntriesApart es → AreEntriesApart (put e es)
put_apart e [] a = (refl, tt)
put_apart e (f ∷ es) a = elim (cases_Bool (is_same_key e.key f.key)) [
  | inl here ↦ subst AreEntriesApart (sym (put-here e f es here))
      (ap (λ k. number_of k es) (same_key e.key f.key here) ∙ a.0, a.1)
  | inr later ↦ subst AreEntriesApart (sym (put-later e f es later))
      (unknown-put f.key e es (other_key e.key f.key later) a.0, put_apart e es a.1)
]
