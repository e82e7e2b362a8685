-- Entries by their keys.
use Rattle.std.proofs.Common.{◌≡◌, inl, inr, List, [], ◌∷◌, length, get_or, false, refl, sym, ◌∙◌, ap, arith}
use Rattle.std.proofs.{lemmas.List.{get_or_past}, lemmas.Bool.{cases_Bool}}
use Rattle.sect_modes.specs.{declared.key.Key.{Key}, Key.{is_same_key}}
use Rattle.sect_modes.proofs.shared.Keys.{same_key, key_itself}
use Rattle.sect_table.specs.Contents.{Entry, number_of, entry_of, no_entry, put}
use Rattle.sect_table.proofs.shared.Shown.{entry_of-here, entry_of-later}
use Rattle.sect_table.proofs.Shown.{put-here, put-later}

pub entry_key : (k : Key) (es : List Entry) → (entry_of k es).key ≡ k
entry_key k [] = refl
entry_key k (e ∷ es) = elim (cases_Bool (is_same_key k e.key)) [
  | inl here ↦ ap (λ (z : Entry). z.key) (entry_of-here k e es here) ∙ sym (same_key k e.key here)
  | inr later ↦ ap (λ (z : Entry). z.key) (entry_of-later k e es later) ∙ entry_key k es
]

pub entry-new : (k : Key) (es : List Entry) → number_of k es ≡ length es → entry_of k es ≡ no_entry k
entry-new k es is = ap (λ z. get_or es z (no_entry k)) is ∙ get_or_past es (length es) (no_entry k) (omega arith)

-- what was put is found, and other entries stay
pub entry_of-put : (e : Entry) (es : List Entry) → entry_of e.key (put e es) ≡ e
entry_of-put e [] = entry_of-here e.key e [] (key_itself e.key)
entry_of-put e (f ∷ es) = elim (cases_Bool (is_same_key e.key f.key)) [
  | inl here ↦ ap (entry_of e.key) (put-here e f es here) ∙ entry_of-here e.key e es (key_itself e.key)
  | inr later ↦ ap (entry_of e.key) (put-later e f es later)
      ∙ (entry_of-later e.key f (put e es) later ∙ entry_of-put e es)
]

pub entry_of-put_other : (k : Key) (e : Entry) (es : List Entry) → is_same_key k e.key ≡ false
    → entry_of k (put e es) ≡ entry_of k es
entry_of-put_other k e [] ne = entry_of-later k e [] ne
entry_of-put_other k e (f ∷ es) ne = elim (cases_Bool (is_same_key e.key f.key)) [
  | inl here ↦
      let apart : is_same_key k f.key ≡ false = ap (is_same_key k) (sym (same_key e.key f.key here)) ∙ ne in
      ap (entry_of k) (put-here e f es here) ∙ (entry_of-later k e es ne ∙ sym (entry_of-later k f es apart))
  | inr later ↦
      ap (entry_of k) (put-later e f es later) ∙ elim (cases_Bool (is_same_key k f.key)) [
        | inl at ↦ entry_of-here k f (put e es) at ∙ sym (entry_of-here k f es at)
        | inr past ↦ entry_of-later k f (put e es) past
            ∙ (entry_of-put_other k e es ne ∙ sym (entry_of-later k f es past))
      ]
]

-- of two entries with one key the later one stays
pub put-put : (e f : Entry) (es : List Entry) → e.key ≡ f.key → put e (put f es) ≡ put e es
put-put e f [] is = put-here e f [] (ap (is_same_key e.key) (sym is) ∙ key_itself e.key)
put-put e f (g ∷ es) is = elim (cases_Bool (is_same_key e.key g.key)) [
  | inl here ↦
      ap (put e) (put-here f g es (ap (λ z. is_same_key z g.key) (sym is) ∙ here))
      ∙ (put-here e f es (ap (is_same_key e.key) (sym is) ∙ key_itself e.key) ∙ sym (put-here e g es here))
  | inr later ↦
      ap (put e) (put-later f g es (ap (λ z. is_same_key z g.key) (sym is) ∙ later))
      ∙ (put-later e g (put f es) later ∙ (ap (λ z. g ∷ z) (put-put e f es is) ∙ sym (put-later e g es later)))
]
