-- Who waits, entry by entry.
use Rattle.std.proofs.Common.{◌≡◌, inl, inr, ℕ, ◌+◌, ◌≤◌, List, [], ◌∷◌, false, refl, sym, ◌∙◌, ap, subst, arith}
use Rattle.std.proofs.lemmas.Bool.{cases_Bool, or_parts}
use Rattle.std.specs.List.{list_any}
use Rattle.sect_modes.specs.{declared.key.Key.{Key}, Key.{is_same_key}}
use Rattle.sect_modes.proofs.shared.Keys.{same_key}
use Rattle.sect_table.specs.{Contents.{Entry, entry_of, put, is_among}, Sound.{claims_by, waits_of}}
use Rattle.sect_table.proofs.shared.Shown.{entry_of-here, entry_of-later}
use Rattle.sect_table.proofs.shared.Entries.{entry_of-put, entry_of-put_other}
use Rattle.sect_table.proofs.{Shown.{put-here, put-later}, Claiming.{claims_by-missing}}

-- one entry is put
pub put_all : (P : Entry → Type 0) (e : Entry) (es : List Entry) → P e
    → ((k : Key) → is_same_key k e.key ≡ false → P (entry_of k es)) → (k : Key) → P (entry_of k (put e es))
put_all P e es here others k = elim (cases_Bool (is_same_key k e.key)) [
  | inl same ↦ subst P (sym (ap (λ z. entry_of z (put e es)) (same_key k e.key same) ∙ entry_of-put e es)) here
  | inr other ↦ subst P (sym (entry_of-put_other k e es other)) (others k other)
]

pub waits_of-put : (t : ℕ) (e : Entry) (es : List Entry)
    → waits_of t (put e es) + claims_by t (entry_of e.key es).waiters ≡ waits_of t es + claims_by t e.waiters
waits_of-put t e [] = omega arith
waits_of-put t e (f ∷ fs) = elim (cases_Bool (is_same_key e.key f.key)) [
  | inl here ↦
      let a : waits_of t (put e (f ∷ fs)) ≡ claims_by t e.waiters + waits_of t fs =
      ap (waits_of t) (put-here e f fs here) in
      let b : claims_by t (entry_of e.key (f ∷ fs)).waiters ≡ claims_by t f.waiters =
      ap (λ (z : Entry). claims_by t z.waiters) (entry_of-here e.key f fs here) in
      omega arith
  | inr later ↦
      let a : waits_of t (put e (f ∷ fs)) ≡ claims_by t f.waiters + waits_of t (put e fs) =
      ap (waits_of t) (put-later e f fs later) in
      let b : claims_by t (entry_of e.key (f ∷ fs)).waiters ≡ claims_by t (entry_of e.key fs).waiters =
      ap (λ (z : Entry). claims_by t z.waiters) (entry_of-later e.key f fs later) in
      let rest = waits_of-put t e fs in
      omega arith
]

pub waits_at-le : (t : ℕ) (k : Key) (es : List Entry) → claims_by t (entry_of k es).waiters ≤ waits_of t es
waits_at-le t k [] = omega arith
waits_at-le t k (f ∷ fs) = elim (cases_Bool (is_same_key k f.key)) [
  | inl here ↦ let b : claims_by t (entry_of k (f ∷ fs)).waiters ≡ claims_by t f.waiters =
      ap (λ (z : Entry). claims_by t z.waiters) (entry_of-here k f fs here) in omega arith
  | inr later ↦ let b : claims_by t (entry_of k (f ∷ fs)).waiters ≡ claims_by t (entry_of k fs).waiters =
      ap (λ (z : Entry). claims_by t z.waiters) (entry_of-later k f fs later) in let rest = waits_at-le t k fs in
      omega arith
]

pub waits_for_none : (t : ℕ) (es : List Entry) → list_any (λ e. is_among t e.waiters) es ≡ false → waits_of t es ≡ 0
waits_for_none t [] e = refl
waits_for_none t (f ∷ fs) e =
    let both = or_parts (is_among t f.waiters) (list_any (λ e. is_among t e.waiters) fs) e in
    let here = claims_by-missing t f.waiters both.0 in
    let rest = waits_for_none t fs both.1 in
    omega arith
