-- The last bytes of a text, and its gaps.
use Rattle.std.proofs.Common.{◌≡◌, ℕ, suc, ◌+◌, ◌-◌, ◌≤◌, Bool, true, false, not, ◌&&◌, cond, eqb, List, [], ◌∷◌}
use Rattle.std.proofs.{Common.{length, drop, refl, sym, ◌∙◌, ap, arith, inl, inr, length-drop}, lemmas.Bool.{cases_lt}}
use Rattle.std.proofs.lemmas.List.{drop-drop, drop_all}
use Rattle.sect_front.specs.{Gaps.{begins_with, after_gap, skip, is_blank}, LongGaps.{IsRestOf, IsGap}}
use Rattle.sect_front.specs.declared.span.Span.{Span}
use Rattle.sect_front.proofs.shared.Lexings.{gap_fits}

pub rest_all : (bytes : List ℕ) → IsRestOf bytes bytes
rest_all bytes = (0, refl)

rest_of_rest : (bytes here there : List ℕ) → IsRestOf bytes here → IsRestOf here there → IsRestOf bytes there
rest_of_rest bytes here there (m, e) (n, f) = (m + n, sym (drop-drop n m bytes) ∙ (ap (drop n) e ∙ f))

pub rest_more : (bytes here : List ℕ) (n : ℕ) → IsRestOf bytes here → IsRestOf bytes (drop n here)
rest_more bytes here n h = rest_of_rest bytes here (drop n here) h (n, refl)

skip_rest : (c : Bool) (bytes : List ℕ) → IsRestOf bytes (skip c bytes)
skip_rest c [] = (0, refl)
skip_rest c (b ∷ bs) = go c (is_blank b) (eqb b 47 && begins_with 47 bs) (skip_rest (not (eqb b 10)) bs)
    (skip_rest false bs) (skip_rest true bs)
  where
    later : (here : List ℕ) → IsRestOf bs here → IsRestOf (b ∷ bs) here
    later here (n, e) = (suc n, e)

    go : (c d e : Bool) → IsRestOf bs (skip (not (eqb b 10)) bs) → IsRestOf bs (skip false bs)
        → IsRestOf bs (skip true bs) → IsRestOf (b ∷ bs)
        (cond c (skip (not (eqb b 10)) bs) (cond d (skip false bs) (cond e (skip true bs) (b ∷ bs))))
    go true d e h k l = later _ h
    go false true e h k l = later _ k
    go false false true h k l = later _ l
    go false false false h k l = (0, refl)

pub rest_gap : (bytes here : List ℕ) → IsRestOf bytes here → IsRestOf bytes (after_gap here)
rest_gap bytes here h = rest_of_rest bytes here (after_gap here) h (skip_rest false here)

-- a rest is no longer than the text
pub rest_fits : (bytes here : List ℕ) → IsRestOf bytes here → length here ≤ length bytes
rest_fits bytes here (n, e) = omega (arith, ap length e, length-drop n bytes)

-- where a rest begins
pub rest_at : (bytes here : List ℕ) → IsRestOf bytes here → drop (length bytes - length here) bytes ≡ here
rest_at bytes here (n, e) = elim (cases_lt (length bytes) n) [
  | inl past ↦
      let none : here ≡ [] = sym e ∙ drop_all n bytes (omega (arith, past)) in
      drop_all (length bytes - length here) bytes (omega (arith, ap length none)) ∙ sym none
  | inr within ↦
      ap (λ k. drop k bytes) (omega (arith, within, ap length e, length-drop n bytes)) ∙ e
]

-- the gap at the front of a rest
pub gap_here : (bytes here : List ℕ) → IsRestOf bytes here → (gap : Span) → gap.start ≡ length bytes - length here
    → gap.end ≡ length bytes - length (after_gap here) → IsGap bytes gap
gap_here bytes here h gap start end = (
  omega (arith, start, end, rest_fits bytes here h, gap_fits here),
  omega (arith, end),
  ap after_gap (ap (λ k. drop k bytes) start ∙ rest_at bytes here h)
      ∙ (sym (rest_at bytes (after_gap here) (rest_gap bytes here h)) ∙ ap (λ k. drop k bytes) (sym end)),
)
