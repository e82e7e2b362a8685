-- The lines of sections one after another.
use Rattle.std.proofs.Common.{◌≡◌, ℕ, ◌+◌, List, [], ◌∷◌, ◌++◌, length, length-append, Some, get_or, refl, sym, ap, ◌∙◌}
use Rattle.std.proofs.{Common.{subst, arith, inl, inr}, lemmas.Bool.{cases_lt}}
use Rattle.std.proofs.{lemmas.List.{append_assoc, append-nil, get_or_append_left}, Math.Seq.{get_or-append_seam}}
use Rattle.std.proofs.lemmas.Option.{slice_get_within, slice_get-get_or, get_or_from_slice_get}
use Rattle.std.specs.Prelude.{slice_get}
use Rattle.sect_front.specs.TreeView.{TreeView}
use Rattle.sect_types.specs.Sections.{SectionView, sections_of}
use Rattle.sect_names.specs.{declared.lock.Lock.{Lock}, Schemes.{SchemeView}}
use Rattle.sect_answers.specs.Listing.{section_line, lines_from, IsLeastInOrder, AreLeast, IsListing}

-- one more line stands behind the others
lines_more : (t : TreeView) (i : ℕ) (sets : List (List Lock)) (locks : List Lock)
    → lines_from t i (sets ++ locks ∷ []) ≡ lines_from t i sets ++ section_line t (i + length sets) locks
lines_more t i [] locks = append-nil (section_line t i locks) ∙ ap (λ n. section_line t n locks) (omega arith)
lines_more t i (first ∷ sets) locks =
    ap (λ r. section_line t i first ++ r)
    (lines_more t (i + 1) sets locks ∙ ap (λ n. lines_from t (i + 1) sets ++ section_line t n locks) (omega arith))
    ∙ sym (append_assoc (section_line t i first) (lines_from t (i + 1) sets)
    (section_line t (i + length (first ∷ sets)) locks))

-- the least sets of the first sections, and that of the next
least_more : (s : SchemeView) (sets : List (List Lock)) → AreLeast s sets → (of : SectionView)
    → slice_get (sections_of s.program.texts) (length sets) ≡ Some of
    → (locks : List Lock) → IsLeastInOrder s (length sets) of locks → AreLeast s (sets ++ locks ∷ [])
least_more s sets each of at locks least = λ j other here at_j there. elim (cases_lt j (length sets)) [
  | inl before ↦ each j other here at_j (slice_get-get_or sets j [] before
      ∙ ap (λ l. Some l) (sym (get_or_append_left sets (locks ∷ []) [] j before)
      ∙ get_or_from_slice_get (sets ++ locks ∷ []) j here [] there))
  | inr past ↦ (
      let last : j ≡ length sets = omega
      (arith, past, slice_get_within (sets ++ locks ∷ []) j here there, length-append sets (locks ∷ [])) in
      let same : locks ≡ here = sym (get_or-append_seam sets locks [] [])
      ∙ ap (λ n. get_or (sets ++ locks ∷ []) n []) (sym last)
      ∙ get_or_from_slice_get (sets ++ locks ∷ []) j here [] there in
      let here_at : slice_get (sections_of s.program.texts) (length sets) ≡ Some other =
      subst (λ n. slice_get (sections_of s.program.texts) n ≡ Some other) last at_j in
      let section : of ≡ other = cc in
      rw (last, sym same, sym section) least)
]

pub no_line : (s : SchemeView) → IsListing s 0 []
no_line s = record {
  sets = [];
  each = λ i of locks at there. absurd (let a = slice_get_within [] i locks there in omega (arith, a));
  counted = refl;
  lines = refl;
}

-- a listing of the first sections, and the line of the next
pub line_more : (s : SchemeView) (i : ℕ) (old new : List ℕ) → IsListing s i old → (of : SectionView)
    → slice_get (sections_of s.program.texts) i ≡ Some of
    → (locks : List Lock) → IsLeastInOrder s i of locks → new ≡ old ++ section_line s.program.source i locks
    → IsListing s (i + 1) new
line_more s i old new had of at locks least is = record {
  sets = had.sets ++ locks ∷ [];
  each = least_more s had.sets had.each of (rw had.counted at) locks (rw had.counted least);
  counted = omega (arith, length-append had.sets (locks ∷ []), had.counted);
  lines =
      is ∙ ap (λ o. o ++ section_line s.program.source i locks) had.lines
      ∙ ap (λ n. lines_from s.program.source 0 had.sets ++ section_line s.program.source n locks)
      (omega (arith, had.counted))
      ∙ sym (lines_more s.program.source 0 had.sets locks);
}
