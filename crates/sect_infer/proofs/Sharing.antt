-- Locks of sections that workers have found, put in their places.
use Rattle.std.proofs.Common.{◌≡◌, ℕ, ◌+◌, ◌<◌, List, [], ◌∷◌, ◌++◌, Option, Some, length, slice_get}
use Rattle.std.proofs.Common.{slice_set, refl, sym, ap, ◌∙◌, subst, arith, inl, inr, ◌%◌, Bool, append-nil}
use Rattle.std.proofs.{Common.{add-one, zero-add}, lemmas.List.{length-set, map-append}, lemmas.Bool.{eq-eqb, ne_eqb}}
use Rattle.std.proofs.lemmas.List.Elements.{filter-append}
use Rattle.std.specs.{Prelude.{◌==◌, filter}, List.{range_with_len}}
use Rattle.sect_types.specs.Sections.{sections_of}
use Rattle.sect_lemmas.proofs.{Options.{some_injective, none_or_some}, Places.{pushed_at}, Replaced.{set_cases}}
use Rattle.sect_lemmas.proofs.Listing.{range_more}
use Rattle.sect_names.specs.Schemes.{SchemeView}
use Rattle.sect_infer.specs.{Sets.{LocksView, AreInferredAt}, declared.workers.SectionLocks.{SectionLocks}}
use Rattle.sect_infer.specs.steps.Sharing.{AreFound, AreInPlace, dealt, sections_in}

-- one more is found
pub one_found : (s : SchemeView) (found : List SectionLocks) (x : SectionLocks) → AreFound s found
    → x.section < length (sections_of s.program.texts) → AreInferredAt s x.section x.locks
    → AreFound s (found ++ x ∷ [])
one_found s found x before within is = record {
  each = λ k y at. elim (pushed_at found x y k at) [
    | inl e ↦ subst (λ z. (z.section < length (sections_of s.program.texts)) × AreInferredAt s z.section z.locks) e.1
        (within, is)
    | inr h ↦ before.each k y h
  ];
}

dealt_next : (workers worker n : ℕ) → dealt workers worker (n + 1) ≡ dealt workers worker n
    ++ filter (λ i. i % workers == worker) (n ∷ [])
dealt_next workers worker n =
    let p : ℕ → Bool = λ i. i % workers == worker in
    let here : range_with_len 0 (n + 1) ≡ range_with_len 0 n ++ n ∷ [] = ap (range_with_len 0) (add-one n)
    ∙ range_more 0 n ∙ ap (λ m. range_with_len 0 n ++ m ∷ []) (zero-add n) in
    ap (filter p) here ∙ filter-append p (range_with_len 0 n) (n ∷ [])

-- one more section that falls to the worker
pub dealt_one : (workers worker n : ℕ) (found : List SectionLocks) (x : SectionLocks) → x.section ≡ n
    → n % workers ≡ worker → sections_in found ≡ dealt workers worker n
    → sections_in (found ++ x ∷ []) ≡ dealt workers worker (n + 1)
dealt_one workers worker n found x is falls before =
    let here : filter (λ i. i % workers == worker) (n ∷ []) ≡ n ∷ [] = rw (eq-eqb (n % workers) worker falls) refl in
    map-append (λ (y : SectionLocks). y.section) found (x ∷ [])
    ∙ ap (λ ns. ns ++ x.section ∷ []) before ∙ ap (λ m. dealt workers worker n ++ m ∷ []) is
    ∙ sym (dealt_next workers worker n ∙ ap (λ ns. dealt workers worker n ++ ns) here)

-- one that doesn't
pub dealt_past : (workers worker n : ℕ) (found : List SectionLocks) → (n % workers ≡ worker → ⊥)
    → sections_in found ≡ dealt workers worker n → sections_in found ≡ dealt workers worker (n + 1)
dealt_past workers worker n found other before =
    let here : filter (λ i. i % workers == worker) (n ∷ []) ≡ [] = rw (ne_eqb (n % workers) worker other) refl in
    before ∙ sym (dealt_next workers worker n ∙ ap (λ ns. dealt workers worker n ++ ns) here
    ∙ append-nil (dealt workers worker n))

-- none so far
pub none_found : (s : SchemeView) → AreFound s []
none_found s = record { each = λ k x at. absurd (none_or_some x at) }

-- no place is filled
pub record AreEmpty (n : ℕ) (places : List (Option LocksView)) : Type 0 where
  pub count : length places ≡ n
  pub each : (i : ℕ) (locks : LocksView) → slice_get places i ≡ Some (Some locks) → ⊥

-- the locks of a section are put in its place
pub one_placed : (s : SchemeView) (places : List (Option LocksView)) (n : ℕ) (locks : LocksView) → AreInPlace s places
    → AreInferredAt s n locks → AreInPlace s (slice_set places n (Some locks))
one_placed s places n locks before here = record {
  count = length-set places n (Some locks) ∙ before.count;
  each = λ i x at. elim (set_cases places n (Some locks) i (Some x) at) [
    | inl e ↦ subst (AreInferredAt s i) (some_injective locks x e.1)
        (subst (λ m. AreInferredAt s m locks) (sym e.0) here)
    | inr h ↦ before.each i x h
  ];
}

-- a section of the program has a place
pub has_place : (s : SchemeView) (places : List (Option LocksView)) (n : ℕ) → AreInPlace s places
    → n < length (sections_of s.program.texts) → n < length places
has_place s places n placed within = let e = placed.count in omega (arith, e, within)
