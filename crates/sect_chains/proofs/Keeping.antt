-- Steps that are kept, one after another.
use Rattle.std.proofs.Common.{◌≡◌, ◌↔◌, ◌⊎◌, ℕ, ◌+◌, ◌<◌, List, [], ◌∷◌, ◌++◌, Option, Bool, true, false, not, length}
use Rattle.std.proofs.Common.{get_or, set, take, inl, inr, refl, sym, ap, ◌∙◌, subst, true≢false}
use Rattle.std.proofs.{lemmas.Bool.{cases_eq}, lemmas.List.{get_or-set_same, get_or-set_other, length-set, take_more}}
use Rattle.std.specs.Prelude.{slice_index_or, slice_set, ◌&&◌}
use Rattle.sect_chains.specs.steps.Keeping.{KeptView, step_of, keep_one, keep_each, IsMarkedAt}
use Rattle.sect_chains.specs.steps.Marking.{is_marked, with_mark}
use Rattle.sect_chains.proofs.Marking.{mark_has}

-- what is marked at the nodes, once a number is marked at one of them
pub found_new : (found : List (List Bool)) (count j n : ℕ) → j < length found → n < count → (i m : ℕ)
    → IsMarkedAt (slice_set found j (with_mark (slice_index_or found j []) count n)) i m
    ↔ (IsMarkedAt found i m ⊎ ((i ≡ j) × (m ≡ n)))
found_new found count j n there below i m =
    let put = with_mark (slice_index_or found j []) count n in
    elim (cases_eq i j) [
      | inl e ↦
          let here : slice_index_or (set found j put) i [] ≡ put
          = ap (λ k. get_or (set found j put) k []) e ∙ get_or-set_same found j put [] there in
          let was : slice_index_or found i [] ≡ slice_index_or found j [] = ap (λ k. get_or found k []) e in
          let one = mark_has (slice_index_or found j []) count n below m in (
            λ h. elim (one.0 (subst (λ l. is_marked l m ≡ true) here h)) [
              | inl a ↦ inl (subst (λ l. is_marked l m ≡ true) (sym was) a)
              | inr q ↦ inr (e, q)
            ],
            λ h. subst (λ l. is_marked l m ≡ true) (sym here)
                (one.1 (elim h [ inl a ↦ inl (subst (λ l. is_marked l m ≡ true) was a) | inr b ↦ inr b.1 ])),
          )
      | inr other ↦
          let here : slice_index_or (set found j put) i [] ≡ slice_index_or found i []
          = get_or-set_other found j i put [] other in (
            λ h. inl (subst (λ l. is_marked l m ≡ true) here h),
            λ h. subst (λ l. is_marked l m ≡ true) (sym here) (elim h [ inl a ↦ a | inr b ↦ absurd (other b.0) ]),
          )
    ]

-- a number is new, or it is there or under another
pub new_told : (h u : Bool) → (not h && not u) ≡ true → h ≡ false
new_told true u e = absurd (true≢false (sym e))
new_told false u e = refl

pub old_told : (h u : Bool) → (not h && not u) ≡ false → (h ≡ true) ⊎ (u ≡ true)
old_told true u e = inl refl
old_told false true e = inr refl
old_told false false e = absurd (true≢false e)

-- some numbers and then others
each_then : (above : List (List ℕ)) (w : KeptView) (j : ℕ) (o : Option ℕ) (ns ms : List ℕ)
    → keep_each above w j o (ns ++ ms) ≡ keep_each above (keep_each above w j o ns) j o ms
each_then above w j o [] ms = refl
each_then above w j o (n ∷ ns) ms = each_then above (keep_one above w (step_of j o n)) j o ns ms

-- the nodes stay
pub each_count : (above : List (List ℕ)) (w : KeptView) (j : ℕ) (o : Option ℕ) (ns : List ℕ)
    → length (keep_each above w j o ns).found ≡ length w.found
each_count above w j o [] = refl
each_count above w j o (n ∷ ns) =
    each_count above (keep_one above w (step_of j o n)) j o ns
    ∙ length-set w.found j (with_mark (slice_index_or w.found j []) (length above) n)

-- the next number
pub each_next : (above : List (List ℕ)) (w v u : KeptView) (j : ℕ) (o : Option ℕ) (ns : List ℕ) (i n : ℕ)
    → i < length ns → n ≡ get_or ns i n → v ≡ keep_each above w j o (take i ns)
    → u ≡ keep_one above v (step_of j o n) → u ≡ keep_each above w j o (take (i + 1) ns)
each_next above w v u j o ns i n within is before now =
    let next : take (i + 1) ns ≡ take i ns ++ n ∷ [] = take_more ns i n within
    ∙ ap (λ z. take i ns ++ z ∷ []) (sym is) in
    now ∙ ap (λ z. keep_one above z (step_of j o n)) before ∙ sym (each_then above w j o (take i ns) (n ∷ []))
    ∙ ap (keep_each above w j o) (sym next)
