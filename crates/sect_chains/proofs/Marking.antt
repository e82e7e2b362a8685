-- Marks of numbers.
use Rattle.std.proofs.Common.{◌≡◌, ◌↔◌, ◌⊎◌, inl, inr, ℕ, zero, suc, ◌-◌, ◌<◌, ◌≤◌, List, [], ◌∷◌, ◌++◌, Bool, true}
use Rattle.std.proofs.Common.{false, nat_lt, length, get_or, set, replicate, refl, sym, ap, ◌∙◌, arith}
use Rattle.std.proofs.{Common.{length-append}, lemmas.Bool.{cases_eq}, lemmas.Bool.Decides.{nat_tests}}
use Rattle.std.proofs.lemmas.List.{get_or-set_same, get_or-set_other, length-replicate}
use Rattle.std.specs.Prelude.{if◌then◌else◌}
use Rattle.sect_lemmas.proofs.Elements.{repeated}
use Rattle.sect_chains.specs.steps.Marking.{is_marked, with_room, with_mark}

-- room for more marks marks nothing
more_room : (marks : List Bool) (k n : ℕ) → is_marked (marks ++ replicate k false) n ≡ is_marked marks n
more_room [] k n = repeated k n false
more_room (m ∷ marks) k zero = refl
more_room (m ∷ marks) k (suc n) = more_room marks k n

-- there is room for the mark of the number, and nothing more is marked
module _ (marks : List Bool) (count n : ℕ) (below : n < count) where
  room_so : (b : Bool) → nat_lt n (length marks) ≡ b
      → n < length (if b then marks else marks ++ replicate (count - length marks) false)
  room_so true e = grind (arith, nat_tests, e)
  room_so false e =
      let long = length-append marks (replicate (count - length marks) false) in
      let more = length-replicate (count - length marks) false in
      let past : length marks ≤ n = grind (arith, nat_tests, e) in
      omega (arith, below, long, more, past)

  same_so : (b : Bool) (m : ℕ)
      → is_marked (if b then marks else marks ++ replicate (count - length marks) false) m ≡ is_marked marks m
  same_so true m = refl
  same_so false m = more_room marks (count - length marks) m

  -- what is marked with the number
  pub mark_has : (m : ℕ) → (is_marked (with_mark marks count n) m ≡ true) ↔ ((is_marked marks m ≡ true) ⊎ (m ≡ n))
  mark_has m =
      let room = with_room marks count n in
      let there : n < length room = room_so (nat_lt n (length marks)) refl in
      let same : is_marked room m ≡ is_marked marks m = same_so (nat_lt n (length marks)) m in
      elim (cases_eq m n) [
        | inl e ↦
            let here : is_marked (set room n true) m ≡ true
            = ap (λ k. get_or (set room n true) k false) e ∙ get_or-set_same room n true false there in
            (λ h. inr e, λ h. here)
        | inr other ↦
            let here : is_marked (set room n true) m ≡ is_marked marks m
            = get_or-set_other room n m true false other ∙ same in (
              λ h. inl (sym here ∙ h),
              λ h. elim h [ inl a ↦ here ∙ a | inr e ↦ absurd (other e) ],
            )
      ]
