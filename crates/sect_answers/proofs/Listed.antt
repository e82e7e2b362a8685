-- Outcomes that are listed one after another, with where their faults stand.
use Rattle.std.proofs.Common.{◌≡◌, ◌∙◌, ◌+◌, ℕ, List, [], ◌∷◌, ◌++◌, Option, Some, length, take, refl, sym, ap, subst}
use Rattle.std.proofs.Common.{arith, append_assoc, append-nil, length-take}
use Rattle.std.proofs.lemmas.{List.{take_more}, Option.{slice_get_within, get_or_from_slice_get}}
use Rattle.std.specs.Prelude.{slice_get}
use Rattle.sect_types.specs.Whole.{SerialEndView}
use Rattle.sect_serial.specs.Exploring.{Found}
use Rattle.sect_emit.specs.Compiled.{CompiledView}
use Rattle.sect_draw.specs.{Places.{PlacesView}, Placing.{AreThere}}
use Rattle.sect_answers.specs.Placed.{AreListed, IsListed}

-- where none is told all are there
pub none_told : (c : CompiledView) → AreThere c []
none_told c t = tt

module _ (c : CompiledView) (fuel : ℕ) (v : PlacesView) where
  -- one outcome more
  listed_more : (n : ℕ) (xs : Found) (x : SerialEndView × List ℕ) (before one : List ℕ)
      → AreListed c fuel v n xs before → IsListed c fuel v (n + length xs) x one
      → AreListed c fuel v n (xs ++ x ∷ []) (before ++ one)
  listed_more n [] x before one are is = (
    one,
    [],
    subst (λ m. IsListed c fuel v m x one) (let same : n + 0 ≡ n = omega arith in same) is,
    refl,
    ap (λ bytes. bytes ++ one) are ∙ sym (append-nil one),
  )
  listed_more n (y ∷ ys) x before one (first, rest, listed, others, joined) is = (
    first,
    rest ++ one,
    listed,
    listed_more (n + 1) ys x rest one others (subst (λ m. IsListed c fuel v m x one)
        (let same : n + length (y ∷ ys) ≡ n + 1 + length ys = omega arith in same) is),
    ap (λ bytes. bytes ++ one) joined ∙ append_assoc first rest one,
  )

  -- the outcome at a place is listed behind those before it
  pub listed_next : (found : Found) (n : ℕ) (x : SerialEndView × List ℕ) (before one : List ℕ)
      → slice_get found n ≡ Some x → AreListed c fuel v 0 (take n found) before → IsListed c fuel v n x one
      → AreListed c fuel v 0 (take (n + 1) found) (before ++ one)
  listed_next found n x before one at are is =
      let within = slice_get_within found n x at in
      let next : take (n + 1) found ≡ take n found ++ x ∷ [] =
      take_more found n x within ∙ ap (λ y. take n found ++ y ∷ []) (get_or_from_slice_get found n x x at) in
      let count : n ≡ 0 + length (take n found) = omega (arith, length-take n found, within) in
      subst (λ xs. AreListed c fuel v 0 xs (before ++ one)) (sym next)
      (listed_more 0 (take n found) x before one are (subst (λ m. IsListed c fuel v m x one) count is))
