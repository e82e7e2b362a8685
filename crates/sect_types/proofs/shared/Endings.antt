-- Whole sections in an order come to one thing at most.
use Rattle.std.proofs.Common.{◌≡◌, ℕ, List, [], ◌∷◌, map, Some, refl, sym, ◌∙◌, subst}
use Rattle.sect_types.specs.{Programs.{ProgramView}, declared.meaning.store.End.{End}}
use Rattle.sect_types.specs.Whole.{RunView, SerialEndView, EndsAs, RunsWhole}
use Rattle.sect_lemmas.proofs.Options.{some_injective}

-- lists are equal where the lists of their elements, each wrapped, are
same_ends : (xs ys : List End) → map Some xs ≡ map Some ys → xs ≡ ys
same_ends [] [] e = refl
same_ends [] (y ∷ ys) e = cc
same_ends (x ∷ xs) [] e = cc
same_ends (x ∷ xs) (y ∷ ys) e =
    let heads : Some x ≡ Some y = cc in
    let tails : map Some xs ≡ map Some ys = cc in
    let h : x ≡ y = some_injective x y heads in
    let t : xs ≡ ys = same_ends xs ys tails in
    cc

-- a serial state ends as one ending at most
one_ending : (p : ProgramView) (s : RunView) (e f : SerialEndView) → EndsAs p s e → EndsAs p s f → e ≡ f
one_ending p s e f a b =
    both (a.store ∙ sym b.store) (a.output ∙ sym b.output) (same_ends e.ends f.ends (sym a.ends ∙ b.ends)) where
      both : e.store ≡ f.store → e.output ≡ f.output → e.ends ≡ f.ends → e ≡ f
      both h k l = λ i. record { store = h i; output = k i; ends = l i }

-- an order has one ending at most
pub whole_comes_to_one : (p : ProgramView) (fuel : ℕ) (order : List ℕ) (e f : SerialEndView) → RunsWhole p fuel order e
    → RunsWhole p fuel order f → e ≡ f
whole_comes_to_one p fuel order e f a b =
    one_ending p a.0 e f a.2 (subst (λ (s : RunView). EndsAs p s f) (some_injective b.0 a.0 (sym b.1 ∙ a.1)) b.2)
