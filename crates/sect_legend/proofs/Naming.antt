-- The names of a class.
use Rattle.std.proofs.Common.{◌≡◌, ◌∙◌, ℕ, ◌+◌, ◌<◌, ◌≤◌, true, false, List, [], ◌∷◌, drop, length, get_or, ap, refl}
use Rattle.std.proofs.lemmas.List.{drop_all, drop_more}
use Rattle.std.specs.Prelude.{◌==◌, if◌then◌else◌}
use Rattle.sect_legend.specs.Legend.{names_of_class}

-- no names are left
pub none_left : (n : ℕ) (numbers : List ℕ) (names : List (List ℕ)) (i : ℕ) → length numbers ≤ i
    → names_of_class n (drop i numbers) (drop i names) ≡ []
none_left n numbers names i past = ap (λ ns. names_of_class n ns (drop i names)) (drop_all i numbers past)

no_names : (n : ℕ) (numbers : List ℕ) → names_of_class n numbers [] ≡ []
no_names n [] = refl
no_names n (class ∷ numbers) = refl

pub no_names_left : (n : ℕ) (numbers : List ℕ) (names : List (List ℕ)) (i : ℕ) → length names ≤ i
    → names_of_class n (drop i numbers) (drop i names) ≡ []
no_names_left n numbers names i past =
    ap (names_of_class n (drop i numbers)) (drop_all i names past) ∙ no_names n (drop i numbers)

module _ (n : ℕ) (numbers : List ℕ) (names : List (List ℕ)) (i : ℕ) (d : List ℕ) (within : i < length numbers)
    (named : i < length names) where
  abbrev pub rest : List (List ℕ)
  rest = names_of_class n (drop (i + 1) numbers) (drop (i + 1) names)

  next : names_of_class n (drop i numbers) (drop i names)
      ≡ (if get_or numbers i 0 == n then get_or names i d ∷ rest else rest)
  next = ap (λ ns. names_of_class n ns (drop i names)) (drop_more numbers i 0 within)
      ∙ ap (names_of_class n (get_or numbers i 0 ∷ drop (i + 1) numbers)) (drop_more names i d named)

  -- the next site is of the class, or it isn't
  pub one_of : get_or numbers i 0 == n ≡ true
      → names_of_class n (drop i numbers) (drop i names) ≡ get_or names i d ∷ rest
  one_of is = next ∙ ap (λ b. if b then get_or names i d ∷ rest else rest) is

  pub not_of : get_or numbers i 0 == n ≡ false → names_of_class n (drop i numbers) (drop i names) ≡ rest
  not_of isnt = next ∙ ap (λ b. if b then get_or names i d ∷ rest else rest) isnt
