-- Lists of numbers, each at most once.
use Rattle.std.specs.Prelude.{◌≡◌, ℕ, Bool, false, List, [], ◌∷◌, ◌++◌, if◌then◌else◌, nat_eq, slice_index_or}
use Rattle.std.specs.List.{list_any}
use Rattle.sect_lemmas.specs.Lists.{Has}

-- whether a number is there
abbrev pub has_number : List ℕ → ℕ → Bool
has_number ns n = list_any (nat_eq n) ns

-- a number behind others, unless it is there
abbrev pub with_number : List ℕ → ℕ → List ℕ
with_number ns n = if has_number ns n then ns else ns ++ n ∷ []

abbrev pub with_numbers : List ℕ → List ℕ → List ℕ
with_numbers ns [] = ns
with_numbers ns (m ∷ ms) = with_numbers (with_number ns m) ms

-- no two are one
abbrev pub AreApart : {X : Type 0} → List X → Type 0
AreApart [] = Unit {0}
AreApart (x ∷ xs) = (Has xs x → ⊥) × AreApart xs

-- the mark of each number says whether it is there
pub record AreMarked (ns : List ℕ) (marks : List Bool) : Type 0 where
  pub told : (n : ℕ) → slice_index_or marks n false ≡ has_number ns n
  pub apart : AreApart ns
