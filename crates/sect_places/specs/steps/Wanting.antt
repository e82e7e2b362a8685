-- Names of a tree that are kept as they go by.
use Rattle.std.specs.Prelude.{◌≡◌, ℕ, ◌+◌, Bool, List, [], ◌∷◌, ◌++◌, length, filter, if◌then◌else◌}
use Rattle.sect_places.specs.{declared.name_use.NameUse.{NameUse}, declared.wish.Wish.{Wish}, Mattering.{is_wanted}}

-- these are wanted; so many have gone by; those that are kept, with their numbers
pub record KeptView : Type 0 where
  pub wish : Wish
  pub passed : ℕ
  pub numbers : List ℕ
  pub uses : List NameUse

abbrev pub is_taken : Wish → NameUse → Bool
is_taken which u = is_wanted which u.item u.role u.name

-- the numbers of those that are wanted, where the first has this number
abbrev pub numbers_from : Wish → ℕ → List NameUse → List ℕ
numbers_from which n [] = []
numbers_from which n (u ∷ us) =
    if is_taken which u then n ∷ numbers_from which (n + 1) us else numbers_from which (n + 1) us

-- what is kept once these have gone by too
unfoldable pub behind : KeptView → List NameUse → KeptView
behind k us = record {
  wish = k.wish;
  passed = k.passed + length us;
  numbers = k.numbers ++ numbers_from k.wish k.passed us;
  uses = k.uses ++ filter (is_taken k.wish) us;
}

-- before any has gone by
abbrev pub nothing_kept : Wish → KeptView
nothing_kept which = record { wish = which; passed = 0; numbers = []; uses = [] }

-- what is given before that of what follows has gone by
abbrev pub Passes : KeptView → KeptView → (List NameUse → List NameUse) → Type 0
Passes old new more = (w : List NameUse) → behind new w ≡ behind old (more w)
