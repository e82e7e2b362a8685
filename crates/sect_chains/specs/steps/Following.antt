-- The steps of a chain, each the one to which the step before it links.
use Rattle.std.specs.Prelude.{◌≡◌, ◌<◌, ℕ, zero, suc, List, [], ◌∷◌, Option, Some, None, length}
use Rattle.std.specs.Prelude.{slice_get}
use Rattle.sect_lemmas.specs.Lists.{Has}
use Rattle.sect_names.specs.declared.lock.Lock.{Lock}
use Rattle.sect_chains.specs.{declared.keep.KeptLink.{KeptLink}, declared.numbered.NumberedStep.{NumberedStep}}

-- each step that links to one links to an earlier one
abbrev pub LinkBack : List KeptLink → Type 0
LinkBack kept = (i j : ℕ) (x : KeptLink) → slice_get kept i ≡ Some x → x.next ≡ Some j → j < i

abbrev pub numbered : KeptLink → NumberedStep
numbered x = record { node = x.node; number = x.number }

-- the steps behind one that links there, where those from an index on are given so
abbrev pub behind : (ℕ → List NumberedStep) → Option ℕ → List NumberedStep
behind from None = []
behind from (Some j) = from j

-- a step, if there is one, and those behind it
abbrev pub begun : (ℕ → List NumberedStep) → Option KeptLink → List NumberedStep
begun from None = []
begun from (Some x) = numbered x ∷ behind from x.next

-- the steps from the one at an index on, so many at most
abbrev pub steps_from : List KeptLink → ℕ → ℕ → List NumberedStep
steps_from kept zero i = []
steps_from kept (suc n) i = begun (λ j. steps_from kept n j) (slice_get kept i)

-- all steps from the one at an index on
abbrev pub chain_from : List KeptLink → ℕ → List NumberedStep
chain_from kept i = steps_from kept (suc i) i

-- the steps link back and have their locks, and chains begin with those at these indices
pub record AreChained (keys : List Lock) (kept : List KeptLink) (starts : List ℕ) : Type 0 where
  pub back : LinkBack kept
  pub locks : (x : KeptLink) → Has kept x → x.number < length keys
  pub there : (i : ℕ) → Has starts i → i < length kept
