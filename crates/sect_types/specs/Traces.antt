-- The traces of statements: what the control paths through them do, visit by visit. Conditions aren't looked at.
use Rattle.std.specs.Prelude.{◌≡◌, ℕ, zero, suc, ◌+◌, List, [], ◌∷◌, ◌++◌, ◌⊎◌}
use Rattle.sect_types.specs.Statements.{TextView, Stop, Do, Choose, Loop, Section}
use Rattle.sect_types.specs.{declared.expansion.action.Condition.{Condition}, declared.expansion.action.Label.{Label}}
use Rattle.sect_types.specs.declared.expansion.action.Label.TheVariants.{Act, Test, Section as WholeSection}

-- how many nodes statements have: one for each statement without a block, each test and each section
abbrev pub node_count : TextView → ℕ
node_count Stop = 0
node_count (Do a rest) = 1 + node_count rest
node_count (Choose t p q rest) = 1 + node_count p + node_count q + node_count rest
node_count (Loop t p rest) = 1 + node_count p + node_count rest
node_count (Section i p rest) = 1 + node_count rest

-- what is done, with the number of its node; nodes are numbered in text order
pub record Visit : Type 0 where
  pub at : ℕ
  pub label : Label

abbrev pub visit : ℕ → Label → Visit
visit n l = record { at = n; label = l }

-- so many rounds of a loop whose test is node n: test and body each time, and then the test
abbrev pub Rounds : ℕ → Condition → (List Visit → Type 0) → ℕ → List Visit → Type 0
Rounds n t IsRound zero steps = steps ≡ visit n (Test t) ∷ []
Rounds n t IsRound (suc rounds) steps =
    (round : List Visit) × (tail : List Visit) × (steps ≡ visit n (Test t) ∷ (round ++ tail)) × IsRound round
    × Rounds n t IsRound rounds tail

-- the steps are a trace of the statements, whose first node is numbered n: a sequence is a concatenation, an `if` is
-- its test and a trace of either side, a `while` is any number of rounds
abbrev pub IsTrace : TextView → ℕ → List Visit → Type 0
IsTrace Stop n steps = steps ≡ []
IsTrace (Do a rest) n steps = (tail : List Visit) × (steps ≡ visit n (Act a) ∷ tail) × IsTrace rest (n + 1) tail
IsTrace (Choose t p q rest) n steps =
    (side : List Visit) × (tail : List Visit) × (steps ≡ visit n (Test t) ∷ (side ++ tail))
    × (IsTrace p (n + 1) side ⊎ IsTrace q (n + 1 + node_count p) side)
    × IsTrace rest (n + 1 + node_count p + node_count q) tail
IsTrace (Loop t p rest) n steps =
    (rounds : ℕ) × (front : List Visit) × (tail : List Visit) × (steps ≡ front ++ tail)
    × Rounds n t (IsTrace p (n + 1)) rounds front
    × IsTrace rest (n + 1 + node_count p) tail
IsTrace (Section i p rest) n steps = (tail : List Visit) × (steps ≡ visit n (WholeSection i) ∷ tail)
    × IsTrace rest (n + 1) tail
