-- Orders of sections that go round: the state is the same again. `rounds_never_end` cites it.
use Rattle.std.specs.Prelude.{◌≡◌, ◌≢◌, ◌≤◌, length, ℕ, zero, suc, List, [], ◌++◌}
use Rattle.sect_types.specs.{Programs.{ProgramView}, Whole.{RunView}}
use Rattle.sect_free.specs.States.{Leads, bare}

-- behind some sections these, one at least, lead with enough fuel to the same state again but for the fuel
pub record IsRound (p : ProgramView) (before round : List ℕ) : Type 0 where
  pub some : round ≢ []
  pub fuel : ℕ
  pub first : RunView
  pub second : RunView
  pub there : Leads p fuel before first
  pub again : Leads p fuel (before ++ round) second
  pub same : bare second ≡ bare first

-- so often the round, one behind the other
abbrev pub rounds : ℕ → List ℕ → List ℕ
rounds zero round = []
rounds (suc n) round = rounds n round ++ round

-- what goes round once goes round as often as one likes, with enough fuel
abbrev pub RoundsNeverEnd : Type 0
RoundsNeverEnd =
    (p : ProgramView) (before round : List ℕ) → IsRound p before round
    → (n : ℕ) → (fuel : ℕ) × (r : RunView) × Leads p fuel (before ++ rounds n round) r

-- so there are orders of any length that lead on
abbrev pub RoundsLeadOn : Type 0
RoundsLeadOn =
    (p : ProgramView) (before round : List ℕ) → IsRound p before round
    → (n : ℕ) → (fuel : ℕ) × (order : List ℕ) × (r : RunView) × Leads p fuel order r × (n ≤ length order)
