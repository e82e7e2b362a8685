-- Sets of states from which runs need not end.
use Rattle.std.specs.Prelude.{◌≡◌, ◌<◌, ℕ, Bool, true, false, List, length}
use Rattle.sect_endings.specs.{Graphs.{GraphView}, Runs.{CanEnd, IsBounded, HasFairRun}}
use Rattle.sect_endings.specs.steps.Sets.{In, IsWay, IsMet, MovesInto, count_in}

-- a way within the set comes to a state where the thread may not go, or leads into the set
abbrev pub ReachesMet : GraphView → List Bool → ℕ → ℕ → Type 0
ReachesMet g marks t s = (order : List ℕ) × (q : ℕ) × IsWay g marks s order q × IsMet g marks t q

-- the set has each state from which no run can end, and each from which a fair run never ends; where no thread is
-- looked at, each from which runs have no bound
pub record IsCandidate (g : GraphView) (threads : ℕ) (marks : List Bool) : Type 0 where
  pub size : length marks ≡ g.states
  pub traps : (s : ℕ) → s < g.states → (CanEnd g s → ⊥) → In marks s
  pub fair : (s : ℕ) → s < g.states → HasFairRun g s → In marks s
  pub bounded : threads ≡ 0 → (s : ℕ) → s < g.states → (In marks s → ⊥) → IsBounded g s

-- each state of the set leads into it
abbrev pub AllMove : GraphView → List Bool → Type 0
AllMove g marks = (s : ℕ) → In marks s → MovesInto g marks s

-- and to where the thread is met
abbrev pub AllMeet : GraphView → List Bool → ℕ → Type 0
AllMeet g marks t = (s : ℕ) → In marks s → ReachesMet g marks t s

-- each state of the set leads into it, and to where each of the first threads is met
pub record IsSettled (g : GraphView) (threads : ℕ) (marks : List Bool) : Type 0 where
  pub moves : AllMove g marks
  pub meets : (t : ℕ) → t < threads → AllMeet g marks t

-- some states have been taken out of a set of states, or none has
pub record IsLess (old new : List Bool) (changed : Bool) : Type 0 where
  pub size : length new ≡ length old
  pub fewer : changed ≡ true → count_in new < count_in old
  pub same : changed ≡ false → new ≡ old

-- states have been taken out of a set for the sake of moves, and of so many first threads
pub record IsPassed (g : GraphView) (threads n : ℕ) (old new : List Bool) (changed : Bool) : Type 0 where
  pub less : IsLess old new changed
  pub stays : IsCandidate g threads old → IsCandidate g threads new
  pub settled : changed ≡ false → IsSettled g n new
