-- Whether the runs of a graph end. A run begins at state 0, and goes on while a thread may go.
use Rattle.std.specs.Prelude.{◌≡◌, ◌≢◌, ◌⊎◌, ◌≤◌, ℕ, suc, List, [], ◌∷◌, Some, None, length}
use Rattle.sect_endings.specs.{Graphs.{GraphView, go, IsWalk, IsEnd}, declared.verdict.Verdict.{Verdict}}
use Rattle.sect_endings.specs.declared.verdict.Verdict.TheVariants as verdict

-- some run comes to an end from here
abbrev pub CanEnd : GraphView → ℕ → Type 0
CanEnd g s = (order : List ℕ) × (q : ℕ) × IsWalk g s order q × IsEnd g q

-- no run from here goes further than a number that all share
abbrev pub IsBounded : GraphView → ℕ → Type 0
IsBounded g s = (n : ℕ) × ((order : List ℕ) (q : ℕ) → IsWalk g s order q → length order ≤ n)

-- a run that never ends: which thread goes as the n-th, and from which state
pub record IsEndless (g : GraphView) (s : ℕ) (thread state : ℕ → ℕ) : Type 0 where
  pub start : state 0 ≡ s
  pub steps : (n : ℕ) → go g (state n) (thread n) ≡ Some (state (suc n))

-- no thread is left out for ever: again and again it goes, or may not go
abbrev pub IsFair : GraphView → (ℕ → ℕ) → (ℕ → ℕ) → Type 0
IsFair g thread state =
    (t n : ℕ) → (m : ℕ) × (n ≤ m) × ((thread m ≡ t) ⊎ (go g (state m) t ≡ None))

-- a run from here never ends, though no thread is left out for ever
abbrev pub HasFairRun : GraphView → ℕ → Type 0
HasFairRun g s = (thread : ℕ → ℕ) × (state : ℕ → ℕ) × IsEndless g s thread state × IsFair g thread state

-- along the walk the thread goes, or may not go
abbrev pub Meets : GraphView → ℕ → List ℕ → ℕ → Type 0
Meets g s [] t = go g s t ≡ None
Meets g s (u ∷ order) t =
    (go g s t ≡ None) ⊎ ((u ≡ t) ⊎ ((x : ℕ) × (go g s u ≡ Some x) × Meets g x order t))

-- a walk that isn't empty leads back to its state
pub record IsRound (g : GraphView) (s : ℕ) (round : List ℕ) : Type 0 where
  pub some : round ≢ []
  pub back : IsWalk g s round s

-- and leaves no thread out
pub record IsFairRound (g : GraphView) (s : ℕ) (round : List ℕ) : Type 0 where
  pub returns : IsRound g s round
  pub fair : (t : ℕ) → Meets g s round t

-- what is said of runs is so, and the walk from state 0 leads to the round
abbrev pub IsVerdict : GraphView → Verdict → Type 0
IsVerdict g verdict.EveryRunEnds = IsBounded g 0
IsVerdict g (verdict.EveryFairRunEnds r) =
    (s : ℕ) × IsWalk g 0 r.before.items s × IsRound g s r.round.items × (HasFairRun g 0 → ⊥)
IsVerdict g (verdict.SomeFairRunNeverEnds r) =
    (s : ℕ) × IsWalk g 0 r.before.items s × IsFairRound g s r.round.items
    × ((order : List ℕ) (q : ℕ) → IsWalk g 0 order q → CanEnd g q)
IsVerdict g (verdict.SomeRunCantEnd r) =
    (s : ℕ) × IsWalk g 0 r.before.items s × IsFairRound g s r.round.items × (CanEnd g s → ⊥)
