-- What rounds and verdicts mean.
use Rattle.std.specs.Prelude.{◌≡◌, ⊤, ℕ, List}
use Rattle.sect_endings.specs.{Graphs.{GraphView}, declared.verdict.Verdict.{Verdict}}
use Rattle.sect_endings.specs.Runs.{IsEndless, HasFairRun, IsRound, IsFairRound, IsVerdict}
use Rattle.sect_endings.specs.declared.verdict.Verdict.TheVariants as verdict

-- from the state of a round a run never ends
abbrev pub RoundsAreRuns : Type 0
RoundsAreRuns = (g : GraphView) (s : ℕ) (round : List ℕ) → IsRound g s round
    → (thread : ℕ → ℕ) × (state : ℕ → ℕ) × IsEndless g s thread state

-- and of a fair round a fair run
abbrev pub FairRoundsAreFair : Type 0
FairRoundsAreFair = (g : GraphView) (s : ℕ) (round : List ℕ) → IsFairRound g s round → HasFairRun g s

-- two verdicts say the same, each with a round of its own
abbrev pub SayTheSame : Verdict → Verdict → Type 0
SayTheSame verdict.EveryRunEnds verdict.EveryRunEnds = ⊤
SayTheSame (verdict.EveryFairRunEnds q) (verdict.EveryFairRunEnds r) = ⊤
SayTheSame (verdict.SomeFairRunNeverEnds q) (verdict.SomeFairRunNeverEnds r) = ⊤
SayTheSame (verdict.SomeRunCantEnd q) (verdict.SomeRunCantEnd r) = ⊤
SayTheSame _ _ = ⊥

-- of one graph there is one verdict, but for the round
abbrev pub VerdictsAreOne : Type 0
VerdictsAreOne = (g : GraphView) (v w : Verdict) → IsVerdict g v → IsVerdict g w → SayTheSame v w
