-- Which request the options of a subcommand make. `command` cites it.
use Rattle.std.specs.Prelude.{◌≡◌, ◌++◌, ℕ, Bool, true, false, List, Option, Some, None, codes}
use Rattle.clap.specs.{Matches.{first_value}, declared.parser.matches.Found.{Found}}
use Rattle.sect_answers.specs.{declared.format.Format.{Format}, declared.naming.ThreadWord.{ThreadWord}}
use Rattle.sect_answers.specs.declared.format.Format.TheVariants as format
use Rattle.sect_answers.specs.declared.verbose.Verbose.{Verbose as VerboseOf}
use Rattle.sect_answers.specs.declared.verbose.Verbose.TheVariants as verbose
use Rattle.sect_command.specs.Saying.{AreThreads, AreTurns, MaySayNumber, SaysFlag, SaysForm, SaysFormat, SaysK}
use Rattle.sect_command.specs.Saying.{SaysLintFormat, SaysNumber, flag_in, values_in}
use Rattle.sect_command.specs.Ruling.{SaysRulings}
use Rattle.sect_command.specs.declared.request.{PlacedRun.{PlacedRun}, Request.{Request}, Turns.{Turns}}
use Rattle.sect_command.specs.declared.request.PlacedRun.TheVariants as placed
use Rattle.sect_command.specs.declared.request.Request.TheVariants.{Locks, Compile, C, Explain, Conflicts, Graph}
use Rattle.sect_command.specs.declared.request.Request.TheVariants.{Inspect, Check, Serial, Outcomes, Schedule}
use Rattle.sect_command.specs.declared.request.Request.TheVariants.{Chart, Run, TimedRun, Lint, Verbose, Placed}
use Rattle.sect_command.specs.declared.subcommand.Subcommand.{Subcommand}
use Rattle.sect_command.specs.declared.subcommand.Subcommand.TheVariants as subcommand

-- the subcommand whose answer has a form in which its numbers are explained
abbrev pub verbose_subcommand : VerboseOf → Subcommand
verbose_subcommand verbose.Locks = subcommand.Locks
verbose_subcommand verbose.Conflicts = subcommand.Conflicts

-- the subcommand that makes such a run
abbrev pub placed_subcommand : PlacedRun → Subcommand
placed_subcommand (placed.Serial order) = subcommand.Serial
placed_subcommand (placed.Outcomes most) = subcommand.Outcomes
placed_subcommand (placed.Schedule schedule) = subcommand.Schedule
placed_subcommand (placed.Chart schedule) = subcommand.Schedule
placed_subcommand placed.Run = subcommand.Run
placed_subcommand placed.TimedRun = subcommand.Run

-- the subcommand that makes such a request
abbrev pub subcommand_of : Request → Subcommand
subcommand_of (Locks k format) = subcommand.Locks
subcommand_of (Compile k workers form) = subcommand.Compile
subcommand_of (C k) = subcommand.C
subcommand_of (Explain k format) = subcommand.Explain
subcommand_of (Conflicts k format) = subcommand.Conflicts
subcommand_of (Verbose k of) = verbose_subcommand of
subcommand_of (Graph k section) = subcommand.Graph
subcommand_of (Lint k format rulings) = subcommand.Lint
subcommand_of (Inspect k) = subcommand.Inspect
subcommand_of (Serial fuel order format) = subcommand.Serial
subcommand_of (Outcomes fuel most format) = subcommand.Outcomes
subcommand_of (Schedule k fuel schedule format) = subcommand.Schedule
subcommand_of (Chart k fuel schedule) = subcommand.Schedule
subcommand_of (Run k fuel format) = subcommand.Run
subcommand_of (TimedRun k fuel format) = subcommand.Run
subcommand_of (Placed p) = placed_subcommand p.of
subcommand_of (Check k) = subcommand.Check

abbrev pub IsFormat : Found → Format → Type 0
IsFormat found f = SaysFormat (first_value found (codes "format")) f

abbrev pub IsFuel : Found → ℕ → Type 0
IsFuel found n = SaysNumber 1 1000000 10000 (first_value found (codes "fuel")) n

abbrev pub IsVerbose : Found → Bool → Type 0
IsVerbose found given = SaysFlag (flag_in found (codes "verbose")) given

abbrev pub IsPlaced : Found → Bool → Type 0
IsPlaced found given = SaysFlag (flag_in found (codes "places")) given

abbrev pub IsChart : Found → Bool → Type 0
IsChart found given = SaysFlag (flag_in found (codes "chart")) given

abbrev pub IsTimed : Found → Bool → Type 0
IsTimed found given = SaysFlag (flag_in found (codes "time")) given

abbrev pub IsMost : Found → ℕ → Type 0
IsMost found most = SaysNumber 1 10000000 100000 (first_value found (codes "most")) most

-- the threads of the operands, and then those of the words behind
abbrev pub AreOperands : Found → List (List ℕ) → List ThreadWord → Type 0
AreOperands found behind threads = AreThreads (values_in found (codes "threads") ++ behind) threads

-- the turns of the operands, and then those of the words behind
abbrev pub AreTurnWords : Found → List (List ℕ) → Turns → Type 0
AreTurnWords found behind turns =
    AreTurns (values_in found (codes "threads") ++ behind) turns.threads.items turns.counts.items

-- the run of `schedule` is of these turns, in the form that these options say, where places are told
abbrev pub IsPlacedSchedule : Found → Turns → PlacedRun → Type 0
IsPlacedSchedule found turns (placed.Schedule schedule) =
    (schedule ≡ turns) × IsFormat found format.Text × IsChart found false
IsPlacedSchedule found turns (placed.Chart schedule) =
    (schedule ≡ turns) × IsFormat found format.Text × IsChart found true
IsPlacedSchedule found turns of = ⊥

-- the run of `run` is the one that these options say, where places are told
abbrev pub IsPlacedByThreads : Found → PlacedRun → Type 0
IsPlacedByThreads found placed.Run = IsFormat found format.Text × IsTimed found false
IsPlacedByThreads found placed.TimedRun = IsFormat found format.Text × IsTimed found true
IsPlacedByThreads found of = ⊥

-- the run with places is what these options say, and the words behind them; what a serial run and outcomes go by
-- doesn't depend on k
abbrev pub IsPlacedSaid : Found → List (List ℕ) → ℕ → PlacedRun → Type 0
IsPlacedSaid found behind k (placed.Serial order) =
    (k ≡ 2) × AreOperands found behind order.items × IsFormat found format.Text
IsPlacedSaid found behind k (placed.Outcomes most) = (k ≡ 2) × IsMost found most × IsFormat found format.Text
IsPlacedSaid found behind k (placed.Schedule schedule) =
    SaysK found k × AreTurnWords found behind schedule × IsFormat found format.Text × IsChart found false
IsPlacedSaid found behind k (placed.Chart schedule) =
    SaysK found k × AreTurnWords found behind schedule × IsFormat found format.Text × IsChart found true
IsPlacedSaid found behind k placed.Run = SaysK found k × IsFormat found format.Text × IsTimed found false
IsPlacedSaid found behind k placed.TimedRun = SaysK found k × IsFormat found format.Text × IsTimed found true

-- the request is what these options say, and the words behind them
abbrev pub IsSaid : Found → List (List ℕ) → Request → Type 0
IsSaid found behind (Locks k f) = SaysK found k × IsFormat found f × IsVerbose found false
IsSaid found behind (Compile k workers form) =
    SaysK found k × SaysNumber 0 65535 1 (first_value found (codes "workers")) workers × SaysForm found form
IsSaid found behind (C k) = SaysK found k
IsSaid found behind (Explain k f) = SaysK found k × IsFormat found f
IsSaid found behind (Conflicts k f) = SaysK found k × IsFormat found f × IsVerbose found false
IsSaid found behind (Verbose k of) = SaysK found k × IsFormat found format.Text × IsVerbose found true
IsSaid found behind (Graph k section) =
    SaysK found k × MaySayNumber 0 65535 (first_value found (codes "section")) section
IsSaid found behind (Lint k f rulings) =
    SaysK found k × SaysLintFormat (first_value found (codes "format")) f × SaysRulings found rulings.items
IsSaid found behind (Inspect k) = SaysK found k
IsSaid found behind (Serial fuel order f) =
    IsFuel found fuel × AreOperands found behind order.items × IsFormat found f × IsPlaced found false
IsSaid found behind (Outcomes fuel most f) =
    IsFuel found fuel × IsMost found most × IsFormat found f × IsPlaced found false
IsSaid found behind (Schedule k fuel schedule f) =
    SaysK found k × IsFuel found fuel × AreTurnWords found behind schedule × IsFormat found f
    × IsChart found false × IsPlaced found false
IsSaid found behind (Chart k fuel schedule) =
    SaysK found k × IsFuel found fuel × AreTurnWords found behind schedule × IsFormat found format.Text
    × IsChart found true × IsPlaced found false
IsSaid found behind (Run k fuel f) =
    SaysK found k × IsFuel found fuel × IsFormat found f × IsTimed found false × IsPlaced found false
IsSaid found behind (TimedRun k fuel f) =
    SaysK found k × IsFuel found fuel × IsFormat found f × IsTimed found true × IsPlaced found false
IsSaid found behind (Placed p) = IsFuel found p.fuel × IsPlacedSaid found behind p.k p.of × IsPlaced found true
IsSaid found behind (Check k) = SaysK found k

-- the subcommand makes the request by these options, and the words behind them
abbrev pub IsMade : Subcommand → Found → List (List ℕ) → Request → Type 0
IsMade s found behind request = (subcommand_of request ≡ s) × IsSaid found behind request

-- the subcommand makes the request; that which serves an editor makes none
abbrev pub IsRequested : Subcommand → Found → List (List ℕ) → Option Request → Type 0
IsRequested s found behind None = s ≡ subcommand.Lsp
IsRequested s found behind (Some request) = IsMade s found behind request

-- the names of the files whose texts are answered, in order
abbrev pub files_in : Found → List (List ℕ)
files_in found = values_in found (codes "file")
