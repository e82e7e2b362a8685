-- Sections of two threads at one time. The laws on them cite it.
use Rattle.std.specs.Prelude.{◌≡◌, ◌≢◌, ◌⊎◌, ◌↔◌, ℕ, true, List, [], ◌∷◌, ◌++◌, if◌then◌else◌}
use Rattle.sect_lemmas.specs.{Lists.{Has}, Numbers.{same_number}}
use Rattle.sect_types.specs.Statements.{TextView, Section}
use Rattle.sect_modes.specs.{declared.mode.Mode.{Mode}, declared.key.Key.{Key}, Mode.{are_compatible}}
use Rattle.sect_emit.specs.{declared.plan.Grip.{Grip}, Plan.{grip}, Compiled.{CompiledView}}
use Rattle.sect_emit.specs.State.{Position, Outside, Entered, Running, Faulted, ThreadState, State, IsThread, plan_at}
use Rattle.sect_conflicts.specs.{Conflicts.{Clash, AlwaysClash, MayGoTogether}, Laws.{Meets}}
use Rattle.sect_conflicts.specs.declared.conflict.PathPair.{PathPair}
use Rattle.sect_world.specs.declared.event.Deed.{Deed}
use Rattle.sect_world.specs.declared.event.Deed.TheVariants.{Local, Enter, Take, Begin, Again, Act, Leave}
use Rattle.sect_world.specs.{declared.event.Event.{Event}, Blocked.{WantsFirst}, Runs.{IsRun, RunsTo}}

-- section i is in progress: the thread has begun it and hasn't left it
abbrev pub IsIn : ℕ → Position → Type 0
IsIn i Outside = ⊥
IsIn i Entered = ⊥
IsIn i (Running j k) = j ≡ i
IsIn i (Faulted j why) = j ≡ i

-- the thread has entered section i and asks for its keys
abbrev pub HasEntered : ℕ → ThreadState → Type 0
HasEntered i th =
    (th.position ≡ Entered) × ((body : TextView) × (rest : TextView) × (th.frame.text ≡ Section i body rest))

-- the keys that a thread has taken and not given back, after what it does
abbrev pub taken_by : Deed → List Grip → List Grip
taken_by Local gs = gs
taken_by Enter gs = gs
taken_by (Take k m) gs = gs ++ grip k m ∷ []
taken_by Begin gs = gs
taken_by Again gs = []
taken_by Act gs = gs
taken_by Leave gs = []

-- those of thread t, after these events
abbrev pub taken_after : ℕ → List Event → List Grip → List Grip
taken_after t [] gs = gs
taken_after t (e ∷ es) gs = taken_after t es (if same_number e.thread t then taken_by e.deed gs else gs)

-- those of thread t in a run
abbrev pub taken : ℕ → List Event → List Grip
taken t trace = taken_after t trace []

-- two sections that ask for a key in every state, in modes that aren't compatible, are in progress together in no state
-- of a run
abbrev pub ClashingSectionsExclude : CompiledView → Type 0
ClashingSectionsExclude c =
    (fuel : ℕ) (trace : List Event) (s : State) → IsRun c fuel trace s → (t u : ℕ) (th other : ThreadState) → t ≢ u
    → IsThread s t th → IsThread s u other → (i j : ℕ) → IsIn i th.position → IsIn j other.position
    → (k : Key) → AlwaysClash c i j k → ⊥

-- the thread stands before section i
abbrev pub StandsBefore : ℕ → ThreadState → Type 0
StandsBefore i th = (body : TextView) × (rest : TextView) × (th.frame.text ≡ Section i body rest)

-- two threads stand before two sections that don't exclude each other in every state, each in a state of a run,
-- whichever comes first: the plans that they make there clash exactly where some pair of the paths that are told
-- denotes one object, each path in its state
abbrev pub ClashWherePathsMeet : CompiledView → Type 0
ClashWherePathsMeet c =
    (fuel : ℕ) (trace longer more rest : List Event) (s after now : State) → IsRun c fuel trace s → RunsTo c s more now
    → IsRun c fuel longer after → RunsTo c after rest now → (t u : ℕ) (th other : ThreadState) → IsThread s t th
    → IsThread after u other → (i j : ℕ) → StandsBefore i th → StandsBefore j other → (pairs : List PathPair)
    → MayGoTogether c i j pairs
    → Clash (plan_at c i s.store th.frame.work.locals) (plan_at c j after.store other.frame.work.locals)
    ↔ ((pair : PathPair) × Has pairs pair
    × Meets s.store after.store th.frame.work.locals other.frame.work.locals pair)

-- the sections go together, whichever has the lesser number
abbrev pub GoTogether : CompiledView → ℕ → ℕ → Type 0
GoTogether c i j = MayGoTogether c i j [] ⊎ MayGoTogether c j i []

-- of two sections that go together one is in progress, and a thread asks for the keys of the other: the key that it
-- wants first may be taken beside each one that the first has taken
abbrev pub ClashOnNoTakenKey : CompiledView → Type 0
ClashOnNoTakenKey c =
    (fuel : ℕ) (trace : List Event) (s : State) → IsRun c fuel trace s → (t u : ℕ) (th other : ThreadState)
    → IsThread s t th → IsThread s u other → (i j : ℕ) → GoTogether c i j → IsIn i th.position → HasEntered j other
    → (k : Key) (m n : Mode) → Has (taken t trace) (grip k m) → WantsFirst other k n → are_compatible m n ≡ true

-- the same of all that the first holds, whether it has taken the key or made the object
abbrev pub ClashOnNoHeldKey : CompiledView → Type 0
ClashOnNoHeldKey c =
    (fuel : ℕ) (trace : List Event) (s : State) → IsRun c fuel trace s → (t u : ℕ) (th other : ThreadState)
    → IsThread s t th → IsThread s u other → (i j : ℕ) → GoTogether c i j → IsIn i th.position → HasEntered j other
    → (k : Key) (m n : Mode) → Has th.held (grip k m) → WantsFirst other k n → are_compatible m n ≡ true
