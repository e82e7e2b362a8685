-- Turns of one thread in a row. The private functions of the crate cite it.
use Rattle.std.specs.Prelude.{◌≡◌, ◌≤◌, ◌-◌, ◌⊎◌, ⊤, ℕ, zero, suc, List, [], ◌++◌, Option, Some, None}
use Rattle.sect_emit.specs.Compiled.{CompiledView}
use Rattle.sect_world.specs.{declared.turned.Turned.{Turned}, declared.turned.Turned.TheVariants.{Moved, Waits, Ended}}
use Rattle.sect_world.specs.{declared.world.Moment.{Moment}, Moments.{world_at}, Worlds.{WorldView, IsTurned}}
use Rattle.sect_world.specs.{declared.stretch.Stretch.{Stretch}, Stretches.{AreAdded, events_in}}

-- a thread whose turn came to this may make another at once: it has moved
abbrev pub MayGoOn : Turned → Type 0
MayGoOn (Moved k) = ⊤
MayGoOn Waits = ⊥
MayGoOn Ended = ⊥

-- so many turns of thread t, behind each of which it may make another, lead from one world to the other and let these
-- in, in order
abbrev pub GoesOn : ℕ → ℕ → WorldView → WorldView → List ℕ → Type 0
GoesOn t zero old new ts = (old ≡ new) × (ts ≡ [])
GoesOn t (suc made) old new ts =
    (between : WorldView) × (turned : Turned) × (earlier : List ℕ) × GoesOn t made old between earlier
    × IsTurned t turned between new × MayGoOn turned × (ts ≡ earlier ++ new.granted)

-- turns of thread t, one at least and at most so many, lead from one world to the other: it makes another wherever it
-- may, the last comes to this, and all of them let these in, in order
pub record AreTurns (t most : ℕ) (turned : Turned) (ts : List ℕ) (old new : WorldView) : Type 0 where
  pub before : WorldView
  pub made : ℕ
  pub earlier : List ℕ
  pub goes : GoesOn t made old before earlier
  pub last : IsTurned t turned before new
  pub let_in : ts ≡ earlier ++ new.granted
  pub few : made ≤ most - 1
  pub all : MayGoOn turned → made ≡ most - 1

-- a turn of thread t was broken off: it is made or not
abbrev pub IsBrokenOff : ℕ → WorldView → WorldView → Type 0
IsBrokenOff t old new = (new ≡ old) ⊎ ((turned : Turned) × IsTurned t turned old new)

-- turns of thread t, one at least and at most so many, were broken off at the last, behind those after each of which it
-- may make another
abbrev pub AreBrokenOff : ℕ → ℕ → WorldView → WorldView → Type 0
AreBrokenOff t most old new =
    (before : WorldView) × (made : ℕ) × (earlier : List ℕ) × GoesOn t made old before earlier × (made ≤ most - 1)
    × IsBrokenOff t before new

-- nothing has happened, or the events of a stretch of thread t were added
abbrev pub MayBeAdded : ℕ → WorldView → WorldView → Type 0
MayBeAdded t old new = (new ≡ old) ⊎ ((s : Stretch) × AreAdded (events_in t s) old new)

-- the worker of thread t has visited a world: the events of a stretch were added, if it has brought one, and then such
-- turns were made
abbrev pub IsVisited : ℕ → ℕ → Turned → List ℕ → WorldView → WorldView → Type 0
IsVisited t most turned ts old new =
    (between : WorldView) × MayBeAdded t old between × AreTurns t most turned ts between new

-- so, and the turns were broken off
abbrev pub IsVisitBrokenOff : ℕ → ℕ → WorldView → WorldView → Type 0
IsVisitBrokenOff t most old new = (between : WorldView) × MayBeAdded t old between × AreBrokenOff t most between new

-- the world of a moment that was put aside, with the compiled program that is named
abbrev pub world_aside : Option Moment → Option CompiledView → Option WorldView
world_aside None named = None
world_aside (Some m) None = None
world_aside (Some m) (Some c) = Some (world_at c m)

-- both are there, and the worker's visit leads from one to the other
abbrev pub IsVisitedAside : ℕ → ℕ → Turned → List ℕ → Option WorldView → Option WorldView → Type 0
IsVisitedAside t most turned ts None new = ⊥
IsVisitedAside t most turned ts (Some old) None = ⊥
IsVisitedAside t most turned ts (Some old) (Some new) = IsVisited t most turned ts old new

-- both are there, and the worker's visit leads from one to the other and was broken off
abbrev pub IsVisitBrokenOffAside : ℕ → ℕ → Option WorldView → Option WorldView → Type 0
IsVisitBrokenOffAside t most None new = ⊥
IsVisitBrokenOffAside t most (Some old) None = ⊥
IsVisitBrokenOffAside t most (Some old) (Some new) = IsVisitBrokenOff t most old new

-- it is there, and of this compiled program with this fuel
abbrev pub IsAsideOf : CompiledView → ℕ → Option WorldView → Type 0
IsAsideOf c fuel None = ⊥
IsAsideOf c fuel (Some w) = (w.compiled ≡ c) × (w.fuel ≡ fuel)

-- the worker of thread t has visited a run of this compiled program with this fuel, and its turns let these in
abbrev pub WasVisited : CompiledView → ℕ → ℕ → ℕ → Turned → List ℕ → Type 0
WasVisited c fuel t most turned ts =
    (old new : WorldView) × IsVisited t most turned ts old new × (new.compiled ≡ c) × (new.fuel ≡ fuel)
