-- A turn as it is charted. `charted_turn` and what it calls cite it.
use Rattle.std.specs.Prelude.{◌≡◌, ◌≢◌, ◌<◌, ℕ, List, [], ◌∷◌, ◌++◌, Option, Some, IfSome, length, option_map}
use Rattle.std.specs.List.{flat_map}
use Rattle.sect_lemmas.specs.Lists.{Has}
use Rattle.sect_types.specs.Programs.{ProgramView}
use Rattle.sect_emit.specs.{Compiled.{CompiledView, program_of}, State.{ThreadState, State, IsThread, Entered}}
use Rattle.sect_emit.specs.declared.plan.Grip.{Grip}
use Rattle.sect_world.specs.{Sights.{first_wish}, Standings.{IsStandingThere}, Worlds.{WorldView}}
use Rattle.sect_world.specs.{declared.event.Deed.TheVariants.{Enter}, declared.event.Event.{Event}}
use Rattle.sect_world.specs.{declared.turned.EventKind.{EventKind}, declared.turned.Turned.TheVariants.{Moved, Waits}}
use Rattle.sect_draw.specs.{Chart.{TurnView, Noted, IsTurnFrom, AreTurns, noted_by}, Places.{PlacesView}}
use Rattle.sect_draw.specs.declared.noting.{Kept.{Kept}, Made.{Made}}
use Rattle.sect_draw.specs.{declared.cells.Turn.{Turn}, Placing.{places_shown, IsPlaced, AreThere}}

-- the turn that led to the world, as a reader is told of it
abbrev pub shown : Turn → TurnView
shown t = record {
  thread = t.thread;
  turned = t.turned;
  events = t.events.now;
  delivered = t.delivered.now;
  after = t.world.now.state;
  waiting = t.waiting.now;
  stood = t.stood;
  ran = t.ran.now;
}

abbrev pub compiled_in : Turn → CompiledView
compiled_in t = t.world.now.compiled

abbrev pub places_in : Turn → Option PlacesView
places_in t = option_map places_shown t.places

abbrev pub program_in : Turn → ProgramView
program_in t = program_of t.world.now.compiled

-- the events are of threads of the program
abbrev pub AreOfThreads : ProgramView → List Event → Type 0
AreOfThreads p es = (e : Event) → Has es e → e.thread < length p.texts

abbrev pub HasEntered : State → ℕ → Type 0
HasEntered s t = (th : ThreadState) × IsThread s t th × (th.position ≡ Entered)

abbrev pub WantsSome : State → ℕ → Type 0
WantsSome s t = (g : Grip) × (first_wish s t ≡ Some g)

-- what is told of a turn is there
pub record IsTold (t : Turn) : Type 0 where
  pub there : t.thread < length t.world.now.state.threads
  pub waits : t.turned ≡ Waits → WantsSome t.world.now.state t.thread
  pub moved : (k : EventKind) → t.turned ≡ Moved k → t.events.now ≢ []
  pub entered : (e : Event) (es : List Event) → t.events.now ≡ e ∷ es → e.deed ≡ Enter
      → HasEntered t.world.now.state t.thread
  pub threads : AreOfThreads (program_in t) t.events.now
  pub placed : IfSome t.places (IsPlaced (compiled_in t))
  pub stood : IsStandingThere (compiled_in t) t.stood
  pub ran : AreThere (compiled_in t) t.ran.now

-- a turn of thread t that leads from one world to the other, and from what was kept to what is
pub record IsCharted (t : ℕ) (old new : WorldView) (n noted : Noted) (x : TurnView) : Type 0 where
  pub compiled : new.compiled ≡ old.compiled
  pub trace : new.trace ≡ old.trace ++ x.events
  pub thread : x.thread ≡ t
  pub after : x.after ≡ new.state
  pub from : IsTurnFrom old.compiled old.state n x
  pub kept : noted_by x ≡ noted

abbrev pub kept_shown : Kept → Noted
kept_shown k = record { waiting = k.waiting.items; ran = k.ran.items }

-- this has been made by the turn
pub record IsMade (made : Made) (old : State) (x : TurnView) : Type 0 where
  pub turned : made.turned ≡ x.turned
  pub events : made.events.items ≡ x.events
  pub stood : made.stood ≡ x.stood
  pub delivered : made.delivered ≡ length old.output

-- turns lead from one world to the other, and so do they from what was kept to what is
pub record GoesOn (old : WorldView) (n : Noted) (new : WorldView) (noted : Noted) : Type 0 where
  pub compiled : new.compiled ≡ old.compiled
  pub turns : List TurnView
  pub lead : AreTurns old.compiled old.state n turns new.state noted
  pub trace : new.trace ≡ old.trace ++ flat_map (λ (x : TurnView). x.events) turns
