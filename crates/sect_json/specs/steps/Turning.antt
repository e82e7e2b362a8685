-- A turn as it is told. `told_turn` and what it calls cite it.
use Rattle.std.specs.Prelude.{◌≡◌, ◌++◌, ℕ, List, map}
use Rattle.std.specs.String.{string_bytes}
use Rattle.serde_json.specs.{Data.{Data}, View.{view}}
use Rattle.sect_places.specs.NodeSpans.{NodeSpansView}
use Rattle.sect_store.specs.Printing.{state_text}
use Rattle.sect_emit.specs.{Compiled.{CompiledView}, State.{State, start}}
use Rattle.sect_world.specs.{Standings.{IsStanding}, Worlds.{WorldView, Does, outcome_at}}
use Rattle.sect_json.specs.{Values.{list}, declared.context.Inspected.{Inspected}}
use Rattle.sect_json.specs.{declared.events.Told.{Told}, declared.turns.Turn.{Turn}}
use Rattle.sect_json.specs.Turns.{TurnView, AreTurns, locals_json, place_at, deed_at, standing_json, turns_json}
use Rattle.sect_json.specs.Turns.{leavers}
use Rattle.sect_json.specs.Turns as turns

-- what is told beside a deed
abbrev pub told_shown : Told → turns.Told
told_shown t = record {
  fields = view t.fields;
  locals = view t.locals;
  next = view t.next;
  place = view t.place;
  state = string_bytes t.state;
  text = string_bytes t.text;
}

abbrev pub told_by : CompiledView → List ℕ → NodeSpansView → Turn → turns.Told
told_by c source v t = record {
  fields = list (map view t.fields.items);
  locals = locals_json c t.work.now t.thread;
  next = standing_json c source v t.stands;
  place = place_at source v t.stood;
  state = state_text t.end;
  text = deed_at c t.stood;
}

-- a turn of thread t that leads from one world to the other
pub record IsTurnOf (t : ℕ) (old new : WorldView) (x : TurnView) : Type 0 where
  pub compiled : new.compiled ≡ old.compiled
  pub trace : new.trace ≡ old.trace ++ x.events
  pub thread : x.thread ≡ t
  pub before : x.before ≡ old.state
  pub after : x.after ≡ new.state
  pub does : Does old.compiled old.state t x.turned x.events new.state
  pub stood : IsStanding old.compiled old.state t x.stood
  pub stands : IsStanding old.compiled new.state t x.stands

-- the value tells the turns of these threads from the start
pub record IsSchedule (of : Inspected) (fuel : ℕ) (schedule : List ℕ) (value : Data) : Type 0 where
  pub turns : List TurnView
  pub threads : schedule ≡ map (λ (x : TurnView). x.thread) turns
  pub state : State
  pub lead : AreTurns of.compiled.now (start of.compiled.now fuel) turns state
  pub told : value
      ≡ turns_json of.compiled.now of.source.now of.spans.now turns (outcome_at state (leavers turns))
