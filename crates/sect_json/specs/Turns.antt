-- The turns of a schedule, as JSON. `turns_document` cites it.
use Rattle.std.specs.Prelude.{◌≡◌, ℕ, List, [], ◌∷◌, Option, Some, codes, length, map, slice_index_or}
use Rattle.std.specs.List.{range_with_len, flat_map}
use Rattle.serde_json.specs.Data.{Data, null, string}
use Rattle.sect_types.specs.{Programs.{ProgramView}, LocalNames.{local_text}, Meaning.{WorkView, local_datum}}
use Rattle.sect_types.specs.declared.meaning.store.Datum.{Datum}
use Rattle.sect_types.specs.{declared.meaning.store.End.{End}, declared.meaning.store.End.TheVariants.{Failed}}
use Rattle.sect_names.specs.Printing.{local_at}
use Rattle.sect_places.specs.NodeSpans.{NodeSpansView, AreNodeSpans}
use Rattle.sect_store.specs.{Outcomes.{OutcomeView}, Printing.{state_text}}
use Rattle.sect_emit.specs.{Compiled.{CompiledView, program_of}, State.{State, start}, Graphed.{graphed_deed}}
use Rattle.sect_world.specs.declared.event.Deed.{Deed}
use Rattle.sect_world.specs.declared.event.Deed.TheVariants.{Local, Enter, Take, Begin, Again, Act, Leave}
use Rattle.sect_world.specs.{declared.event.Event.{Event}, declared.turned.Turned.{Turned}}
use Rattle.sect_world.specs.declared.standing.Standing.{Standing}
use Rattle.sect_world.specs.declared.standing.Standing.TheVariants.{At, Broken}
use Rattle.sect_world.specs.{Runs.{order_of}, Sights.{end_of, work_of}, Standings.{IsStanding}}
use Rattle.sect_world.specs.Worlds.{Does, outcome_at}
use Rattle.sect_json.specs.{Values.{count, list, record_of, document_text}, Keys.{key_json, mode_json}}
use Rattle.sect_json.specs.{Objects.{datum_json}, Outcomes.{outcome_json}}
use Rattle.sect_json.specs.{Inspecting.{origin_json, origin_with, spans_at}, Changes.{changes_json, next_change}}

-- a turn: its thread, what it has come to, its events, the states before and after it, and where its thread stands in
-- each of the two
pub record TurnView : Type 0 where
  pub thread : ℕ
  pub turned : Turned
  pub events : List Event
  pub before : State
  pub after : State
  pub stood : Standing
  pub stands : Standing

-- the turn leads on from a state
pub record IsTurnFrom (c : CompiledView) (s : State) (x : TurnView) : Type 0 where
  pub before : x.before ≡ s
  pub does : Does c s x.thread x.turned x.events x.after
  pub stood : IsStanding c s x.thread x.stood
  pub stands : IsStanding c x.after x.thread x.stands

-- the turns lead from one state to the other
abbrev pub AreTurns : CompiledView → State → List TurnView → State → Type 0
AreTurns c s [] after = s ≡ after
AreTurns c s (x ∷ xs) after = IsTurnFrom c s x × AreTurns c x.after xs after

-- a deed of this name, and the thread that does it
abbrev pub plain_event_json : List ℕ → ℕ → Data
plain_event_json name t = record_of ((codes "deed", string name) ∷ (codes "thread", count t) ∷ [])

-- what a thread does; one that takes a key, with the key and the mode
abbrev pub deed_json : ProgramView → ℕ → Deed → Data
deed_json p t Local = plain_event_json (codes "local") t
deed_json p t Enter = plain_event_json (codes "enter") t
deed_json p t (Take k m) = record_of (
    (codes "deed", string (codes "take"))
    ∷ (codes "key", key_json p k)
    ∷ (codes "mode", mode_json m)
    ∷ (codes "thread", count t) ∷ [])
deed_json p t Begin = plain_event_json (codes "begin") t
deed_json p t Again = plain_event_json (codes "again") t
deed_json p t Act = plain_event_json (codes "act") t
deed_json p t Leave = plain_event_json (codes "leave") t

-- an event of another thread than the one whose turn it is
abbrev pub event_json : ProgramView → Event → Data
event_json p e = deed_json p e.thread e.deed

-- a local of this name, and what it holds
abbrev pub local_with : ProgramView → List ℕ → Datum → Data
local_with p name d = record_of ((codes "name", string name) ∷ (codes "value", datum_json p d) ∷ [])

abbrev pub local_json : ProgramView → WorkView → ℕ → ℕ → Data
local_json p w t x = local_with p (local_text (local_at p.source t x)) (local_datum w.locals x)

abbrev pub locals_json : CompiledView → WorkView → ℕ → Data
locals_json c w t =
    list (map (local_json (program_of c) w t) (range_with_len 0 (length (slice_index_or (program_of c).locals t []))))

-- what stands where a thread stands, and what of the text that comes from
abbrev pub deed_at : CompiledView → Standing → List ℕ
deed_at c (At of n) = graphed_deed c of n
deed_at c (Broken why) = codes "exit"

abbrev pub place_at : List ℕ → NodeSpansView → Standing → Data
place_at source v (At of n) = origin_json source (spans_at v of) n
place_at source v (Broken why) = origin_with null null

-- the statement at which a thread stands, and its place
abbrev pub standing_json : CompiledView → List ℕ → NodeSpansView → Standing → Data
standing_json c source v d =
    record_of ((codes "place", place_at source v d) ∷ (codes "text", string (deed_at c d)) ∷ [])

-- how a thread has come to its end that stands there; a fault is told before the thread leaves its section
abbrev pub end_at : Standing → Option End → Option End
end_at (At of n) e = e
end_at (Broken why) e = Some (Failed why)

-- what is told of a turn beside its deed: the fields that it has changed, the locals of its thread after it, the
-- statement that comes next, that which it has run with its place, and whether the thread runs on
pub record Told : Type 0 where
  pub fields : Data
  pub locals : Data
  pub next : Data
  pub place : Data
  pub state : List ℕ
  pub text : List ℕ

abbrev pub told_of : CompiledView → List ℕ → NodeSpansView → TurnView → Told
told_of c source v x = record {
  fields = list (changes_json (program_of c) x.before.store x.thread (work_of x.before x.thread).made
      (next_change c x.before x.thread));
  locals = locals_json c (work_of x.after x.thread) x.thread;
  next = standing_json c source v x.stands;
  place = place_at source v x.stood;
  state = state_text (end_at x.stands (end_of x.after x.thread));
  text = deed_at c x.stood;
}

-- a deed of this name, with this
abbrev pub told_json : Told → List ℕ → ℕ → Data
told_json told name t = record_of (
    (codes "deed", string name)
    ∷ (codes "fields", told.fields)
    ∷ (codes "locals", told.locals)
    ∷ (codes "next", told.next)
    ∷ (codes "place", told.place)
    ∷ (codes "state", string told.state)
    ∷ (codes "text", string told.text)
    ∷ (codes "thread", count t) ∷ [])

-- the thread takes a key in this mode
abbrev pub taking_json : Told → Data → Data → ℕ → Data
taking_json told key mode t = record_of (
    (codes "deed", string (codes "take"))
    ∷ (codes "fields", told.fields)
    ∷ (codes "key", key)
    ∷ (codes "locals", told.locals)
    ∷ (codes "mode", mode)
    ∷ (codes "next", told.next)
    ∷ (codes "place", told.place)
    ∷ (codes "state", string told.state)
    ∷ (codes "text", string told.text)
    ∷ (codes "thread", count t) ∷ [])

-- what the thread does whose turn it is
abbrev pub own_json : ProgramView → Told → ℕ → Deed → Data
own_json p told t Local = told_json told (codes "local") t
own_json p told t Enter = told_json told (codes "enter") t
own_json p told t (Take k m) = taking_json told (key_json p k) (mode_json m) t
own_json p told t Begin = told_json told (codes "begin") t
own_json p told t Again = told_json told (codes "again") t
own_json p told t Act = told_json told (codes "act") t
own_json p told t Leave = told_json told (codes "leave") t

-- the events of a turn: the first is its thread's own
abbrev pub events_json : ProgramView → Told → List Event → List Data
events_json p told [] = []
events_json p told (e ∷ es) = own_json p told e.thread e.deed ∷ map (event_json p) es

abbrev pub turn_json : CompiledView → List ℕ → NodeSpansView → TurnView → Data
turn_json c source v x = list (events_json (program_of c) (told_of c source v x) x.events)

-- turns, and what they have come to
abbrev pub turns_with : Data → List Data → Data
turns_with outcome turns = record_of ((codes "outcome", outcome) ∷ (codes "turns", list turns) ∷ [])

abbrev pub turns_json : CompiledView → List ℕ → NodeSpansView → List TurnView → OutcomeView → Data
turns_json c source v turns o = turns_with (outcome_json (program_of c) o) (map (turn_json c source v) turns)

-- the threads of the `leave` events of turns
abbrev pub leavers : List TurnView → List ℕ
leavers turns = order_of (flat_map (λ (x : TurnView). x.events) turns)

-- these threads have a turn each from the start of the compiled program, whose text this is, and the bytes are the
-- document of their turns, and of the outcome of the state that they lead to
pub record IsTurnsDocument (source : List ℕ) (c : CompiledView) (fuel : ℕ) (schedule : List ℕ) (bytes : List ℕ)
    : Type 0 where
  pub spans : NodeSpansView
  pub placed : AreNodeSpans source (program_of c) spans
  pub turns : List TurnView
  pub threads : schedule ≡ map (λ (x : TurnView). x.thread) turns
  pub state : State
  pub lead : AreTurns c (start c fuel) turns state
  pub printed : bytes ≡ document_text (turns_json c source spans turns (outcome_at state (leavers turns)))
