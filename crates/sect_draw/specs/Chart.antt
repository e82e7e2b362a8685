-- A chart of turns. `chart` cites it.
use Rattle.std.specs.Prelude.{◌≡◌, ℕ, ℤ, ◌+◌, ◌-◌, List, [], ◌∷◌, ◌++◌, Option, Some, None, codes, map, drop, length}
use Rattle.std.specs.{Prelude.{replicate, slice_get, slice_index_or, ◌==◌, if◌then◌else◌}, List.{flat_map}}
use Rattle.std.specs.Fmt.{decimal, signed_decimal}
use Rattle.sect_types.specs.{Statements.{TextView, Stop, Do, Choose, Loop, Section}, Programs.{ProgramView}}
use Rattle.sect_types.specs.{Endings.{end_text}, declared.meaning.store.End.{End}}
use Rattle.sect_emit.specs.{Labels.{thread_name}, Compiled.{CompiledView, program_of}}
use Rattle.sect_emit.specs.State.{ThreadState, State, start}
use Rattle.sect_world.specs.{Runs.{order_of}, Sights.{end_of}, Worlds.{Does, threads_of, outcome_at, AllEnded}}
use Rattle.sect_world.specs.{declared.event.Deed.{Deed}, declared.event.Deed.TheVariants.{Enter}}
use Rattle.sect_world.specs.{declared.event.Event.{Event}, declared.turned.Turned.{Turned}}
use Rattle.sect_world.specs.declared.turned.Turned.TheVariants.{Moved, Waits, Ended}
use Rattle.sect_world.specs.{declared.standing.Standing.{Standing}, Standings.{IsStanding}}
use Rattle.sect_draw.specs.{Words.{deed_text}, Waits.{waiting_after, wait_text}, Table.{table_text}}
use Rattle.sect_draw.specs.Places.{PlacesView, is_run, ran_after, standing_at, fault_at, statement_text, ran_outcome}

-- a turn: its thread, what it has come to, its events, the numbers that it has delivered, the state after it, who waits
-- then, in the order in which they began to, where its thread stood before it, and where each thread stood that has run
-- something before it ran the last
pub record TurnView : Type 0 where
  pub thread : ℕ
  pub turned : Turned
  pub events : List Event
  pub delivered : List ℤ
  pub after : State
  pub waiting : List ℕ
  pub stood : Standing
  pub ran : List (Option Standing)

-- what is kept of the turns before: who waits, and where each thread stood that has run something
pub record Noted : Type 0 where
  pub waiting : List ℕ
  pub ran : List (Option Standing)

-- nobody waits, and none of so many threads has run anything
abbrev pub nothing_noted : ℕ → Noted
nothing_noted n = record { waiting = []; ran = replicate n None }

-- what is kept after a turn
abbrev pub noted_by : TurnView → Noted
noted_by x = record { waiting = x.waiting; ran = x.ran }

-- the turn leads on from a state, where this has been kept
pub record IsTurnFrom (c : CompiledView) (s : State) (n : Noted) (x : TurnView) : Type 0 where
  pub does : Does c s x.thread x.turned x.events x.after
  pub delivered : x.delivered ≡ drop (length s.output) x.after.output
  pub waiting : x.waiting ≡ waiting_after x.thread x.turned (threads_of (drop 1 x.events)) n.waiting
  pub stood : IsStanding c s x.thread x.stood
  pub ran : x.ran ≡ ran_after x.thread x.stood x.events n.ran

-- the turns lead from one state to the other, and so do they from what is kept in the first to what is in the second
abbrev pub AreTurns : CompiledView → State → Noted → List TurnView → State → Noted → Type 0
AreTurns c s n [] after noted = (s ≡ after) × (n ≡ noted)
AreTurns c s n (x ∷ xs) after noted = IsTurnFrom c s n x × AreTurns c x.after (noted_by x) xs after noted

-- the number of the section that is next in a text
abbrev pub section_text : TextView → List ℕ
section_text (Section i body rest) = codes " section " ++ decimal i
section_text Stop = []
section_text (Do a k) = []
section_text (Choose c k j l) = []
section_text (Loop c k j) = []

abbrev pub text_in : Option ThreadState → TextView
text_in None = Stop
text_in (Some th) = th.frame.text

-- what thread t does; one that enters a section, with the section
abbrev pub own_deed : ProgramView → State → ℕ → Deed → List ℕ
own_deed p s t Enter = deed_text p Enter ++ section_text (text_in (slice_get s.threads t))
own_deed p s t d = deed_text p d

-- a number that is delivered
abbrev pub prints_text : ℤ → List ℕ
prints_text n = codes ", prints " ++ signed_decimal n

-- the thread of this event is let in
abbrev pub lets_text : ProgramView → Event → List ℕ
lets_text p e = codes ", lets " ++ thread_name p.source e.thread ++ codes " in"

-- the statement or the test that a thread has run which stood there, and its place, where places are told
abbrev pub ran_text : CompiledView → Option PlacesView → Standing → Deed → List ℕ
ran_text c None stood d = []
ran_text c (Some v) stood d = if is_run d then statement_text c v stood else []

-- where the fault stands that has ended a thread, where places are told
abbrev pub fault_mark : Option PlacesView → Option Standing → List ℕ
fault_mark None stood = []
fault_mark (Some v) stood = fault_at None v stood

-- how a thread has ended, if it has, that stood there before the last that it ran
abbrev pub ended_text : Option PlacesView → Option End → Option Standing → List ℕ
ended_text v None ran = []
ended_text v (Some e) ran = codes ", end: " ++ end_text e ++ fault_mark v (standing_at (Some e) ran)

abbrev pub ran_by : TurnView → Option Standing
ran_by x = slice_index_or x.ran x.thread None

-- the deed of the turn, what it has run, what it delivers, whom it lets in, and the end of its thread
abbrev pub moved_text : CompiledView → Option PlacesView → TurnView → List Event → List ℕ
moved_text c v x [] = []
moved_text c v x (e ∷ es) = own_deed (program_of c) x.after x.thread e.deed ++ ran_text c v x.stood e.deed
    ++ flat_map prints_text x.delivered ++ flat_map (lets_text (program_of c)) es
    ++ ended_text v (end_of x.after x.thread) (ran_by x)

-- what the thread comes to whose turn it is
abbrev pub own_text : CompiledView → Option PlacesView → TurnView → Turned → List ℕ
own_text c v x (Moved k) = moved_text c v x x.events
own_text c v x Waits = wait_text (program_of c) x.after x.thread x.waiting
own_text c v x Ended = codes "has ended"

-- what another thread comes to
abbrev pub let_in_text : ProgramView → ℕ → List Event → List ℕ
let_in_text p u es = flat_map (λ (e : Event). if e.thread == u then deed_text p e.deed else []) es

-- what thread u comes to by a turn
abbrev pub cell_text : CompiledView → Option PlacesView → TurnView → ℕ → List ℕ
cell_text c v x u = if u == x.thread then own_text c v x x.turned else let_in_text (program_of c) u x.events

-- a cell for each thread
abbrev pub by_thread : (ℕ → List ℕ) → ℕ → List TextView → List (List ℕ)
by_thread cell u [] = []
by_thread cell u (text ∷ texts) = cell u ∷ by_thread cell (u + 1) texts

-- the number of a turn, in at least four places
abbrev pub place_text : ℕ → List ℕ
place_text n = replicate (4 - length (decimal n)) 32 ++ decimal n

abbrev pub turn_row : CompiledView → Option PlacesView → ℕ → TurnView → List (List ℕ)
turn_row c v n x = place_text n ∷ by_thread (cell_text c v x) 0 (program_of c).texts

abbrev pub turn_rows : CompiledView → Option PlacesView → ℕ → List TurnView → List (List (List ℕ))
turn_rows c v n [] = []
turn_rows c v n (x ∷ xs) = turn_row c v n x ∷ turn_rows c v (n + 1) xs

abbrev pub heading : ProgramView → List (List ℕ)
heading p = codes "turn" ∷ by_thread (thread_name p.source) 0 p.texts

-- a column for each thread and a row for each turn
abbrev pub chart_text : CompiledView → Option PlacesView → List TurnView → List ℕ
chart_text c v turns = table_text (heading (program_of c) ∷ turn_rows c v 0 turns)

-- the threads of the `leave` events of turns
abbrev pub leavers : List TurnView → List ℕ
leavers turns = order_of (flat_map (λ (x : TurnView). x.events) turns)

-- these threads have a turn each from the start of the compiled program, which lead to this state, where this is kept
pub record AreTurnsOf (c : CompiledView) (fuel : ℕ) (schedule : List ℕ) (turns : List TurnView) (state : State)
    (noted : Noted) : Type 0 where
  pub threads : schedule ≡ map (λ (x : TurnView). x.thread) turns
  pub lead : AreTurns c (start c fuel) (nothing_noted (length (program_of c).texts)) turns state noted

-- after their turns each thread that has run something stood there before it ran the last
abbrev pub AreRan : CompiledView → ℕ → List ℕ → List (Option Standing) → Type 0
AreRan c fuel schedule ran =
    (turns : List TurnView) × (state : State) × (noted : Noted) × AreTurnsOf c fuel schedule turns state noted
    × (noted.ran ≡ ran)

-- so they have stood in a run to its end, in which these threads leave a section each, in this order
abbrev pub AreRanInOrder : CompiledView → ℕ → List ℕ → List (Option Standing) → Type 0
AreRanInOrder c fuel order ran =
    (schedule : List ℕ) × (turns : List TurnView) × (state : State) × (noted : Noted)
    × AreTurnsOf c fuel schedule turns state noted × (leavers turns ≡ order) × AllEnded state × (noted.ran ≡ ran)

-- these threads have a turn each from the start of the compiled program, and the bytes are the chart of their turns,
-- and the outcome of the state that they lead to; both with places where these are told
pub record IsChart (c : CompiledView) (fuel : ℕ) (schedule : List ℕ) (places : Option PlacesView) (bytes : List ℕ)
    : Type 0 where
  pub turns : List TurnView
  pub state : State
  pub noted : Noted
  pub led : AreTurnsOf c fuel schedule turns state noted
  pub printed : bytes ≡ chart_text c places turns
      ++ ran_outcome (program_of c) places noted.ran (outcome_at state (leavers turns))
