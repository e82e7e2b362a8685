-- Where statements and faults stand, as it is printed. `put_origin` and `put_ran_outcome` cite it.
use Rattle.std.specs.Prelude.{ℕ, Bool, true, false, List, [], ◌∷◌, ◌++◌, Option, Some, None, codes, if◌then◌else◌}
use Rattle.std.specs.{Prelude.{slice_get, slice_index_or}, List.{flat_map}, Fmt.{decimal}}
use Rattle.sect_front.specs.declared.span.Span.{Span}
use Rattle.sect_lemmas.specs.Lists.{put_at}
use Rattle.sect_types.specs.{Programs.{ProgramView}, declared.meaning.store.End.{End}}
use Rattle.sect_types.specs.declared.meaning.store.End.TheVariants.{Done, Failed}
use Rattle.sect_places.specs.{Positions.{position}, declared.position.Position.{Position}}
use Rattle.sect_places.specs.{NodeSpans.{NodeSpansView}, declared.origin_spans.NodeSpan.{NodeSpan}}
use Rattle.sect_store.specs.{Outcomes.{OutcomeView}, Printing.{by_place, outcome_text, state_text}}
use Rattle.sect_store.specs.Printing.{order_line, out_line, store_lines}
use Rattle.sect_emit.specs.{Compiled.{CompiledView}, Graphed.{graphed_deed}, declared.graphs.GraphOf.{GraphOf}}
use Rattle.sect_world.specs.{declared.event.Deed.{Deed}, declared.event.Event.{Event}}
use Rattle.sect_world.specs.declared.event.Deed.TheVariants.{Local, Enter, Take, Begin, Again, Act, Leave}
use Rattle.sect_world.specs.declared.standing.Standing.{Standing}
use Rattle.sect_world.specs.declared.standing.Standing.TheVariants.{At, Broken}
use Rattle.sect_emit.specs.declared.graphs.GraphOf.TheVariants as graphed

-- a text, where the nodes of its program come from, and the name of its file, if it has one
pub record PlacesView : Type 0 where
  pub source : List ℕ
  pub spans : NodeSpansView
  pub file : Option (List ℕ)

-- a line and a column, as `4:54`
abbrev pub position_text : Position → List ℕ
position_text p = decimal p.line ++ codes ":" ++ decimal p.column

-- the file's name before a place in it
abbrev pub file_text : Option (List ℕ) → List ℕ
file_text None = []
file_text (Some name) = name ++ codes ":"

abbrev pub place_text : Option (List ℕ) → List ℕ → ℕ → List ℕ
place_text file source at = file_text file ++ position_text (position source at)

-- the place of the call in the thread, of a statement of a procedure
abbrev pub called_text : Option (List ℕ) → List ℕ → Option Span → List ℕ
called_text file source None = []
called_text file source (Some s) = codes " called at " ++ place_text file source s.start

-- where a node comes from: the place of its statement, and that of the call
abbrev pub origin_text : Option (List ℕ) → List ℕ → NodeSpan → List ℕ
origin_text file source s = place_text file source s.item.start ++ called_text file source s.call

-- where the nodes of a graph come from
abbrev pub spans_at : NodeSpansView → GraphOf → List NodeSpan
spans_at v (graphed.Thread u) = slice_index_or v.threads u []
spans_at v (graphed.Section i) = slice_index_or v.sections i []

-- where a thread that stands there comes to, in the text; nowhere at the exit
abbrev pub origin_of : NodeSpansView → Standing → Option NodeSpan
origin_of v (At of n) = slice_get (spans_at v of) n
origin_of v (Broken why) = None

-- these words, and where a node comes from behind them, if it comes from anywhere
abbrev pub words_at : List ℕ → Option (List ℕ) → List ℕ → Option NodeSpan → List ℕ
words_at words file source None = []
words_at words file source (Some s) = words ++ origin_text file source s

-- what stands where a thread stands, and its place
abbrev pub statement_text : CompiledView → PlacesView → Standing → List ℕ
statement_text c v (At of n) =
    codes " " ++ graphed_deed c of n ++ words_at (codes " ") None v.source (origin_of v.spans (At of n))
statement_text c v (Broken why) = []

-- whether a thread that does this runs a statement or a test
abbrev pub is_run : Deed → Bool
is_run Local = true
is_run Enter = false
is_run (Take k m) = false
is_run Begin = false
is_run Again = false
is_run Act = true
is_run Leave = false

abbrev pub is_run_first : List Event → Bool
is_run_first [] = false
is_run_first (e ∷ es) = is_run e.deed

-- where each thread stood that has run something, before it ran the last, after a turn of thread t with these events,
-- before which it stood there
abbrev pub ran_after : ℕ → Standing → List Event → List (Option Standing) → List (Option Standing)
ran_after t stood es ran = if is_run_first es then put_at t (Some stood) ran else ran

-- where a thread stood before it ran what has ended it by a fault, if a fault has; there it stood before the last
abbrev pub standing_at : Option End → Option Standing → Option Standing
standing_at None ran = None
standing_at (Some Done) ran = None
standing_at (Some (Failed why)) ran = ran

-- where a fault stands, if there is one
abbrev pub fault_at : Option (List ℕ) → PlacesView → Option Standing → List ℕ
fault_at file v None = []
fault_at file v (Some d) = words_at (codes " at ") file v.source (origin_of v.spans d)

-- how a thread has come to its end, and where its fault stands
abbrev pub thread_line : PlacesView → List (Option Standing) → ℕ → Option End → List ℕ
thread_line v ran t e = codes "thread " ++ decimal t ++ codes " " ++ state_text e
    ++ fault_at v.file v (standing_at e (slice_index_or ran t None)) ++ codes "\n"

-- an outcome, where places are told with those of its faults
abbrev pub ran_outcome : ProgramView → Option PlacesView → List (Option Standing) → OutcomeView → List ℕ
ran_outcome p None ran o = outcome_text p o
ran_outcome p (Some v) ran o = by_place (thread_line v ran) 0 o.ends ++ outcome_text p (record o { ends = [] })

-- an outcome as one of several, with the places of its faults: its number and order, and then as above
abbrev pub ran_numbered : ProgramView → PlacesView → List (Option Standing) → ℕ → OutcomeView → List ℕ
ran_numbered p v ran n o =
    codes "outcome " ++ decimal n ++ codes ": " ++ order_line o.order ++ by_place (thread_line v ran) 0 o.ends
    ++ flat_map out_line o.output ++ store_lines p o.store
