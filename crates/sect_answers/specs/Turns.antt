-- The turns of a schedule as they are printed. `schedule_outcome` cites it.
use Rattle.std.specs.{Prelude.{ℕ, List, [], ◌∷◌, ◌++◌, codes}, List.{flat_map}, Fmt.{decimal}}
use Rattle.sect_types.specs.Programs.{ProgramView}
use Rattle.sect_store.specs.Printing.{by_place}
use Rattle.sect_world.specs.declared.event.Event.{Event}
use Rattle.sect_draw.specs.Words.{deed_text}

-- its thread, and what that does
abbrev pub event_text : ProgramView → Event → List ℕ
event_text p e = decimal e.thread ++ codes " " ++ deed_text p e.deed

-- the events behind the first
abbrev pub more_text : ProgramView → List Event → List ℕ
more_text p es = flat_map (λ e. codes ", " ++ event_text p e) es

-- the events of a turn, to the end of its line
abbrev pub block_text : ProgramView → List Event → List ℕ
block_text p [] = codes "none\n"
block_text p (e ∷ es) = event_text p e ++ more_text p es ++ codes "\n"

abbrev pub turn_line : ProgramView → ℕ → List Event → List ℕ
turn_line p n es = codes "turn " ++ decimal n ++ codes ": " ++ block_text p es

-- a line for each turn
abbrev pub turn_lines : ProgramView → List (List Event) → List ℕ
turn_lines p turns = by_place (turn_line p) 0 turns
