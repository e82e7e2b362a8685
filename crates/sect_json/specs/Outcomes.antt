-- What a run has come to, as JSON. `outcome_value` and `outcomes_document` cite it.
use Rattle.std.specs.Prelude.{ℕ, List, [], ◌∷◌, Option, codes, map}
use Rattle.serde_json.specs.Data.{Data, string}
use Rattle.sect_types.specs.{Programs.{ProgramView}, declared.meaning.store.End.{End}, Whole.{SerialEndView}}
use Rattle.sect_store.specs.{Outcomes.{OutcomeView}, Printing.{state_text}}
use Rattle.sect_serial.specs.{Judging.{outcome_of}, Exploring.{OutcomesView}}
use Rattle.sect_json.specs.{Values.{count, integer, list, record_of}, Objects.{objects_json}}

-- whether a thread runs, or how it has ended
abbrev pub thread_json : Option End → Data
thread_json e = record_of ((codes "state", string (state_text e)) ∷ [])

-- the objects, the order of sections, the output, and how each thread has ended
abbrev pub outcome_json : ProgramView → OutcomeView → Data
outcome_json p o = record_of (
    (codes "objects", list (objects_json p o.store))
    ∷ (codes "order", list (map count o.order))
    ∷ (codes "output", list (map integer o.output))
    ∷ (codes "threads", list (map thread_json o.ends)) ∷ [])

-- an end, and an order that gives it
abbrev pub found_json : ProgramView → SerialEndView × List ℕ → Data
found_json p x = outcome_json p (outcome_of x.1 x.0)

-- all outcomes, and how many states there are
abbrev pub outcomes_json : ProgramView → OutcomesView → Data
outcomes_json p o =
    record_of ((codes "outcomes", list (map (found_json p) o.found)) ∷ (codes "states", count o.states) ∷ [])
