-- Procedures and calls as JSON. `inspection_document` cites it.
use Rattle.std.specs.Prelude.{ℕ, zero, suc, if◌then◌else◌, List, [], ◌∷◌, Option, Some, None, codes, position}
use Rattle.std.specs.List.{flat_map}
use Rattle.serde_json.specs.Data.{Data, string}
use Rattle.sect_front.specs.declared.tree.Procedure.{Procedure}
use Rattle.sect_places.specs.{Declarations.{is_called, is_thread, procedure_of}, declared.name_use.NameSpan.{NameSpan}}
use Rattle.sect_lint.specs.{Calls.{is_call_in, item_of, procedure_item}, Json.{span_json}, Naming.{found}}
use Rattle.sect_json.specs.{Values.{count, list, by_place, record_of}, Sites.{bytes_json, name_bytes}}

-- a procedure, and where its name is declared
abbrev pub procedure_json : List ℕ → List NameSpan → Procedure → Data
procedure_json source names p = record_of (
    (codes "name", string p.name)
    ∷ (codes "place", bytes_json source (name_bytes (found names (procedure_of names p.name)))) ∷ [])

-- the item of the thread of a name
abbrev pub thread_item : List NameSpan → List ℕ → Option ℕ
thread_item names x = item_of (found names (position (is_called is_thread x) names))

-- what is called from the thread or procedure that is this item, if there is one
abbrev pub from_item : (ℕ → List NameSpan) → Option ℕ → List NameSpan
from_item from None = []
from_item from (Some item) = from item

-- a name, if it is that of a call there, and then what that calls
abbrev pub calls_at : (ℕ → List NameSpan) → List NameSpan → ℕ → NameSpan → List NameSpan
calls_at from names scope x =
    if is_call_in scope x then x ∷ from_item from (procedure_item names x.used.name) else []

-- The calls of a thread or procedure in text order, each before those of the procedure that it calls; calls stand in
-- one another at most n deep. The number of a call is its place in this list.
abbrev pub calls_within : ℕ → List NameSpan → ℕ → List NameSpan
calls_within zero names scope = []
calls_within (suc n) names scope = flat_map (calls_at (calls_within n names) names scope) names

-- a call by its number: the bytes of the procedure's name in it, and that name
abbrev pub call_json : List ℕ → ℕ → NameSpan → Data
call_json source n x = record_of (
    (codes "call", count n)
    ∷ (codes "place", span_json source x.span)
    ∷ (codes "procedure", string x.used.name) ∷ [])

-- the calls of a thread of that name, where there are so many procedures
abbrev pub calls_json : List ℕ → List NameSpan → ℕ → List ℕ → Data
calls_json source names most x =
    list (by_place (call_json source) 0 (from_item (calls_within most names) (thread_item names x)))
