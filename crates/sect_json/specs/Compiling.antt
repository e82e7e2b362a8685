-- Compiled programs as JSON. `compiled_document` cites it.
use Rattle.std.specs.Prelude.{ℕ, List, [], ◌∷◌, ◌++◌, codes, length, map, slice_index_or}
use Rattle.std.specs.List.{range_with_len, flat_map}
use Rattle.serde_json.specs.Data.{Data, string}
use Rattle.sect_types.specs.{Programs.{ProgramView}, Sections.{sections_of}}
use Rattle.sect_emit.specs.{Compiled.{CompiledView, program_of}, Explaining.{section_at}, Labels.{thread_name}}
use Rattle.sect_emit.specs.{declared.plan.Grip.{Grip}, Plan.{object_mode}}
use Rattle.sect_points.specs.{declared.holders.Variable.{Variable}, Paths.{PathView, base_of, fields_of}}
use Rattle.sect_points.specs.declared.holders.Variable.TheVariants.{Global, Local}
use Rattle.sect_types.specs.declared.expansion.action.Field.{Field}
use Rattle.sect_names.specs.{declared.lock.Lock.{Lock}, Printing.{path_text}}
use Rattle.sect_json.specs.{Values.{count, list, record_of}, Keys.{key_json, mode_json}, Locks.{lock_json}}
use Rattle.sect_json.specs.Nodes.{nodes_json}
use Rattle.sect_emit.specs.declared.graphs.GraphOf.TheVariants as graphed
use Rattle.sect_modes.specs.declared.key.Key.TheVariants as key
use Rattle.sect_names.specs.declared.lock.Lock.TheVariants as lock

-- a key that is taken, and the mode
abbrev pub grip_with : Data → Data → Data
grip_with key mode = record_of ((codes "key", key) ∷ (codes "mode", mode) ∷ [])

abbrev pub grip_json : ProgramView → Grip → Data
grip_json p g = grip_with (key_json p g.key) (mode_json g.mode)

-- the locks that section i takes
abbrev pub set_json : CompiledView → ℕ → Data
set_json c i = list (map (lock_json (program_of c).source) (slice_index_or c.sets i []))

-- the object that a path leads to, whose base and fields these are: of a global it is known by its name, of any other
-- path by the path, since it is another one in each state
abbrev pub reached_json : ProgramView → PathView → Variable → List Field → Data
reached_json p path (Global g) [] = key_json p (key.Global g)
reached_json p path (Global g) (f ∷ fs) =
    record_of ((codes "kind", string (codes "path")) ∷ (codes "path", string (path_text p.source path)) ∷ [])
reached_json p path (Local t x) fs =
    record_of ((codes "kind", string (codes "path")) ∷ (codes "path", string (path_text p.source path)) ∷ [])

-- the key of a path's object, and the mode
abbrev pub path_grips_json : ProgramView → Lock → List Data
path_grips_json p lock.All = []
path_grips_json p (lock.Class n r) = []
path_grips_json p (lock.Path path e) =
    grip_with (reached_json p path (base_of path) (fields_of path)) (mode_json (object_mode e)) ∷ []

-- the keys that section i takes: `all` and classes, which it takes in every state, and then the objects of the paths
-- that it locks; those of globals are taken in every state, too, the others where there is one
abbrev pub plan_json : CompiledView → ℕ → Data
plan_json c i = list (map (grip_json (program_of c)) (slice_index_or c.parts i [])
    ++ flat_map (path_grips_json (program_of c)) (slice_index_or c.sets i []))

-- a section: its locks, its nodes, the keys that it takes, its number and its thread
abbrev pub section_with : Data → Data → Data → ℕ → ℕ → Data
section_with locks nodes plan i t = record_of (
    (codes "locks", locks)
    ∷ (codes "nodes", nodes)
    ∷ (codes "plan", plan)
    ∷ (codes "section", count i)
    ∷ (codes "thread", count t) ∷ [])

abbrev pub section_json : CompiledView → ℕ → Data
section_json c i =
    section_with (set_json c i) (nodes_json c (graphed.Section i)) (plan_json c i) i (section_at c i).thread

-- a thread: its name, its nodes and its number
abbrev pub thread_with : List ℕ → Data → ℕ → Data
thread_with name nodes u =
    record_of ((codes "name", string name) ∷ (codes "nodes", nodes) ∷ (codes "thread", count u) ∷ [])

abbrev pub thread_json : CompiledView → ℕ → Data
thread_json c u = thread_with (thread_name (program_of c).source u) (nodes_json c (graphed.Thread u)) u

-- sections and threads, by number
abbrev pub compiled_with : List Data → List Data → Data
compiled_with sections threads = record_of ((codes "sections", list sections) ∷ (codes "threads", list threads) ∷ [])

abbrev pub compiled_json : CompiledView → Data
compiled_json c = compiled_with
    (map (section_json c) (range_with_len 0 (length (sections_of (program_of c).texts))))
    (map (thread_json c) (range_with_len 0 (length (program_of c).texts)))
