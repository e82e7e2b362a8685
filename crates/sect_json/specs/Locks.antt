-- Lock sets as JSON. `locks_document` cites it.
use Rattle.std.specs.Prelude.{ℕ, List, [], ◌∷◌, codes, map}
use Rattle.serde_json.specs.Data.{Data, string}
use Rattle.sect_front.specs.TreeView.{TreeView}
use Rattle.sect_names.specs.{declared.lock.Lock.{Lock}, Printing.{path_text, effect_text, right_text}}
use Rattle.sect_json.specs.Values.{count, list, by_place, record_of}
use Rattle.sect_names.specs.declared.lock.Lock.TheVariants as lock

-- all objects, a class by its number, or the object of a path; and the right
abbrev pub lock_json : TreeView → Lock → Data
lock_json t lock.All =
    record_of ((codes "kind", string (codes "all")) ∷ (codes "right", string (codes "W")) ∷ [])
lock_json t (lock.Class c r) = record_of (
    (codes "class", count c) ∷ (codes "kind", string (codes "class")) ∷ (codes "right", string (right_text r)) ∷ [])
lock_json t (lock.Path p e) = record_of (
    (codes "kind", string (codes "path"))
    ∷ (codes "path", string (path_text t p))
    ∷ (codes "right", string (effect_text e)) ∷ [])

-- a section and its locks
abbrev pub section_json : TreeView → ℕ → List Lock → Data
section_json t i locks =
    record_of ((codes "locks", list (map (lock_json t) locks)) ∷ (codes "section", count i) ∷ [])

-- sections, by number
abbrev pub sections_json : List Data → Data
sections_json sections = record_of ((codes "sections", list sections) ∷ [])

-- all sections
abbrev pub locks_json : TreeView → List (List Lock) → Data
locks_json t sets = sections_json (by_place (section_json t) 0 sets)
