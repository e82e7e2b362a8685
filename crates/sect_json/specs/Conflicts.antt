-- Which sections exclude each other, as JSON. `conflicts_document` cites it.
use Rattle.std.specs.Prelude.{◌≡◌, ℕ, List, [], ◌∷◌, codes, map}
use Rattle.serde_json.specs.Data.{Data, string}
use Rattle.sect_front.specs.TreeView.{TreeView}
use Rattle.sect_types.specs.Programs.{ProgramView}
use Rattle.sect_names.specs.Printing.{path_text}
use Rattle.sect_emit.specs.Compiled.{CompiledView, program_of}
use Rattle.sect_conflicts.specs.{declared.conflict.KeyClash.{KeyClash}, declared.conflict.PathPair.{PathPair}}
use Rattle.sect_conflicts.specs.{declared.conflict.SectionPair.{SectionPair}, declared.conflict.Conflict.{Conflict}}
use Rattle.sect_conflicts.specs.declared.conflict.Conflict.TheVariants.{Always, Sometimes, Never}
use Rattle.sect_conflicts.specs.Comparing.{AreConflicts}
use Rattle.sect_json.specs.{Values.{count, list, record_of, document_text}, Keys.{key_json, mode_json}}

-- two paths, one of each section
abbrev pub path_pair_json : TreeView → PathPair → Data
path_pair_json t pair = record_of (
    (codes "first", string (path_text t pair.first)) ∷ (codes "second", string (path_text t pair.second)) ∷ [])

-- the mode of each section
abbrev pub modes_json : KeyClash → Data
modes_json clash = list (mode_json clash.first ∷ mode_json clash.second ∷ [])

-- how sections i and j meet: they exclude each other by a key in two modes, or where two paths denote one object, or
-- they go together
abbrev pub conflict_json : ProgramView → ℕ → ℕ → Conflict → Data
conflict_json p i j (Always clash) = record_of (
    (codes "first", count i)
    ∷ (codes "key", key_json p clash.key)
    ∷ (codes "meet", string (codes "exclude"))
    ∷ (codes "modes", modes_json clash)
    ∷ (codes "second", count j) ∷ [])
conflict_json p i j (Sometimes pairs) = record_of (
    (codes "first", count i)
    ∷ (codes "meet", string (codes "where"))
    ∷ (codes "paths", list (map (path_pair_json p.source) pairs.items))
    ∷ (codes "second", count j) ∷ [])
conflict_json p i j Never = record_of (
    (codes "first", count i)
    ∷ (codes "meet", string (codes "together"))
    ∷ (codes "second", count j) ∷ [])

abbrev pub section_pair_json : ProgramView → SectionPair → Data
section_pair_json p pair = conflict_json p pair.first pair.second pair.conflict

-- all pairs of sections, in their order
abbrev pub conflicts_json : ProgramView → List SectionPair → Data
conflicts_json p pairs = record_of ((codes "pairs", list (map (section_pair_json p) pairs)) ∷ [])

-- the bytes are the document of the pairs of sections of different threads
pub record IsConflictsDocument (c : CompiledView) (bytes : List ℕ) : Type 0 where
  pub pairs : List SectionPair
  pub told : AreConflicts c pairs
  pub printed : bytes ≡ document_text (conflicts_json (program_of c) pairs)
