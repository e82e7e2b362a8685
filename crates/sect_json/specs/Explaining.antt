-- Why sections take their locks, as JSON. `explanation_document` cites it.
use Rattle.std.specs.Prelude.{◌≡◌, ℕ, List, [], ◌∷◌, Some, codes, length, map, slice_get}
use Rattle.serde_json.specs.Data.{Data, string}
use Rattle.sect_types.specs.Sections.{sections_of}
use Rattle.sect_names.specs.declared.link.Link.{Link}
use Rattle.sect_emit.specs.{Compiled.{CompiledView, program_of}, Explaining.{IsChained, section_at, section_deed}}
use Rattle.sect_json.specs.{Values.{count, list, by_place, record_of, document_text}, Locks.{lock_json, sections_json}}

-- a node and what it does, and the lock that is needed from there on
abbrev pub step_with : Data → ℕ → List ℕ → Data
step_with lock node text =
    record_of ((codes "lock", lock) ∷ (codes "node", count node) ∷ (codes "text", string text) ∷ [])

-- a step of section i: its lock is told as it is called there
abbrev pub step_json : CompiledView → ℕ → Link → Data
step_json c i a = step_with (lock_json (program_of c).source a.lock) a.node (section_deed c i a.node)

-- the steps from the entry to where a lock is needed
abbrev pub chain_json : CompiledView → ℕ → List Link → Data
chain_json c i links = record_of ((codes "steps", list (map (step_json c i) links)) ∷ [])

abbrev pub section_with : Data → ℕ → ℕ → Data
section_with chains i t =
    record_of ((codes "chains", chains) ∷ (codes "section", count i) ∷ (codes "thread", count t) ∷ [])

-- section i, its thread, and a chain for each of its locks
abbrev pub explained_json : CompiledView → ℕ → List (List Link) → Data
explained_json c i chains = section_with (list (map (chain_json c i) chains)) i (section_at c i).thread

-- all sections, by number
abbrev pub explanation_json : CompiledView → List (List (List Link)) → Data
explanation_json c all = sections_json (by_place (explained_json c) 0 all)

-- each of these is a chain for each lock of the section of its number
abbrev pub AreChained : CompiledView → List (List (List Link)) → Type 0
AreChained c all = (i : ℕ) (chains : List (List Link)) → slice_get all i ≡ Some chains → IsChained c i chains

-- the bytes are the document of all sections, each with a chain for each of its locks
pub record IsExplanationDocument (c : CompiledView) (bytes : List ℕ) : Type 0 where
  pub all : List (List (List Link))
  pub chained : AreChained c all
  pub counted : length all ≡ length (sections_of (program_of c).texts)
  pub printed : bytes ≡ document_text (explanation_json c all)
