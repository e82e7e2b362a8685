-- The steps of chains as they are written.
use Rattle.std.specs.Prelude.{◌≡◌, ◌<◌, ℕ, List, [], ◌∷◌, Some, codes, length, map, slice_get}
use Rattle.serde_json.specs.Data.{Data, string}
use Rattle.sect_lemmas.specs.Lists.{Has}
use Rattle.sect_types.specs.Sections.{sections_of}
use Rattle.sect_names.specs.declared.link.Link.{Link}
use Rattle.sect_emit.specs.{Compiled.{CompiledView, program_of}, Explaining.{section_deed}}
use Rattle.sect_json.specs.{Values.{count, record_of}, declared.step_texts.Stepped.{Stepped}}
use Rattle.sect_json.specs.steps.Writes.{tail_text}

-- a step without its lock: the node and what it does
abbrev pub rest_with : ℕ → List ℕ → Data
rest_with n text = record_of ((codes "node", count n) ∷ (codes "text", string text) ∷ [])

-- what stands behind the lock of a step at node n of section i
abbrev pub step_tail : CompiledView → ℕ → ℕ → List ℕ
step_tail c i n = tail_text (rest_with n (section_deed c i n))

-- that of each node
abbrev pub AreStepTails : CompiledView → ℕ → List (List ℕ) → Type 0
AreStepTails c i tails = (n : ℕ) (tail : List ℕ) → slice_get tails n ≡ Some tail → tail ≡ step_tail c i n

-- there is such a section, and the texts are those of its nodes
pub record IsStepped (of : Stepped) : Type 0 where
  pub there : of.section < length (sections_of (program_of of.compiled.now).texts)
  pub tails : AreStepTails of.compiled.now of.section (map (λ v. v.items) of.tails.now)

-- the node of each step is below this number
abbrev pub AreStepsBelow : ℕ → List Link → Type 0
AreStepsBelow n links = (a : Link) → Has links a → a.node < n
