-- The compiled program of a text, if it has one.
use Rattle.std.specs.Prelude.{◌≡◌, ◌≢◌, ◌⊎◌, ℕ, List, Option, Some, None}
use Rattle.serde_json.specs.Data.{Data, null}
use Rattle.sect_names.specs.{Sources.{IsDue}, declared.refusal.SourceRefusal.{SourceRefusal}}
use Rattle.sect_emit.specs.Compiled.{CompiledView, IsCompiledFrom}
use Rattle.sect_names.specs.declared.refusal.SourceRefusal.TheVariants as refusal

-- the text is refused
abbrev pub IsRefused : List ℕ → ℕ → Type 0
IsRefused source k = (why : SourceRefusal) × (why ≢ refusal.Memory) × IsDue source k why

-- the text is refused, or this is its compiled program
abbrev pub IsCompiledIf : List ℕ → ℕ → Option CompiledView → Type 0
IsCompiledIf source k None = IsRefused source k
IsCompiledIf source k (Some c) = IsCompiledFrom source k c

-- of a text that is refused nothing is told, and of another one this, by its compiled program
abbrev pub IsToldOf : (CompiledView → Data → Type 0) → List ℕ → ℕ → Data → Type 0
IsToldOf IsTold source k value =
    (IsRefused source k × (value ≡ null)) ⊎ ((c : CompiledView) × IsCompiledFrom source k c × IsTold c value)
