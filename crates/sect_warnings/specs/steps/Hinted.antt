-- What comes of a text with a hint.
use Rattle.std.specs.Prelude.{◌≢◌, ℕ, List, Option, Some, None}
use Rattle.sect_names.specs.{declared.refusal.SourceRefusal.{SourceRefusal}, Sources.{IsDue}}
use Rattle.sect_emit.specs.Compiled.{CompiledView, IsCompiledFrom}
use Rattle.sect_names.specs.declared.refusal.SourceRefusal.TheVariants as refusal

-- the compiled program of the text, or none, where it is refused
abbrev pub IsHinted : List ℕ → ℕ → Option CompiledView → Type 0
IsHinted source k (Some d) = IsCompiledFrom source k d
IsHinted source k None = (why : SourceRefusal) × (why ≢ refusal.Memory) × IsDue source k why
