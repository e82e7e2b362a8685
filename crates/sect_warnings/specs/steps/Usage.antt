-- The fields of sections as they are found, and what is told of two sections by that.
use Rattle.std.specs.Prelude.{◌≡◌, ℕ, Bool, true, false, not, List, Some, length, slice_get}
use Rattle.sect_types.specs.Sections.{sections_of}
use Rattle.sect_modes.specs.declared.key.Key.{Key}
use Rattle.sect_emit.specs.Compiled.{CompiledView}
use Rattle.sect_conflicts.specs.declared.conflict.Conflict.{Conflict}
use Rattle.sect_conflicts.specs.declared.conflict.Conflict.TheVariants.{Always, Sometimes, Never}
use Rattle.sect_warnings.specs.{declared.fields.Usage.{Usage}, Fields.{section_fields, stored, used}}
use Rattle.sect_modes.specs.declared.key.Key.TheVariants as key

-- the fields of section i
pub record AreUsed (c : CompiledView) (i : ℕ) (usage : Usage) : Type 0 where
  pub stores : usage.stored.items ≡ section_fields stored c i
  pub uses : usage.used.items ≡ section_fields used c i

-- those of the first sections, so many
abbrev pub AreFirstUsed : CompiledView → ℕ → List Usage → Type 0
AreFirstUsed c n usages =
    (length usages ≡ n) × ((i : ℕ) (usage : Usage) → slice_get usages i ≡ Some usage → AreUsed c i usage)

-- those of all
abbrev pub AreAllUsed : CompiledView → List Usage → Type 0
AreAllUsed c = AreFirstUsed c (length (sections_of c.scheme.program.texts))

abbrev pub is_all : Key → Bool
is_all key.All = true
is_all (key.Class n) = false
is_all (key.Global g) = false
is_all (key.Made t n) = false

-- they exclude each other in every state, and not for one that takes all
abbrev pub by_part : Conflict → Bool
by_part (Always clash) = not (is_all clash.key)
by_part (Sometimes pairs) = false
by_part Never = false
