-- What sections take, one after another.
use Rattle.std.specs.{Prelude.{◌≡◌, ℕ, List, [], Some, length, slice_get, slice_index_or}, List.{flat_map}}
use Rattle.sect_types.specs.{Sections.{SectionView, sections_of}, declared.expansion.action.Field.{Field}}
use Rattle.sect_names.specs.declared.lock.Lock.{Lock}
use Rattle.sect_emit.specs.{declared.plan.Grip.{Grip}, Compiled.{CompiledView, program_of}}
use Rattle.sect_conflicts.specs.{declared.taken.SectionKeys.{SectionKeys}, Conflicts.{Selects, set_at}}
use Rattle.sect_conflicts.specs.Taken.{IsOfOther, AsksAgainst, IsKeyMet, MeetsAny, IsPathMet, lock_fields}

-- section j is one of another thread than u and asks for the key in every state, in a mode that isn't compatible
abbrev pub IsKeyMetBy : CompiledView → ℕ → Grip → ℕ → Type 0
IsKeyMetBy c u g j = IsOfOther c u j × AsksAgainst g (slice_index_or c.parts j [])

-- section j is one of another thread than u and has a lock that meets this one
abbrev pub IsPathMetBy : CompiledView → ℕ → Lock → ℕ → Type 0
IsPathMetBy c u l j = IsOfOther c u j × MeetsAny c.scheme l (set_at c j)

-- section i takes these
pub record IsTaken (c : CompiledView) (i : ℕ) (keys : SectionKeys) : Type 0 where
  pub part : (s : SectionView) → slice_get (sections_of (program_of c).texts) i ≡ Some s
      → Selects (IsKeyMet c s.thread) (slice_index_or c.parts i []) keys.part.items
  pub paths : (s : SectionView) → slice_get (sections_of (program_of c).texts) i ≡ Some s
      → Selects (IsPathMet c s.thread) (set_at c i) keys.paths.items

-- the first so many sections take these
abbrev pub AreFirstTaken : CompiledView → ℕ → List SectionKeys → Type 0
AreFirstTaken c n taken =
    (length taken ≡ n) × ((i : ℕ) (keys : SectionKeys) → slice_get taken i ≡ Some keys → IsTaken c i keys)

-- the fields that the paths of a section follow
abbrev pub section_fields : SectionKeys → List Field
section_fields keys = flat_map lock_fields keys.paths.items
