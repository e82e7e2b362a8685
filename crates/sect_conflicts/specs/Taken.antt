-- Which keys sections have to take: those that may keep another thread out. `taken_keys` cites it.
use Rattle.std.specs.{Prelude.{◌≡◌, ◌≢◌, ℕ, false, List, [], Some, length, slice_get, slice_index_or}}
use Rattle.std.specs.List.{flat_map}
use Rattle.sect_lemmas.specs.Lists.{Has}
use Rattle.sect_types.specs.{Sections.{SectionView, sections_of}, declared.expansion.action.Field.{Field}}
use Rattle.sect_points.specs.Paths.{fields_of}
use Rattle.sect_modes.specs.{declared.mode.Mode.{Mode}, Mode.{are_compatible}}
use Rattle.sect_names.specs.{Schemes.{SchemeView}, declared.lock.Lock.{Lock}}
use Rattle.sect_conflicts.specs.Conflicts.{MayBeOne, Selects, set_at}
use Rattle.sect_emit.specs.{declared.plan.Grip.{Grip}, Plan.{grip, object_mode}, Compiled.{CompiledView, program_of}}
use Rattle.sect_names.specs.declared.lock.Lock.TheVariants as lock

-- of each section the keys that it takes in every state, and the locks on paths whose objects it takes
pub record TakenView : Type 0 where
  pub parts : List (List Grip)
  pub paths : List (List Lock)

abbrev pub lock_fields : Lock → List Field
lock_fields lock.All = []
lock_fields (lock.Class c r) = []
lock_fields (lock.Path p e) = fields_of p

-- the fields that these paths follow: they are read while others may write them
abbrev pub looked_of : TakenView → List Field
looked_of taken = flat_map (flat_map lock_fields) taken.paths

-- section j is one of another thread than u
abbrev pub IsOfOther : CompiledView → ℕ → ℕ → Type 0
IsOfOther c u j = (s : SectionView) × (slice_get (sections_of (program_of c).texts) j ≡ Some s) × (s.thread ≢ u)

-- the list has the key in a mode that isn't compatible
abbrev pub AsksAgainst : Grip → List Grip → Type 0
AsksAgainst g part = (n : Mode) × Has part (grip g.key n) × (are_compatible g.mode n ≡ false)

-- some section of another thread than u asks for the key in every state, in a mode that isn't compatible
abbrev pub IsKeyMet : CompiledView → ℕ → Grip → Type 0
IsKeyMet c u g = (j : ℕ) × IsOfOther c u j × AsksAgainst g (slice_index_or c.parts j [])

-- both locks are on paths that may denote one object, in modes that aren't compatible
abbrev pub MeetsLock : SchemeView → Lock → Lock → Type 0
MeetsLock s (lock.Path p e) (lock.Path q d) =
    (are_compatible (object_mode e) (object_mode d) ≡ false) × MayBeOne s (record { first = p; second = q })
MeetsLock s (lock.Path p e) lock.All = ⊥
MeetsLock s (lock.Path p e) (lock.Class n r) = ⊥
MeetsLock s lock.All other = ⊥
MeetsLock s (lock.Class n r) other = ⊥

abbrev pub MeetsAny : SchemeView → Lock → List Lock → Type 0
MeetsAny s l others = (other : Lock) × Has others other × MeetsLock s l other

-- some section of another thread than u has a lock that meets this one
abbrev pub IsPathMet : CompiledView → ℕ → Lock → Type 0
IsPathMet c u l = (j : ℕ) × IsOfOther c u j × MeetsAny c.scheme l (set_at c j)

-- these, and no others, are taken
pub record AreTaken (c : CompiledView) (taken : TakenView) : Type 0 where
  pub part_count : length taken.parts ≡ length (sections_of (program_of c).texts)
  pub path_count : length taken.paths ≡ length (sections_of (program_of c).texts)
  pub parts : (i : ℕ) (s : SectionView) (kept : List Grip) → slice_get (sections_of (program_of c).texts) i ≡ Some s
      → slice_get taken.parts i ≡ Some kept → Selects (IsKeyMet c s.thread) (slice_index_or c.parts i []) kept
  pub paths : (i : ℕ) (s : SectionView) (kept : List Lock) → slice_get (sections_of (program_of c).texts) i ≡ Some s
      → slice_get taken.paths i ≡ Some kept → Selects (IsPathMet c s.thread) (set_at c i) kept
