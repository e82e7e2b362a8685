-- What sections are compared by.
use Rattle.std.specs.{Prelude.{◌≡◌, ◌<◌, ◌↔◌, ⊤, ℕ, List, Some, length, slice_get}, List.{AllZip}}
use Rattle.sect_types.specs.Sections.{SectionView, sections_of}
use Rattle.sect_points.specs.{declared.sites.SiteSet.{SiteSet}, Sites.{HasSite}, Sets.{InSets}, Paths.{PathHas}}
use Rattle.sect_names.specs.{declared.lock.Lock.{Lock}, Schemes.{SchemeView}}
use Rattle.sect_emit.specs.{Plan.{Ascends}, Compiled.{CompiledView, program_of}}
use Rattle.sect_conflicts.specs.{declared.profile.Profile.{Profile}, Conflicts.{set_at}}
use Rattle.sect_conflicts.specs.steps.Steady.{steady_at}
use Rattle.sect_names.specs.declared.lock.Lock.TheVariants as lock

-- if the lock is on a path, these are the sites whose objects it may denote
abbrev pub AreSitesOfLock : SchemeView → Lock → SiteSet → Type 0
AreSitesOfLock s lock.All sites = ⊤
AreSitesOfLock s (lock.Class n r) sites = ⊤
AreSitesOfLock s (lock.Path p e) sites =
    (site : ℕ) → HasSite sites.words site ↔ (PathHas (InSets s.classes.sets) p site × (site < s.classes.sets.sites))

-- each is that of the lock at its place
abbrev pub AreSitesOfLocks : SchemeView → List Lock → List SiteSet → Type 0
AreSitesOfLocks s = AllZip (AreSitesOfLock s)

-- what section i is compared by
pub record IsProfile (c : CompiledView) (i : ℕ) (profile : Profile) : Type 0 where
  pub thread : (of : SectionView) → slice_get (sections_of (program_of c).texts) i ≡ Some of
      → profile.thread ≡ of.thread
  pub always : profile.always.items ≡ steady_at c i
  pub ascends : Ascends profile.always.items
  pub sites : AreSitesOfLocks c.scheme (set_at c i) profile.sites.items

-- the profiles of the first so many sections, by number
abbrev pub AreFirstProfiles : CompiledView → ℕ → List Profile → Type 0
AreFirstProfiles c n profiles =
    (length profiles ≡ n) × ((i : ℕ) (profile : Profile) → slice_get profiles i ≡ Some profile → IsProfile c i profile)

-- those of all sections
abbrev pub AreProfiles : CompiledView → List Profile → Type 0
AreProfiles c = AreFirstProfiles c (length (sections_of (program_of c).texts))
