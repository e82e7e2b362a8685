-- The faults of a certificate that is read, in the order in which they are sought.
use Rattle.std.specs.Prelude.{◌≡◌, ◌<◌, ◌≤◌, ◌+◌, ◌⊎◌, ℕ, ⊤, List, Some, length, slice_get}
use Rattle.sect_lemmas.specs.Lists.{Has}
use Rattle.sect_types.specs.Sections.{SectionView}
use Rattle.sect_graph.specs.declared.flow.Node.{Node}
use Rattle.sect_names.specs.{declared.lock.Lock.{Lock}, declared.link.Link.{Link}, Schemes.{SchemeView}}
use Rattle.sect_names.specs.{Needed.{end_of}, Order.{AreInOrder}, Chains.{link, LinksTo, IsGeneratedAt}}
use Rattle.sect_cert.specs.declared.certificate.Cert.{Cert}
use Rattle.sect_check.specs.{declared.claims.Claims.{Claims}, declared.claims.ChainClaim.{ChainClaim}}
use Rattle.sect_check.specs.{declared.fault.SectionFault.{SectionFault}, Meaning.{IsSectionAt, DenotesAll}}
use Rattle.sect_check.specs.Valid.{list_at, AreCovered, CoversGenerated, CoversCarried, AreApart, IsClaimed}
use Rattle.sect_check.specs.Valid.{HasItsChain, IsValidAt}
use Rattle.sect_check.specs.declared.fault.SectionFault.TheVariants as fault

-- it fails for n, and holds for each number below
abbrev pub IsFirst : (ℕ → Type 0) → ℕ → Type 0
IsFirst P n = (P n → ⊥) × ((m : ℕ) → m < n → P m)

-- it fails for the pair, and holds for each pair before, by the first number and then by the second
abbrev pub IsFirstPair : (ℕ → ℕ → Type 0) → ℕ → ℕ → Type 0
IsFirstPair P i j = IsFirst (P i) j × ((m : ℕ) → m < i → (n : ℕ) → P m n)

-- where it is the first step, it is the entry with the lock
abbrev pub BeginsRight : Lock → List Link → ℕ → Type 0
BeginsRight l links i = i ≡ 0 → slice_get links 0 ≡ Some (link 0 l)

-- where a step stands before it, that one links to it
abbrev pub ComesRight : SchemeView → ℕ → List Node → List Link → ℕ → Type 0
ComesRight s t g links i =
    (h : ℕ) (a b : Link) → i ≡ h + 1 → slice_get links h ≡ Some a → slice_get links i ≡ Some b → LinksTo s t g a b

-- where it is the last step, its lock is generated
abbrev pub EndsRight : SchemeView → ℕ → List Lock → List Node → List Link → ℕ → Type 0
EndsRight s t last g links i =
    (a : Link) → i + 1 ≡ length links → slice_get links i ≡ Some a → IsGeneratedAt s t last g a

-- step i of the claimed chain of a lock is as it is to be
abbrev pub IsStepRight : SchemeView → ℕ → List Lock → List Node → Lock → List Link → ℕ → Type 0
IsStepRight s t last g l links i = BeginsRight l links i × ComesRight s t g links i × EndsRight s t last g links i

-- the chain of lock n, which is l, has its first wrong step at i
abbrev pub IsBroken : SchemeView → ℕ → List Lock → List Node → Claims → ℕ → Lock → ℕ → Type 0
IsBroken s t last g c n l i = (x : ChainClaim) × IsClaimed c n x × IsFirst (IsStepRight s t last g l x.links) i

-- a chain has this number, which no lock of the entry list has, and no chain has a lower one of the kind
pub record IsStray (c : Claims) (n : ℕ) : Type 0 where
  pub claimed : (x : ChainClaim) × IsClaimed c n x
  pub past : length c.entry ≤ n
  pub least : (x : ChainClaim) → Has c.chains x → length c.entry ≤ x.lock → n ≤ x.lock

-- the lists of the nodes are right
pub record AreListsRight (s : SchemeView) (t : ℕ) (last : List Lock) (g : List Node) (c : Claims) : Type 0 where
  pub generated : (j : ℕ) → CoversGenerated s t last g c j
  pub carried : (i j : ℕ) → CoversCarried s t g c i j

-- so is the entry list, but for its chains
pub record IsEntryRight (s : SchemeView) (t : ℕ) (last : List Lock) (g : List Node) (c : Claims) : Type 0 where
  pub lists : AreListsRight s t last g c
  pub entry : AreCovered s c.entry (list_at c 0)
  pub in_order : AreInOrder c.entry
  pub apart : AreApart s c.entry

-- each lock before lock n has its chain
abbrev pub HaveChainsBefore : SchemeView → ℕ → List Lock → List Node → Claims → ℕ → Type 0
HaveChainsBefore s t last g c n = (m : ℕ) → m < n → HasItsChain s t last g c m

-- lock n is the first without its chain, and no chain has its number
abbrev pub LacksChain : SchemeView → ℕ → List Lock → List Node → Claims → ℕ → Type 0
LacksChain s t last g c n =
    (n < length c.entry) × HaveChainsBefore s t last g c n × ((x : ChainClaim) → IsClaimed c n x → ⊥)

-- lock n is the first without its chain, and the one that has its number is first wrong at step i; or each lock has its
-- chain, and n is the least number of a chain of no lock
abbrev pub BreaksChain : SchemeView → ℕ → List Lock → List Node → Claims → ℕ → ℕ → Type 0
BreaksChain s t last g c n i =
    HaveChainsBefore s t last g c n
    × (((l : Lock) × (slice_get c.entry n ≡ Some l) × IsBroken s t last g c n l i) ⊎ (IsStray c n × (i ≡ 0)))

-- the fault is the first of what is claimed of a section
abbrev pub IsFaultOf : SchemeView → ℕ → List Lock → List Node → Claims → SectionFault → Type 0
IsFaultOf s t last g c fault.Memory = ⊤
IsFaultOf s t last g c (fault.NotGenerated j) = IsFirst (CoversGenerated s t last g c) j
IsFaultOf s t last g c (fault.NotCarried i j) =
    ((m : ℕ) → CoversGenerated s t last g c m) × IsFirstPair (CoversCarried s t g c) i j
IsFaultOf s t last g c fault.EntryNotCovered = AreListsRight s t last g c × (AreCovered s c.entry (list_at c 0) → ⊥)
IsFaultOf s t last g c fault.NotMaximal =
    AreListsRight s t last g c × AreCovered s c.entry (list_at c 0) × (AreInOrder c.entry × AreApart s c.entry → ⊥)
IsFaultOf s t last g c (fault.NoChain n) = IsEntryRight s t last g c × LacksChain s t last g c n
IsFaultOf s t last g c (fault.BrokenChain n i) = IsEntryRight s t last g c × BreaksChain s t last g c n i

-- the claims on each section before this one are right, and the fault is the first of those on this one
pub record IsFaultAt (s : SchemeView) (a : Cert) (i : ℕ) (f : SectionFault) : Type 0 where
  pub claims : List Claims
  pub denoted : DenotesAll s a claims
  pub before : (j : ℕ) → j < i → IsValidAt s claims j
  pub of : SectionView
  pub g : List Node
  pub c : Claims
  pub section : IsSectionAt s i of g
  pub claimed : slice_get claims i ≡ Some c
  pub here : IsFaultOf s of.thread (end_of s i) g c f
