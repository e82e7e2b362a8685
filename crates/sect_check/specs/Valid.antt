-- Valid certificates.
use Rattle.std.specs.{Prelude.{◌≡◌, ◌<◌, ℕ, List, [], Some, length, slice_get, slice_index_or}, List.{AllZip}}
use Rattle.sect_lemmas.specs.Lists.{Has}
use Rattle.sect_types.specs.{Sections.{SectionView, sections_of}, declared.expansion.action.Label.{Label}}
use Rattle.sect_graph.specs.{declared.flow.Node.{Node}, Paths.{LeadsTo}}
use Rattle.sect_names.specs.{declared.lock.Lock.{Lock}, Schemes.{SchemeView}, Locks.{Covers, CoveredBy}}
use Rattle.sect_names.specs.{Carrying.{CarriedBack}, Needed.{end_of, IsLeast}, Order.{AreInOrder}}
use Rattle.sect_names.specs.Chains.{link, IsGeneratedAt, IsChain}
use Rattle.sect_cert.specs.{declared.certificate.CertSection.{CertSection}, declared.certificate.Cert.{Cert}}
use Rattle.sect_check.specs.{declared.claims.Claims.{Claims}, declared.claims.ChainClaim.{ChainClaim}, Names.{Denotes}}
use Rattle.sect_check.specs.Meaning.{IsSectionAt, DenotesAll}

-- the list of node j
abbrev pub list_at : Claims → ℕ → List Lock
list_at c j = slice_index_or c.nodes j []

-- each lock is covered by one of the list
abbrev pub AreCovered : SchemeView → List Lock → List Lock → Type 0
AreCovered s list locks = (l : Lock) → Has locks l → CoveredBy s list l

-- what node j generates is covered by its list; the exit generates what the end of the section does
abbrev pub CoversGenerated : SchemeView → ℕ → List Lock → List Node → Claims → ℕ → Type 0
CoversGenerated s t last g c j = (l : Lock) → IsGeneratedAt s t last g (link j l) → CoveredBy s (list_at c j) l

-- what these locks are carried back to over the step is covered by the list
abbrev pub AreCarriedInto : SchemeView → ℕ → Label → List Lock → List Lock → Type 0
AreCarriedInto s t step list locks = (l r : Lock) → Has locks l → CarriedBack s t step l r → CoveredBy s list r

-- where control may go on from node i to node j, what is carried back from the list of j is covered by that of i
abbrev pub CoversCarried : SchemeView → ℕ → List Node → Claims → ℕ → ℕ → Type 0
CoversCarried s t g c i j =
    (x : Node) → slice_get g i ≡ Some x → LeadsTo x j → AreCarriedInto s t x.label (list_at c i) (list_at c j)

-- no lock of the list covers another
abbrev pub AreApart : SchemeView → List Lock → Type 0
AreApart s locks = (l big : Lock) → Has locks l → Has locks big → Covers s big l → big ≡ l

-- a chain of this number is claimed
abbrev pub IsClaimed : Claims → ℕ → ChainClaim → Type 0
IsClaimed c n x = Has c.chains x × (x.lock ≡ n)

-- one is, and it is a chain of the lock
abbrev pub HasChain : SchemeView → ℕ → List Lock → List Node → Claims → ℕ → Lock → Type 0
HasChain s t last g c n l = (x : ChainClaim) × IsClaimed c n x × IsChain s t last g l x.links

-- lock n of the entry list has its chain
abbrev pub HasItsChain : SchemeView → ℕ → List Lock → List Node → Claims → ℕ → Type 0
HasItsChain s t last g c n = (l : Lock) → slice_get c.entry n ≡ Some l → HasChain s t last g c n l

-- what is claimed of a section of thread t with this graph, whose end generates those locks, is right
pub record IsValidSection (s : SchemeView) (t : ℕ) (last : List Lock) (g : List Node) (c : Claims) : Type 0 where
  pub generated : (j : ℕ) → CoversGenerated s t last g c j
  pub carried : (i j : ℕ) → CoversCarried s t g c i j
  pub entry : AreCovered s c.entry (list_at c 0)
  pub in_order : AreInOrder c.entry
  pub apart : AreApart s c.entry
  pub chains : (n : ℕ) → HasItsChain s t last g c n
  pub no_others : (x : ChainClaim) → Has c.chains x → x.lock < length c.entry

-- the claims on the section of this number are right
abbrev pub IsValidAt : SchemeView → List Claims → ℕ → Type 0
IsValidAt s all i = (of : SectionView) (g : List Node) (c : Claims) → IsSectionAt s i of g → slice_get all i ≡ Some c
    → IsValidSection s of.thread (end_of s i) g c

-- the certificate is valid: its numbers and locks are the program's, and what it claims of each section is right
pub record IsValid (s : SchemeView) (a : Cert) : Type 0 where
  pub claims : List Claims
  pub denoted : DenotesAll s a claims
  pub each : (i : ℕ) → IsValidAt s claims i

-- the entry list of this section of a certificate stands for the section's least lock set, in canonical order
abbrev pub HasLeastEntry : SchemeView → ℕ → SectionView → CertSection → Type 0
HasLeastEntry s i of x =
    (locks : List Lock) × AllZip (Denotes s of.thread) x.entry locks
    × IsLeast s of.thread (end_of s i) of.body locks × AreInOrder locks

-- so does that of each section of the program
abbrev pub AreEntriesLeast : SchemeView → Cert → Type 0
AreEntriesLeast s a = (i : ℕ) (of : SectionView) → slice_get (sections_of s.program.texts) i ≡ Some of
    → (x : CertSection) × (slice_get a.sections i ≡ Some x) × HasLeastEntry s i of x
