-- What is found of parts of a certificate.
use Rattle.std.specs.Prelude.{◌≡◌, ◌<◌, ℕ, ⊤, List, Result, Ok, Err, length}
use Rattle.sect_lemmas.specs.Lists.{Has}
use Rattle.sect_types.specs.Sections.{SectionView}
use Rattle.sect_graph.specs.declared.flow.Node.{Node}
use Rattle.sect_names.specs.{declared.lock.Lock.{Lock}, Schemes.{SchemeView}, Needed.{end_of}, Order.{AreInOrder}}
use Rattle.sect_cert.specs.declared.certificate.Cert.{Cert}
use Rattle.sect_check.specs.{declared.claims.Claims.{Claims}, declared.claims.ChainClaim.{ChainClaim}}
use Rattle.sect_check.specs.{declared.fault.SectionFault.{SectionFault}, declared.fault.CheckFault.{CheckFault}}
use Rattle.sect_check.specs.Meaning.{IsSectionAt}
use Rattle.sect_check.specs.Valid.{list_at, AreCovered, CoversGenerated, CoversCarried, AreApart, IsClaimed, HasChain}
use Rattle.sect_check.specs.Valid.{HasItsChain, IsValidSection, IsValid}
use Rattle.sect_check.specs.Faults.{IsFirst, IsFirstPair, AreListsRight, IsBroken, LacksChain, BreaksChain, IsFaultOf}
use Rattle.sect_check.specs.Verdicts.{IsOfSection, IsCertFault}
use Rattle.sect_check.specs.declared.fault.SectionFault.TheVariants as section
use Rattle.sect_check.specs.declared.fault.CheckFault.TheVariants as fault

-- the lists of the nodes are right, or this is their first fault
abbrev pub JudgesLists : {A : Type 0} → SchemeView → ℕ → List Lock → List Node → Claims → Result A SectionFault → Type 0
JudgesLists s t last g c (Ok x) = AreListsRight s t last g c
JudgesLists s t last g c (Err section.Memory) = ⊤
JudgesLists s t last g c (Err (section.NotGenerated j)) = IsFirst (CoversGenerated s t last g c) j
JudgesLists s t last g c (Err (section.NotCarried i j)) =
    ((m : ℕ) → CoversGenerated s t last g c m) × IsFirstPair (CoversCarried s t g c) i j
JudgesLists s t last g c (Err f) = ⊥

-- the same of the entry list, but for its chains
abbrev pub JudgesEntry : {A : Type 0} → SchemeView → Claims → Result A SectionFault → Type 0
JudgesEntry s c (Ok x) = AreCovered s c.entry (list_at c 0) × AreInOrder c.entry × AreApart s c.entry
JudgesEntry s c (Err section.Memory) = ⊤
JudgesEntry s c (Err section.EntryNotCovered) = AreCovered s c.entry (list_at c 0) → ⊥
JudgesEntry s c (Err section.NotMaximal) =
    AreCovered s c.entry (list_at c 0) × (AreInOrder c.entry × AreApart s c.entry → ⊥)
JudgesEntry s c (Err f) = ⊥

-- the same of the chain of lock n, which is l
abbrev pub JudgesChain :
    {A : Type 0} → SchemeView → ℕ → List Lock → List Node → Claims → ℕ → Lock → Result A SectionFault → Type 0
JudgesChain s t last g c n l (Ok x) = HasChain s t last g c n l
JudgesChain s t last g c n l (Err section.Memory) = ⊤
JudgesChain s t last g c n l (Err (section.NoChain m)) = (m ≡ n) × ((x : ChainClaim) → IsClaimed c n x → ⊥)
JudgesChain s t last g c n l (Err (section.BrokenChain m i)) = (m ≡ n) × IsBroken s t last g c n l i
JudgesChain s t last g c n l (Err f) = ⊥

-- the same of all chains
abbrev pub JudgesChains :
    {A : Type 0} → SchemeView → ℕ → List Lock → List Node → Claims → Result A SectionFault → Type 0
JudgesChains s t last g c (Ok x) =
    ((n : ℕ) → HasItsChain s t last g c n) × ((x : ChainClaim) → Has c.chains x → x.lock < length c.entry)
JudgesChains s t last g c (Err section.Memory) = ⊤
JudgesChains s t last g c (Err (section.NoChain n)) = LacksChain s t last g c n
JudgesChains s t last g c (Err (section.BrokenChain n i)) = BreaksChain s t last g c n i
JudgesChains s t last g c (Err f) = ⊥

-- the same of all that is claimed of a section
abbrev pub JudgesSection :
    {A : Type 0} → SchemeView → ℕ → List Lock → List Node → Claims → Result A SectionFault → Type 0
JudgesSection s t last g c (Ok x) = IsValidSection s t last g c
JudgesSection s t last g c (Err f) = IsFaultOf s t last g c f

-- the fault is the first of what is claimed of the section of this number
abbrev pub IsFaultHere : SchemeView → ℕ → Claims → SectionFault → Type 0
IsFaultHere s i c f =
    (of : SectionView) × (g : List Node) × IsSectionAt s i of g × IsFaultOf s of.thread (end_of s i) g c f

-- what is claimed of the section of this number is right, or this is its first fault
abbrev pub JudgesAt : {A : Type 0} → SchemeView → ℕ → Claims → Result A CheckFault → Type 0
JudgesAt s i c (Ok x) =
    (of : SectionView) (g : List Node) → IsSectionAt s i of g → IsValidSection s of.thread (end_of s i) g c
JudgesAt s i c (Err fault.Memory) = ⊤
JudgesAt s i c (Err f) = IsOfSection (λ j e. (j ≡ i) × IsFaultHere s i c e) f

-- a certificate is valid, or this is its first fault
abbrev pub JudgesCert : {A : Type 0} → SchemeView → Cert → Result A CheckFault → Type 0
JudgesCert s a (Ok x) = IsValid s a
JudgesCert s a (Err fault.Memory) = ⊤
JudgesCert s a (Err f) = IsCertFault s a f
