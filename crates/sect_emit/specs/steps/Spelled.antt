-- What a certificate says of a compiled program.
use Rattle.std.specs.{Prelude.{◌≡◌, ℕ, List, Some, length, slice_get}, List.{AllByRecursion}}
use Rattle.sect_front.specs.TreeView.{TreeView}
use Rattle.sect_types.specs.Sections.{SectionView, sections_of}
use Rattle.sect_graph.specs.declared.flow.Node.{Node}
use Rattle.sect_names.specs.{declared.link.Link.{Link}, declared.lock.Lock.{Lock}, Needed.{end_of}}
use Rattle.sect_names.specs.Schemes.{SchemeView}
use Rattle.sect_chains.specs.Chains.{AreChains}
use Rattle.sect_cert.specs.{declared.lock.CertLock.{CertLock}, Texts.{IsLock}, Spelling.{spaced}}
use Rattle.sect_cert.specs.{declared.certificate.CertSection.{CertSection}, declared.certificate.Cert.{Cert}}
use Rattle.sect_infer.specs.Sets.{LocksView}
use Rattle.sect_emit.specs.Words.{list_words, section_words}
use Rattle.sect_cert.specs.Spelling as spelling

-- it says by names which locks section i needs at its nodes and at its entry, with a chain for each of the entry's
abbrev pub IsSectionSpelled : SchemeView → ℕ → LocksView → CertSection → Type 0
IsSectionSpelled s i locks x =
    (of : SectionView) (g : List Node) → slice_get (sections_of s.program.texts) i ≡ Some of
    → slice_get s.graphs.sections i ≡ Some g
    → (chains : List (List Link)) × AreChains s of.thread (end_of s i) g locks.entry chains
    × (x ≡ section_words s.program.source locks chains)

-- so of each section
pub record IsSpelled (s : SchemeView) (all : List LocksView) (a : Cert) : Type 0 where
  pub k : a.k ≡ s.most
  pub count : length a.sections ≡ length (sections_of s.program.texts)
  pub each : (i : ℕ) (locks : LocksView) (x : CertSection) → slice_get all i ≡ Some locks
      → slice_get a.sections i ≡ Some x → IsSectionSpelled s i locks x

-- this is a node's list: by names, its locks, and its text
abbrev pub IsListAt : TreeView → List (List Lock) → ℕ → List CertLock → List Lock → List ℕ → Type 0
IsListAt t at node named locks text =
    (list : List Lock) → slice_get at node ≡ Some list
    → (named ≡ list_words t list) × (locks ≡ list) × (text ≡ spaced (spelling.list_words named))
    × AllByRecursion IsLock named
