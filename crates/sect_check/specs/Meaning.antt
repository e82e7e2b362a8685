-- What a certificate says of a program, by the program's numbers.
use Rattle.std.specs.{Prelude.{◌≡◌, ◌+◌, ℕ, List, Some, length, slice_get}, List.{AllZip}}
use Rattle.sect_types.specs.Sections.{SectionView, sections_of}
use Rattle.sect_graph.specs.declared.flow.Node.{Node}
use Rattle.sect_names.specs.{declared.link.Link.{Link}, Schemes.{SchemeView}}
use Rattle.sect_cert.specs.{declared.certificate.CertStep.{CertStep}, declared.certificate.CertChain.{CertChain}}
use Rattle.sect_cert.specs.{declared.certificate.CertSection.{CertSection}, declared.certificate.Cert.{Cert}}
use Rattle.sect_check.specs.{declared.claims.Claims.{Claims}, declared.claims.ChainClaim.{ChainClaim}, Names.{Denotes}}

abbrev pub DenotesStep : SchemeView → ℕ → CertStep → Link → Type 0
DenotesStep s t a b = (a.node ≡ b.node) × Denotes s t a.lock b.lock

abbrev pub DenotesChain : SchemeView → ℕ → CertChain → ChainClaim → Type 0
DenotesChain s t a b = (a.lock ≡ b.lock) × AllZip (DenotesStep s t) a.steps b.links

-- what a certificate says of a section of thread t with this graph: a list for each node, the exit counted
pub record DenotesSection (s : SchemeView) (t : ℕ) (g : List Node) (a : CertSection) (c : Claims) : Type 0 where
  pub count : length a.nodes ≡ length g + 1
  pub nodes : AllZip (AllZip (Denotes s t)) a.nodes c.nodes
  pub entry : AllZip (Denotes s t) a.entry c.entry
  pub chains : AllZip (DenotesChain s t) a.chains c.chains

-- the section of this number, and its graph
abbrev pub IsSectionAt : SchemeView → ℕ → SectionView → List Node → Type 0
IsSectionAt s i of g = (slice_get (sections_of s.program.texts) i ≡ Some of) × (slice_get s.graphs.sections i ≡ Some g)

-- what a certificate says of each section of a program: its k and the number of its sections are the program's
pub record DenotesAll (s : SchemeView) (a : Cert) (all : List Claims) : Type 0 where
  pub k : a.k ≡ s.most
  pub sections : length a.sections ≡ length (sections_of s.program.texts)
  pub count : length all ≡ length a.sections
  pub each : (i : ℕ) (of : SectionView) (g : List Node) (x : CertSection) (c : Claims) → IsSectionAt s i of g
      → slice_get a.sections i ≡ Some x → slice_get all i ≡ Some c → DenotesSection s of.thread g x c
