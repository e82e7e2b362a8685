-- The certificate of a compiled program.
use Rattle.std.specs.{Prelude.{◌≡◌, ℕ, List, Some, length, map, slice_get}, List.{AllZip}}
use Rattle.sect_types.specs.Sections.{SectionView, sections_of}
use Rattle.sect_graph.specs.declared.flow.Node.{Node}
use Rattle.sect_names.specs.{declared.link.Link.{Link}, declared.lock.Lock.{Lock}, Needed.{end_of}}
use Rattle.sect_infer.specs.Sets.{AreNeeded}
use Rattle.sect_chains.specs.Chains.{AreChains}
use Rattle.sect_cert.specs.{declared.certificate.CertSection.{CertSection}, declared.certificate.Cert.{Cert}}
use Rattle.sect_cert.specs.Texts.{HasText}
use Rattle.sect_check.specs.Names.{Denotes}
use Rattle.sect_emit.specs.{Compiled.{CompiledView}, Words.{list_words, chains_words}}

-- what it says of a section, by the names of the text: at each node the maximal locks of what is needed from there on,
-- at the entry the set, and a chain for each lock of the set
pub record SaysOf (c : CompiledView) (i : ℕ) (of : SectionView) (g : List Node) (x : CertSection) : Type 0 where
  pub at : List (List Lock)
  pub set : List Lock
  pub chains : List (List Link)
  pub needed : AreNeeded c.scheme of.thread (end_of c.scheme i) of.body g at
  pub taken : slice_get c.sets i ≡ Some set
  pub chained : AreChains c.scheme of.thread (end_of c.scheme i) g set chains
  pub node_words : x.nodes ≡ map (list_words c.scheme.program.source) at
  pub entry_words : x.entry ≡ list_words c.scheme.program.source set
  pub chain_words : x.chains ≡ chains_words c.scheme.program.source 0 chains

-- it has a text, its k is the program's, and it says this of each section
pub record IsCertificateOf (c : CompiledView) (a : Cert) : Type 0 where
  pub text : HasText a
  pub k : a.k ≡ c.scheme.most
  pub count : length a.sections ≡ length (sections_of c.scheme.program.texts)
  pub each : (i : ℕ) (of : SectionView) (g : List Node) (x : CertSection)
      → slice_get (sections_of c.scheme.program.texts) i ≡ Some of → slice_get c.scheme.graphs.sections i ≡ Some g
      → slice_get a.sections i ≡ Some x → SaysOf c i of g x

-- the entry list of each section stands for the section's set
abbrev pub HasTheSets : CompiledView → Cert → Type 0
HasTheSets c a =
    (i : ℕ) (of : SectionView) (set : List Lock) → slice_get (sections_of c.scheme.program.texts) i ≡ Some of
    → slice_get c.sets i ≡ Some set
    → (x : CertSection) × (slice_get a.sections i ≡ Some x) × AllZip (Denotes c.scheme of.thread) x.entry set
