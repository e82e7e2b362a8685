-- The text of a certificate, and which certificates have one. Cited by `read_cert` and `write_cert`.
use Rattle.std.specs.Prelude.{◌≡◌, ◌≢◌, ℕ, ◌+◌, ◌<◌, true, List, [], ◌∷◌, ◌++◌, map, length, codes, ⊤}
use Rattle.std.specs.List.{AllByRecursion, list_all}
use Rattle.sect_front.specs.Words.{is_name}
use Rattle.sect_cert.specs.{Lines.{line_text}, declared.lock.CertBase.{CertBase}, declared.lock.CertPath.{CertPath}}
use Rattle.sect_cert.specs.{declared.lock.CertLock.{CertLock}, declared.certificate.CertStep.{CertStep}}
use Rattle.sect_cert.specs.{declared.certificate.CertChain.{CertChain}, declared.certificate.CertSection.{CertSection}}
use Rattle.sect_cert.specs.{declared.certificate.Cert.{Cert}, declared.line.CertLine.{CertLine}}
use Rattle.sect_cert.specs.declared.lock.CertBase.TheVariants as base
use Rattle.sect_cert.specs.declared.lock.CertLock.TheVariants as lock
use Rattle.sect_cert.specs.declared.line.CertLine.TheVariants as line

-- the lines of nodes, by number from this one, before the lines that follow
abbrev pub nodes_lines : ℕ → List (List CertLock) → List CertLine → List CertLine
nodes_lines j [] w = w
nodes_lines j (ls ∷ ns) w = line.Node j ls ∷ nodes_lines (j + 1) ns w

-- the lines of chains, before the lines that follow
abbrev pub chains_lines : List CertChain → List CertLine → List CertLine
chains_lines [] w = w
chains_lines (c ∷ cs) w = line.Chain c ∷ chains_lines cs w

-- the lines of a section after its first
abbrev pub section_lines : CertSection → List CertLine → List CertLine
section_lines s w = nodes_lines 0 s.nodes (line.Entry s.entry ∷ chains_lines s.chains w)

-- the lines of sections, by number from this one
abbrev pub sections_lines : ℕ → List CertSection → List CertLine → List CertLine
sections_lines i [] w = w
sections_lines i (s ∷ ss) w = line.Section i (length s.nodes) ∷ section_lines s (sections_lines (i + 1) ss w)

-- the lines of a certificate after the first
abbrev pub body_lines : Cert → List CertLine
body_lines c = line.K c.k ∷ line.Sections (length c.sections) ∷ sections_lines 0 c.sections (line.End ∷ [])

-- the first line
abbrev pub header_text : List ℕ
header_text = codes "sect-cert 2"

-- the texts of all lines
abbrev pub cert_lines : Cert → List (List ℕ)
cert_lines c = header_text ∷ map line_text (body_lines c)

-- lines, each with a line feed behind it
abbrev pub fed : List (List ℕ) → List ℕ
fed [] = []
fed (t ∷ ts) = t ++ 10 ∷ fed ts

-- the text of a certificate: its lines, each with a line feed
abbrev pub certificate_text : Cert → List ℕ
certificate_text c = fed (cert_lines c)

-- lines as they are written
abbrev pub lines_text : List CertLine → List ℕ
lines_text ls = fed (map line_text ls)

-- what is written of a certificate of so many sections when these are written
abbrev pub begun_text : ℕ → ℕ → List CertSection → List ℕ
begun_text k count sections =
    header_text ++ 10 ∷ lines_text (line.K k ∷ line.Sections count ∷ sections_lines 0 sections [])

-- a number that may be written
abbrev pub IsNumber : ℕ → Type 0
IsNumber n = n < 4294967296

-- the name of a base is one, and its number may be written
abbrev pub IsBase : CertBase → Type 0
IsBase (base.Name name) = is_name name ≡ true
IsBase (base.InCall name call) = (is_name name ≡ true) × IsNumber call

-- each name of a path is one
abbrev pub IsPath : CertPath → Type 0
IsPath p = IsBase p.base × (list_all is_name p.fields ≡ true)

abbrev pub IsLock : CertLock → Type 0
IsLock lock.WriteAll = ⊤
IsLock (lock.ReadPath p) = IsPath p
IsLock (lock.WritePath p) = IsPath p
IsLock (lock.ReadClass c) = IsNumber c
IsLock (lock.WriteClass c) = IsNumber c
IsLock (lock.MakeClass c) = IsNumber c

abbrev pub IsStep : CertStep → Type 0
IsStep s = IsNumber s.node × IsLock s.lock

-- a chain has a step
abbrev pub IsChain : CertChain → Type 0
IsChain c = IsNumber c.lock × (c.steps ≢ []) × AllByRecursion IsStep c.steps

abbrev pub IsLine : CertLine → Type 0
IsLine (line.K n) = IsNumber n
IsLine (line.Sections n) = IsNumber n
IsLine (line.Section i m) = IsNumber i × IsNumber m
IsLine (line.Node j ls) = IsNumber j × AllByRecursion IsLock ls
IsLine (line.Entry ls) = AllByRecursion IsLock ls
IsLine (line.Chain c) = IsChain c
IsLine line.End = ⊤

-- the numbers of chains rise
abbrev pub AreRising : List CertChain → Type 0
AreRising [] = ⊤
AreRising (c ∷ []) = ⊤
AreRising (c ∷ d ∷ cs) = (c.lock < d.lock) × AreRising (d ∷ cs)

-- a section has lines that are read
pub record IsSection (s : CertSection) : Type 0 where
  pub count : IsNumber (length s.nodes)
  pub nodes : AllByRecursion (λ ls. AllByRecursion IsLock ls) s.nodes
  pub entry : AllByRecursion IsLock s.entry
  pub chains : AllByRecursion IsChain s.chains
  pub rising : AreRising s.chains

-- a certificate has a text that is read: at most 4294967295 of everything, names that are names, chains that rise and
-- have a step
pub record HasText (c : Cert) : Type 0 where
  pub k : IsNumber c.k
  pub count : IsNumber (length c.sections)
  pub sections : AllByRecursion IsSection c.sections
