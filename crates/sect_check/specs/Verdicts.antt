-- What a source text and the bytes of a certificate are answered with.
use Rattle.std.specs.Prelude.{◌≡◌, ◌≢◌, ◌≤◌, ℕ, List, Result, Ok, Err}
use Rattle.sect_names.specs.{Schemes.{SchemeView}, Sources.{IsAccepted, IsDue}}
use Rattle.sect_names.specs.declared.refusal.SourceRefusal.{SourceRefusal}
use Rattle.sect_cert.specs.{declared.certificate.Cert.{Cert}, declared.fault.CertFault.{CertFault}}
use Rattle.sect_cert.specs.Texts.{HasText, certificate_text}
use Rattle.sect_check.specs.{declared.claims.Claims.{Claims}, declared.fault.SectionFault.{SectionFault}}
use Rattle.sect_check.specs.{declared.fault.CheckFault.{CheckFault}, Meaning.{DenotesAll}, Valid.{IsValid}}
use Rattle.sect_check.specs.Faults.{IsFaultAt}
use Rattle.sect_names.specs.declared.refusal.SourceRefusal.TheVariants as refusal
use Rattle.sect_cert.specs.declared.fault.CertFault.TheVariants as text
use Rattle.sect_cert.specs.Verdicts as texts
use Rattle.sect_check.specs.declared.fault.SectionFault.TheVariants as section
use Rattle.sect_check.specs.declared.fault.CheckFault.TheVariants as fault

-- a refusal of the source is the checker's fault, and so is a fault of the certificate's text; want of memory is never
-- inside another
abbrev pub of_source : SourceRefusal → CheckFault
of_source refusal.Memory = fault.Memory
of_source r = fault.Source r

abbrev pub of_text : CertFault → CheckFault
of_text text.Memory = fault.Memory
of_text f = fault.Text f

-- the fault of a section, with its number
abbrev pub of_section : ℕ → SectionFault → CheckFault
of_section i section.Memory = fault.Memory
of_section i (section.NotGenerated j) = fault.NotGenerated i j
of_section i (section.NotCarried j k) = fault.NotCarried i j k
of_section i section.EntryNotCovered = fault.EntryNotCovered i
of_section i section.NotMaximal = fault.NotMaximal i
of_section i (section.NoChain n) = fault.NoChain i n
of_section i (section.BrokenChain n j) = fault.BrokenChain i n j

-- the fault is one of a section, and so holds of its number
abbrev pub IsOfSection : (ℕ → SectionFault → Type 0) → CheckFault → Type 0
IsOfSection P (fault.NotGenerated i j) = P i (section.NotGenerated j)
IsOfSection P (fault.NotCarried i j k) = P i (section.NotCarried j k)
IsOfSection P (fault.EntryNotCovered i) = P i section.EntryNotCovered
IsOfSection P (fault.NotMaximal i) = P i section.NotMaximal
IsOfSection P (fault.NoChain i n) = P i (section.NoChain n)
IsOfSection P (fault.BrokenChain i n j) = P i (section.BrokenChain n j)
IsOfSection P _ = ⊥

-- this is the first fault of a certificate: its numbers or locks aren't the program's, or it is the first in a section
abbrev pub IsCertFault : SchemeView → Cert → CheckFault → Type 0
IsCertFault s a fault.WrongProgram = (all : List Claims) → DenotesAll s a all → ⊥
IsCertFault s a f = IsOfSection (IsFaultAt s a) f

-- the source is accepted, the bytes are the text of a certificate, and so holds of it
pub record IsRead (source : List ℕ) (k : ℕ) (bytes : List ℕ) (P : SchemeView → Cert → Type 0) : Type 0 where
  pub s : SchemeView
  pub accepted : IsAccepted source k s
  pub cert : Cert
  pub text : HasText cert
  pub spelled : bytes ≡ certificate_text cert
  pub holds : P s cert

-- the source is accepted, the bytes are the text of a certificate, and that is valid; or this is the first fault; where
-- k is too large memory cannot run out
abbrev pub Judges : {A : Type 0} → List ℕ → ℕ → List ℕ → Result A CheckFault → Type 0
Judges source k bytes (Ok x) = IsRead source k bytes IsValid
Judges source k bytes (Err fault.Memory) = k ≤ 3
Judges source k bytes (Err (fault.Source r)) = (r ≢ refusal.Memory) × IsDue source k r
Judges source k bytes (Err (fault.Text f)) =
    ((s : SchemeView) × IsAccepted source k s) × (f ≢ text.Memory) × texts.Judges bytes (Err f)
Judges source k bytes (Err f) = IsRead source k bytes (λ s a. IsCertFault s a f)
