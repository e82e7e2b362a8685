-- What is written of a certificate while locks are inferred.
use Rattle.std.specs.{Prelude.{◌≡◌, ℕ, List, Some, length, slice_get}, List.{AllByRecursion}}
use Rattle.sect_types.specs.Sections.{sections_of}
use Rattle.sect_names.specs.Schemes.{SchemeView}
use Rattle.sect_infer.specs.Sets.{LocksView, AreInferredAt, AreAllInferred}
use Rattle.sect_cert.specs.{declared.certificate.CertSection.{CertSection}, declared.certificate.Cert.{Cert}}
use Rattle.sect_cert.specs.Texts.{IsSection, HasText, begun_text, certificate_text}
use Rattle.sect_emit.specs.steps.Spelled.{IsSectionSpelled, IsSpelled}

-- it says by names what is inferred of section i
abbrev pub IsInferredSection : SchemeView → ℕ → CertSection → Type 0
IsInferredSection s i x = (locks : LocksView) × AreInferredAt s i locks × IsSectionSpelled s i locks x

-- so many sections of the program's certificate are written
pub record IsBegun (s : SchemeView) (n : ℕ) (text : List ℕ) : Type 0 where
  pub sections : List CertSection
  pub count : length sections ≡ n
  pub each : (i : ℕ) (x : CertSection) → slice_get sections i ≡ Some x → IsInferredSection s i x
  pub good : AllByRecursion IsSection sections
  pub spelled : text ≡ begun_text s.most (length (sections_of s.program.texts)) sections

-- all are, and the certificate's end
pub record IsWritten (s : SchemeView) (text : List ℕ) : Type 0 where
  pub all : List LocksView
  pub inferred : AreAllInferred s all
  pub cert : Cert
  pub names : IsSpelled s all cert
  pub good : HasText cert
  pub spelled : text ≡ certificate_text cert
