-- The text of the certificate of a compiled source text. `certify_with` cites it.
use Rattle.std.specs.Prelude.{◌≡◌, ℕ, List}
use Rattle.sect_cert.specs.{declared.certificate.Cert.{Cert}, Texts.{certificate_text}}
use Rattle.sect_check.specs.Valid.{IsValid}
use Rattle.sect_emit.specs.{Compiled.{CompiledView, IsCompiledFrom}, Certificates.{IsCertificateOf}}

-- the source is accepted, the bytes are the text of the certificate of its compiled program, and the checker accepts
-- that
pub record IsCertifiedBy (source : List ℕ) (k : ℕ) (bytes : List ℕ) : Type 0 where
  pub compiled : CompiledView
  pub from : IsCompiledFrom source k compiled
  pub cert : Cert
  pub certifies : IsCertificateOf compiled cert
  pub valid : IsValid compiled.scheme cert
  pub spelled : bytes ≡ certificate_text cert
