-- What the command `compile` answers to a source text. `program_certificate` and `program_listing` cite it.
use Rattle.std.specs.Prelude.{◌≡◌, ℕ, List}
use Rattle.sect_infer.specs.Workers.{AreOffered, AreRefused}
use Rattle.sect_cert.specs.{declared.certificate.Cert.{Cert}, Texts.{certificate_text}}
use Rattle.sect_emit.specs.{Compiled.{CompiledView, IsCompiledFrom}, Certificates.{IsCertificateOf}}
use Rattle.sect_emit.specs.{Listing.{listing_text}, declared.fault.CompileFault.{CompileFault}}
use Rattle.sect_json.specs.{Compiling.{compiled_json}, Values.{document_text}}
use Rattle.sect_answers.specs.{declared.refusal.Refusal.{Refusal}, Answers.{IsDue, of_source}}
use Rattle.sect_infer.specs.declared.workers.InferFault.TheVariants as infer
use Rattle.sect_emit.specs.declared.fault.CompileFault.TheVariants as fault
use Rattle.sect_answers.specs.declared.refusal.Refusal.TheVariants as refusal

-- the source is accepted, and the bytes are the text of the certificate of its compiled program
pub record IsCertified (source : List ℕ) (k : ℕ) (bytes : List ℕ) : Type 0 where
  pub compiled : CompiledView
  pub from : IsCompiledFrom source k compiled
  pub cert : Cert
  pub certifies : IsCertificateOf compiled cert
  pub spelled : bytes ≡ certificate_text cert

-- the source is accepted, and the bytes are the listing of its compiled program
pub record IsProgramListing (source : List ℕ) (k : ℕ) (bytes : List ℕ) : Type 0 where
  pub compiled : CompiledView
  pub from : IsCompiledFrom source k compiled
  pub spelled : bytes ≡ listing_text compiled

-- the source is accepted, and the bytes are the document of its compiled program
pub record IsProgramDocument (source : List ℕ) (k : ℕ) (bytes : List ℕ) : Type 0 where
  pub compiled : CompiledView
  pub from : IsCompiledFrom source k compiled
  pub spelled : bytes ≡ document_text (compiled_json compiled)

-- a fault of compiling is the program's refusal; want of memory is never inside another
abbrev pub of_compile : CompileFault → Refusal
of_compile fault.Memory = refusal.Memory
of_compile (fault.Workers why) = refusal.Workers why
of_compile (fault.Source why) = of_source why

-- the refusal is due: the number of workers is judged first, then k, then the text, and then its hints
abbrev pub IsCompileDue : List ℕ → ℕ → ℕ → Refusal → Type 0
IsCompileDue bytes k workers (refusal.Report text) = ⊥
IsCompileDue bytes k workers (refusal.Workers why) = (why ≡ infer.BadWorkers) × AreRefused workers
IsCompileDue bytes k workers r = AreOffered workers × IsDue bytes k r
