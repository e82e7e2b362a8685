-- The lines of a certificate, taken one after another.
use Rattle.std.specs.Prelude.{◌≡◌, ℕ, ◌==◌, nat_lt, Bool, true, false, if◌then◌else◌, List, [], ◌∷◌, ◌++◌, length}
use Rattle.std.specs.{Prelude.{Option, Some, None, Result, Ok, Err, ⊤}, Str.{bytes_eq}}
use Rattle.sect_cert.specs.{Parts.{parts}, Zeros.{plain, is_exact}, Texts.{header_text}}
use Rattle.sect_cert.specs.{declared.fault.LineFault.{LineFault}, declared.lock.CertLock.{CertLock}}
use Rattle.sect_cert.specs.{declared.certificate.CertSection.{CertSection}, declared.line.CertLine.{CertLine}}
use Rattle.sect_cert.specs.{declared.stage.Open.{Open}, declared.stage.CertStage.{CertStage}}
use Rattle.sect_cert.specs.steps.{Certificates.{section_with, cert_with, is_rising}, Reading.{line_of}}
use Rattle.sect_cert.specs.declared.fault.LineFault.TheVariants as fault
use Rattle.sect_cert.specs.declared.line.CertLine.TheVariants as line
use Rattle.sect_cert.specs.declared.stage.CertStage.TheVariants as stage

-- what comes of a line
pub data Next : Type 0 where
  Goes : CertStage → Next
  Bad : Next
  Odd : Next

abbrev pub GoesTo : Result CertStage LineFault → Next → Type 0
GoesTo (Ok s) next = next ≡ Goes s
GoesTo (Err fault.Memory) next = ⊤
GoesTo (Err fault.Bad) next = next ≡ Bad
GoesTo (Err fault.Odd) next = next ≡ Odd

abbrev pub ClosesTo : Result Open LineFault → Open → Type 0
ClosesTo (Ok o) next = next ≡ o
ClosesTo (Err fault.Memory) next = ⊤
ClosesTo (Err fault.Bad) next = ⊥
ClosesTo (Err fault.Odd) next = ⊥

abbrev pub open_with : ℕ → ℕ → List CertSection → Open
open_with k n done = record { k = k; count = n; done = done }

abbrev pub begin_of : Open → CertLine → Next
begin_of o (line.Section i m) =
    if nat_lt (length o.done) o.count then (if i == length o.done then Goes (stage.Nodes o m []) else Odd) else Bad
begin_of o line.End = if nat_lt (length o.done) o.count then Bad else Goes (stage.Finished (cert_with o.k o.done))
begin_of o _ = Bad

abbrev pub close_of : Open → CertSection → Open
close_of o s = open_with o.k o.count (o.done ++ s ∷ [])

abbrev pub node_of : Open → ℕ → List (List CertLock) → CertLine → Next
node_of o m ns (line.Node j ls) =
    if nat_lt (length ns) m then (if j == length ns then Goes (stage.Nodes o m (ns ++ ls ∷ [])) else Odd) else Bad
node_of o m ns (line.Entry ls) = if nat_lt (length ns) m then Bad else Goes (stage.Chains o (section_with ns ls []))
node_of o m ns _ = Bad

abbrev pub chain_of : Open → CertSection → CertLine → Next
chain_of o s (line.Chain c) =
    if is_rising s.chains c.lock then Goes (stage.Chains o (section_with s.nodes s.entry (s.chains ++ c ∷ []))) else Odd
chain_of o s x = begin_of (close_of o s) x

abbrev pub stage_of : CertStage → CertLine → Next
stage_of stage.K (line.K k) = Goes (stage.Count k)
stage_of (stage.Count k) (line.Sections n) = Goes (stage.Between (open_with k n []))
stage_of (stage.Between o) x = begin_of o x
stage_of (stage.Nodes o m ns) x = node_of o m ns x
stage_of (stage.Chains o s) x = chain_of o s x
stage_of _ x = Bad

abbrev pub judged : Bool → Next → Next
judged e (Goes s) = if e then Goes s else Odd
judged e n = n

abbrev pub read_words : CertStage → Option CertLine → Bool → Next
read_words s None e = Bad
read_words s (Some x) e = judged e (stage_of s x)

abbrev pub header_of : List ℕ → Next
header_of t = if bytes_eq t (header_text) then Goes stage.K else Bad

abbrev pub is_header_due : CertStage → Bool
is_header_due stage.Header = true
is_header_due _ = false

-- what comes of a text after the first line
abbrev pub later_of : CertStage → List ℕ → Next
later_of s t = read_words s (line_of (parts 32 (plain t))) (is_exact t)

abbrev pub read_of : CertStage → List ℕ → Next
read_of s t = if is_header_due s then header_of t else later_of s t
