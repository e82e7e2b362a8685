-- The end of a reading, and what reading line by line answers.
use Rattle.std.specs.Prelude.{◌≡◌, ◌≢◌, List, [], ℕ, Bool, true, false, Result, Ok, Err, ⊤, ◌⊎◌}
use Rattle.sect_cert.specs.{declared.fault.LineFault.{LineFault}, declared.fault.CertFault.{CertFault}}
use Rattle.sect_cert.specs.{declared.certificate.Cert.{Cert}, Parts.{parts}, Texts.{HasText, certificate_text}}
use Rattle.sect_cert.specs.Verdicts.{HasForm, HasNoForm, IsEndAt, IsFaultAt, IsMoreAt}
use Rattle.sect_cert.specs.declared.stage.CertStage.{CertStage}
use Rattle.sect_cert.specs.declared.fault.LineFault.TheVariants as lines
use Rattle.sect_cert.specs.declared.fault.CertFault.TheVariants as fault
use Rattle.sect_cert.specs.declared.stage.CertStage.TheVariants as stage

abbrev pub is_finished_of : CertStage → Bool
is_finished_of (stage.Finished c) = true
is_finished_of _ = false

-- the answer, by what stands behind the last line feed
abbrev pub Closes : CertStage → List ℕ → ℕ → Result Cert CertFault → Type 0
Closes s rest n (Ok c) = (s ≡ stage.Finished c) × (rest ≡ [])
Closes s rest n (Err (fault.CertEnd line)) = (line ≡ n) × (is_finished_of s ≡ false)
Closes s rest n (Err (fault.NotCanonical line)) = (line ≡ n) × (is_finished_of s ≡ true) × (rest ≢ [])
Closes s rest n (Err _) = ⊥

abbrev pub IsFaultOn : LineFault → ℕ → CertFault → Type 0
IsFaultOn lines.Memory n e = e ≡ fault.Memory
IsFaultOn lines.Bad n e = e ≡ fault.BadCertLine n
IsFaultOn lines.Odd n e = e ≡ fault.NotCanonical n

-- the answer where no version is asked for: a text of version 1 has a bad first line
abbrev pub JudgesLines : List ℕ → Result Cert CertFault → Type 0
JudgesLines bytes (Ok c) = HasText c × (bytes ≡ certificate_text c)
JudgesLines bytes (Err fault.Memory) = ⊤
JudgesLines bytes (Err fault.OldVersion) = ⊥
JudgesLines bytes (Err (fault.CertEnd n)) = IsEndAt (parts 10 bytes) n
JudgesLines bytes (Err (fault.BadCertLine n)) = IsFaultAt HasNoForm (parts 10 bytes) n
JudgesLines bytes (Err (fault.NotCanonical n)) = IsFaultAt HasForm (parts 10 bytes) n ⊎ IsMoreAt (parts 10 bytes) n
