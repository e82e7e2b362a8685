-- The answers of the checker to bytes.
use Rattle.std.proofs.Common.{◌≡◌, ℕ, List, Result, Ok, Err, IfOk, IsErrAnd, refl, sym, ◌∙◌, subst, arith}
use Rattle.std.specs.Prelude.{IsOkUnless}
use Rattle.sect_names.specs.{Schemes.{SchemeView}, Sources.{IsAccepted, IsDue}}
use Rattle.sect_names.specs.declared.refusal.SourceRefusal.{SourceRefusal}
use Rattle.sect_cert.specs.{declared.certificate.Cert.{Cert}, declared.fault.CertFault.{CertFault}}
use Rattle.sect_cert.specs.Texts.{HasText, certificate_text}
use Rattle.sect_check.specs.{declared.fault.CheckFault.{CheckFault}, Valid.{IsValid, AreEntriesLeast}}
use Rattle.sect_check.specs.Verdicts.{of_source, of_text, IsRead, Judges}
use Rattle.sect_check.specs.steps.Parts.{JudgesCert}
use Rattle.sect_check.proofs.Least.{entries_least}
use Rattle.sect_names.specs.declared.refusal.SourceRefusal.TheVariants as refusal
use Rattle.sect_cert.specs.declared.fault.CertFault.TheVariants as text
use Rattle.sect_cert.specs.Verdicts as texts
use Rattle.sect_check.specs.declared.fault.CheckFault.TheVariants as fault

module _ (A : Type 0) (source : List ℕ) (k : ℕ) (bytes : List ℕ) where
  -- an answer that passes on a fault that is judged is judged
  passed : (r : Result A CheckFault) (f : CheckFault) → IsErrAnd r (λ x. x ≡ f) → Judges {A = A} source k bytes (Err f)
      → Judges source k bytes r
  passed (Ok x) f is h = absurd is
  passed (Err x) f is h = subst (λ z. Judges {A = A} source k bytes (Err z)) (sym is) h

  -- a refusal of the source that is due is the fault
  source_judged : (f : SourceRefusal) → IsDue source k f → Judges {A = A} source k bytes (Err (of_source f))
  source_judged refusal.Memory h = h.0
  source_judged (refusal.Front x) h = (λ e. cc, h)
  source_judged (refusal.Types x) h = (λ e. cc, h)
  source_judged (refusal.Scheme x) h = (λ e. cc, h)

  -- so is the answer that passes it on
  pub source_refused : (r : Result A CheckFault) (f : SourceRefusal) → IsErrAnd r (λ x. x ≡ of_source f)
      → IsDue source k f
      → Judges source k bytes r
  source_refused r f is h = passed r (of_source f) is (source_judged f h)

  module _ (s : SchemeView) (accepted : IsAccepted source k s) where
    -- a fault of the certificate's text is the fault, where the source is accepted
    text_judged : (f : CertFault) → texts.Judges bytes (Err f) → Judges {A = A} source k bytes (Err (of_text f))
    text_judged text.Memory h = omega (arith, accepted.most, accepted.scheme.most)
    text_judged (text.BadCertLine n) h = ((s, accepted), λ e. cc, h)
    text_judged (text.CertEnd n) h = ((s, accepted), λ e. cc, h)
    text_judged (text.NotCanonical n) h = ((s, accepted), λ e. cc, h)
    text_judged text.OldVersion h = ((s, accepted), λ e. cc, h)

    -- so is the answer that passes it on
    pub text_refused : (r : Result A CheckFault) (f : CertFault) → IsErrAnd r (λ x. x ≡ of_text f)
        → texts.Judges bytes (Err f) → Judges source k bytes r
    text_refused r f is h = passed r (of_text f) is (text_judged f h)

    module _ (c : Cert) (has : HasText c) (is : bytes ≡ certificate_text c) where
      -- what holds of the certificate that was read
      read_so : (P : SchemeView → Cert → Type 0) → P s c → IsRead source k bytes P
      read_so P h = record { s = s; accepted = accepted; cert = c; text = has; spelled = is; holds = h }

      -- the verdict on that certificate is the answer
      pub cert_judged : (r : Result A CheckFault) → JudgesCert s c r → Judges source k bytes r
      cert_judged (Ok x) h = read_so IsValid h
      cert_judged (Err fault.Memory) h = omega (arith, accepted.most, accepted.scheme.most)
      cert_judged (Err (fault.Source x)) h = absurd h
      cert_judged (Err (fault.Text x)) h = absurd h
      cert_judged (Err fault.WrongProgram) h =
          record { s = s; accepted = accepted; cert = c; text = has; spelled = is; holds = h }
      cert_judged (Err (fault.NotGenerated i j)) h =
          record { s = s; accepted = accepted; cert = c; text = has; spelled = is; holds = h }
      cert_judged (Err (fault.NotCarried i j l)) h =
          record { s = s; accepted = accepted; cert = c; text = has; spelled = is; holds = h }
      cert_judged (Err (fault.EntryNotCovered i)) h =
          record { s = s; accepted = accepted; cert = c; text = has; spelled = is; holds = h }
      cert_judged (Err (fault.NotMaximal i)) h =
          record { s = s; accepted = accepted; cert = c; text = has; spelled = is; holds = h }
      cert_judged (Err (fault.NoChain i n)) h =
          record { s = s; accepted = accepted; cert = c; text = has; spelled = is; holds = h }
      cert_judged (Err (fault.BrokenChain i n j)) h =
          record { s = s; accepted = accepted; cert = c; text = has; spelled = is; holds = h }

      -- the entry lists of a certificate that isn't refused are least
      pub cert_least : (r : Result A CheckFault) → JudgesCert s c r
          → IfOk r (λ _. IsRead source k bytes AreEntriesLeast)
      cert_least (Ok x) h = read_so AreEntriesLeast (entries_least s accepted.scheme c h)
      cert_least (Err f) h = tt

-- a refusal for want of memory alone is the answer's
pub only_memory : {A : Type 0} (r : Result A CheckFault) (f : CheckFault) → IsErrAnd r (λ x. x ≡ f) → f ≡ fault.Memory
    → IsOkUnless r fault.Memory
only_memory (Ok x) f is memory = tt
only_memory (Err x) f is memory = is ∙ memory

-- the text of a certificate is refused for want of memory alone
pub text_given : (c : Cert) (f : CertFault) → texts.Gives c (Err f) → of_text f ≡ fault.Memory
text_given c text.Memory g = refl
text_given c (text.BadCertLine n) g = absurd g
text_given c (text.CertEnd n) g = absurd g
text_given c (text.NotCanonical n) g = absurd g
text_given c text.OldVersion g = absurd g
