-- The parts of a certificate.
use Rattle.std.specs.Prelude.{ℕ, ◌-◌, Bool, true, nat_lt, List, length, slice_get, Option, Some, None}
use Rattle.sect_cert.specs.{declared.lock.CertBase.{CertBase}, declared.lock.CertPath.{CertPath}}
use Rattle.sect_cert.specs.{declared.lock.CertLock.{CertLock}, declared.certificate.CertStep.{CertStep}}
use Rattle.sect_cert.specs.{declared.certificate.CertChain.{CertChain}, declared.certificate.CertSection.{CertSection}}
use Rattle.sect_cert.specs.declared.certificate.Cert.{Cert}

abbrev pub path_with : CertBase → List (List ℕ) → CertPath
path_with base fields = record { base = base; fields = fields }

abbrev pub step_with : ℕ → CertLock → CertStep
step_with node lock = record { node = node; lock = lock }

abbrev pub chain_with : ℕ → List CertStep → CertChain
chain_with lock steps = record { lock = lock; steps = steps }

abbrev pub section_with : List (List CertLock) → List CertLock → List CertChain → CertSection
section_with nodes entry chains = record { nodes = nodes; entry = entry; chains = chains }

abbrev pub cert_with : ℕ → List CertSection → Cert
cert_with k sections = record { k = k; sections = sections }

abbrev pub is_past : Option CertChain → ℕ → Bool
is_past None number = true
is_past (Some c) number = nat_lt c.lock number

-- a chain of this number may come after these
abbrev pub is_rising : List CertChain → ℕ → Bool
is_rising chains number = is_past (slice_get chains (length chains - 1)) number
