-- Paths that were read, by their words.
use Rattle.std.specs.{Prelude.{◌≡◌, ℕ, List, Some}, List.{AllByRecursion}, Global.{Vec}}
use Rattle.sect_cert.specs.steps.Subjects.{path_of}
use Rattle.sect_cert.specs.declared.lock.CertPath.{CertPath}

-- each word is read as the path beside it
abbrev pub AreRead : List (Vec ℕ × CertPath) → Type 0
AreRead es = AllByRecursion (λ e. path_of e.0.items ≡ Some e.1) es
