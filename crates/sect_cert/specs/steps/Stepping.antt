-- Steps by their nodes and their locks.
use Rattle.std.specs.Prelude.{ℕ, List, [], ◌∷◌}
use Rattle.sect_cert.specs.{declared.lock.CertLock.{CertLock}, declared.certificate.CertStep.{CertStep}}

-- the steps at these nodes with these locks
abbrev pub stepped : List ℕ → List CertLock → List CertStep
stepped [] ls = []
stepped (n ∷ ns) [] = []
stepped (n ∷ ns) (l ∷ ls) = record { node = n; lock = l } ∷ stepped ns ls
