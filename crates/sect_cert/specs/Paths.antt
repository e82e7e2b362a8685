-- The words that spell paths.
use Rattle.std.specs.{Prelude.{ℕ, List, ◌∷◌, ◌++◌}, Fmt.{decimal}, List.{join_with_byte}}
use Rattle.sect_cert.specs.{declared.lock.CertBase.{CertBase}, declared.lock.CertPath.{CertPath}}
use Rattle.sect_cert.specs.declared.lock.CertBase.TheVariants as base

-- a base: its name, and behind `#` the number of a call
abbrev pub base_text : CertBase → List ℕ
base_text (base.Name name) = name
base_text (base.InCall name call) = name ++ 35 ∷ decimal call

-- a path: its base and its fields, joined by points
abbrev pub path_parts : CertPath → List (List ℕ)
path_parts p = base_text p.base ∷ p.fields

abbrev pub path_text : CertPath → List ℕ
path_text p = join_with_byte 46 (path_parts p)
