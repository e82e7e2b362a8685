-- The mode of a lock, and what it locks, as they are read.
use Rattle.std.specs.Prelude.{ℕ, if◌then◌else◌, List, [], ◌∷◌, Option, Some, None, option_and_then, codes}
use Rattle.std.specs.{Option.{option_map}, Str.{bytes_eq}, List.{list_all}}
use Rattle.sect_front.specs.Words.{is_name}
use Rattle.sect_cert.specs.{Parts.{parts}, declared.lock.CertBase.{CertBase}, declared.lock.CertPath.{CertPath}}
use Rattle.sect_cert.specs.{declared.lock.CertLock.{CertLock}, declared.subject.CertMode.{CertMode}}
use Rattle.sect_cert.specs.steps.{Certificates.{path_with}, Numbers.{number_of}}
use Rattle.sect_cert.specs.declared.lock.CertBase.TheVariants as base
use Rattle.sect_cert.specs.declared.lock.CertLock.TheVariants as lock
use Rattle.sect_cert.specs.declared.subject.CertMode.TheVariants as mode

-- the mode that a word is
abbrev pub mode_of : List ℕ → Option CertMode
mode_of w =
    if bytes_eq w (codes "R") then Some mode.Read else (
    if bytes_eq w (codes "W") then Some mode.Write else (
    if bytes_eq w (codes "M") then Some mode.Make else None))

-- the base of a name, or of a name and a number
abbrev pub base_at : List (List ℕ) → Option CertBase
base_at (name ∷ []) = if is_name name then Some (base.Name name) else None
base_at (name ∷ call ∷ []) = if is_name name then option_map (λ n. base.InCall name n) (number_of call) else None
base_at _ = None

-- the base that a word is
abbrev pub base_of : List ℕ → Option CertBase
base_of w = base_at (parts 35 w)

-- a path of this base, where its fields are names
abbrev pub path_from : List (List ℕ) → CertBase → Option CertPath
path_from fields first = if list_all is_name fields then Some (path_with first fields) else None

-- the path of these parts
abbrev pub path_at : List (List ℕ) → Option CertPath
path_at [] = None
path_at (first ∷ fields) = option_and_then (path_from fields) (base_of first)

-- the path that a word is
abbrev pub path_of : List ℕ → Option CertPath
path_of w = path_at (parts 46 w)

-- the lock of a path in a mode
abbrev pub path_lock : CertMode → CertPath → Option CertLock
path_lock mode.Read p = Some (lock.ReadPath p)
path_lock mode.Write p = Some (lock.WritePath p)
path_lock mode.Make p = None

-- the lock of a class in a mode
abbrev pub class_lock : CertMode → ℕ → CertLock
class_lock mode.Read c = lock.ReadClass c
class_lock mode.Write c = lock.WriteClass c
class_lock mode.Make c = lock.MakeClass c

-- everything is locked to write alone
abbrev pub all_lock : CertMode → Option CertLock
all_lock mode.Read = None
all_lock mode.Write = Some lock.WriteAll
all_lock mode.Make = None

-- the lock of a mode and the word after it
abbrev pub subject_of : CertMode → List ℕ → Option CertLock
subject_of m w = if bytes_eq w (codes "all") then all_lock m else option_and_then (path_lock m) (path_of w)
