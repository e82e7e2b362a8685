-- What the names of a certificate stand for in a program.
use Rattle.std.specs.Prelude.{◌≡◌, ℕ, List, [], ◌∷◌, Option, Some, None, slice_get, slice_index_or, option_and_then}
use Rattle.std.specs.Option.{option_map}
use Rattle.sect_front.specs.TreeView.{TreeView}
use Rattle.sect_types.specs.{Sight.{place, names_of_globals, all_fields}, Programs.{ProgramView}}
use Rattle.sect_types.specs.{declared.expansion.action.Field.{Field}, declared.declarations.types.ValueType.{ValueType}}
use Rattle.sect_types.specs.declared.declarations.types.ValueType.TheVariants.{Int, Refers}
use Rattle.sect_types.specs.declared.declarations.local_name.LocalName.{LocalName}
use Rattle.sect_types.specs.LocalNames.{all_local_names, place_of_local}
use Rattle.sect_points.specs.declared.holders.Variable.{Variable}
use Rattle.sect_points.specs.{declared.holders.Variable.TheVariants.{Global, Local}, Paths.{PathView, var, dot}}
use Rattle.sect_names.specs.{declared.lock.Lock.{Lock}, Schemes.{SchemeView}, Locks.{IsLockOf}}
use Rattle.sect_names.specs.Printing.{global_name, local_at}
use Rattle.sect_cert.specs.{declared.lock.CertBase.{CertBase}, declared.lock.CertPath.{CertPath}}
use Rattle.sect_cert.specs.declared.lock.CertLock.{CertLock}
use Rattle.sect_names.specs.declared.lock.Effect.TheVariants as effect
use Rattle.sect_names.specs.declared.lock.Right.TheVariants as right
use Rattle.sect_names.specs.declared.lock.Lock.TheVariants as lock
use Rattle.sect_cert.specs.declared.lock.CertBase.TheVariants as base
use Rattle.sect_cert.specs.declared.lock.CertLock.TheVariants as named

abbrev pub local_named : TreeView → ℕ → LocalName → Option Variable
local_named p t x = option_map (λ i. Local t i) (place_of_local x (slice_index_or (all_local_names p) t []))

abbrev pub global_named : TreeView → List ℕ → Option Variable
global_named p x = option_map (λ g. Global g) (place x (names_of_globals p.globals))

abbrev pub or_variable : Option Variable → Option Variable → Option Variable
or_variable (Some v) other = Some v
or_variable None other = other

-- the variable that a name stands for in thread t: a local, else a global
abbrev pub variable_named : TreeView → ℕ → List ℕ → Option Variable
variable_named p t x = or_variable (local_named p t (record { name = x; call = None })) (global_named p x)

-- the field of this name of record r
abbrev pub field_named : TreeView → ℕ → List ℕ → Option Field
field_named p r x =
    option_map (λ i. record { of = r; number = i }) (place x (slice_index_or (all_fields p.records) r []))

-- the record to whose objects a type refers
abbrev pub referred : ValueType → Option ℕ
referred Int = None
referred (Refers r) = Some r

-- the record to whose objects a variable refers, if it is a reference
abbrev pub record_of_variable : ProgramView → Variable → Option ℕ
record_of_variable p (Global g) = slice_get p.globals g
record_of_variable p (Local t x) = option_and_then referred (slice_get (slice_index_or p.locals t []) x)

-- the same of a field
abbrev pub record_of_field : ProgramView → Field → Option ℕ
record_of_field p f = option_and_then referred (slice_get (slice_index_or p.records f.of []) f.number)

-- the path that goes on from q, which refers to objects of this record, by the reference fields of these names
abbrev pub path_from : ProgramView → PathView → Option ℕ → List (List ℕ) → Option PathView
path_from p q None xs = None
path_from p q (Some r) [] = Some q
path_from p q (Some r) (x ∷ xs) =
    option_and_then (λ f. path_from p (dot q f) (record_of_field p f) xs) (field_named p.source r x)

-- where a path begins: at a variable of this name, or at a local of a call
abbrev pub base_named : TreeView → ℕ → CertBase → Option Variable
base_named p t (base.Name x) = variable_named p t x
base_named p t (base.InCall x c) = local_named p t (record { name = x; call = Some c })

-- the words for a local, and for a variable
abbrev pub words_of_local : List ℕ → Option ℕ → CertBase
words_of_local x None = base.Name x
words_of_local x (Some c) = base.InCall x c

abbrev pub words_of_variable : TreeView → Variable → CertBase
words_of_variable p (Global g) = base.Name (global_name p g)
words_of_variable p (Local t x) = (let l = local_at p t x in words_of_local l.name l.call)

abbrev pub path_named : ProgramView → ℕ → CertPath → Option PathView
path_named p t q =
    option_and_then (λ v. path_from p (var v) (record_of_variable p v) q.fields) (base_named p.source t q.base)

-- the lock that the words of a certificate name in thread t
abbrev pub lock_named : ProgramView → ℕ → CertLock → Option Lock
lock_named p t named.WriteAll = Some lock.All
lock_named p t (named.ReadPath q) = option_map (λ x. lock.Path x effect.Read) (path_named p t q)
lock_named p t (named.WritePath q) = option_map (λ x. lock.Path x effect.Write) (path_named p t q)
lock_named p t (named.ReadClass c) = Some (lock.Class c right.Read)
lock_named p t (named.WriteClass c) = Some (lock.Class c right.Write)
lock_named p t (named.MakeClass c) = Some (lock.Class c right.Make)

-- the words of a certificate stand for this lock, and a section of thread t may take it
abbrev pub Denotes : SchemeView → ℕ → CertLock → Lock → Type 0
Denotes s t l m = (lock_named s.program t l ≡ Some m) × IsLockOf s t m
