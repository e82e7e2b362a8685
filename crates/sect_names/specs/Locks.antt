-- The locks of a program, and which lock covers which.
use Rattle.std.specs.Prelude.{◌≡◌, ◌≤◌, ◌<◌, ◌+◌, ℕ, ⊤, List, [], length, slice_index_or, slice_get, Some}
use Rattle.sect_lemmas.specs.Lists.{Has}
use Rattle.sect_types.specs.{Programs.{ProgramView}, declared.expansion.action.Field.{Field}}
use Rattle.sect_types.specs.declared.declarations.types.ValueType.{ValueType}
use Rattle.sect_types.specs.{declared.declarations.types.ValueType.TheVariants.{Refers}, Sound.{type_in}}
use Rattle.sect_points.specs.declared.holders.Variable.{Variable}
use Rattle.sect_points.specs.{declared.holders.Variable.TheVariants.{Global, Local}, Paths.{PathView, var, dot}}
use Rattle.sect_points.specs.Partitions.{HasClass}
use Rattle.sect_names.specs.{declared.lock.Effect.{Effect}, declared.lock.Right.{Right}, declared.lock.Lock.{Lock}}
use Rattle.sect_names.specs.Schemes.{SchemeView}
use Rattle.sect_names.specs.declared.lock.Effect.TheVariants as effect
use Rattle.sect_names.specs.declared.lock.Right.TheVariants as right
use Rattle.sect_names.specs.declared.lock.Lock.TheVariants as lock

-- how many fields a path has
abbrev pub depth : PathView → ℕ
depth (var v) = 0
depth (dot p f) = depth p + 1

-- the variable is there
abbrev pub IsVariable : ProgramView → Variable → Type 0
IsVariable p (Global g) = g < length p.globals
IsVariable p (Local t x) = (t < length p.locals) × (x < length (slice_index_or p.locals t []))

-- the field is there
abbrev pub IsField : ProgramView → Field → Type 0
IsField p f = (ts : List ValueType) × (slice_get p.records f.of ≡ Some ts) × (f.number < length ts)

-- the variable and the fields of the path are there
abbrev pub IsPathOf : ProgramView → PathView → Type 0
IsPathOf p (var v) = IsVariable p v
IsPathOf p (dot q f) = IsPathOf p q × IsField p f

-- the variable refers to objects of record r
abbrev pub VariableTo : ProgramView → Variable → ℕ → Type 0
VariableTo p (Global g) r = slice_get p.globals g ≡ Some r
VariableTo p (Local t x) r = slice_get (slice_index_or p.locals t []) x ≡ Some (Refers r)

-- the field of that number of record q refers to objects of record r
abbrev pub FieldTo : ProgramView → ℕ → ℕ → ℕ → Type 0
FieldTo p q f r = type_in (slice_get p.records q) f ≡ Some (Refers r)

-- the path refers to objects of record r: its variable refers to some, and each field is a reference field of the
-- record that the path has reached
abbrev pub PathTo : ProgramView → PathView → ℕ → Type 0
PathTo p (var v) r = VariableTo p v r
PathTo p (dot q f) r = PathTo p q f.of × FieldTo p f.of f.number r

-- the path begins with a global, or with a local of thread t
abbrev pub IsOwn : ℕ → PathView → Type 0
IsOwn t (var (Global g)) = ⊤
IsOwn t (var (Local u x)) = u ≡ t
IsOwn t (dot p f) = IsOwn t p

-- the path has some class: it isn't always null
abbrev pub IsClassed : SchemeView → PathView → Type 0
IsClassed s p = (n : ℕ) × HasClass s.classes p n

-- a path that a section of thread t may lock: it begins with a global or a local of the thread, refers to objects, has
-- at most k fields, and has a class
pub record IsPathIn (s : SchemeView) (t : ℕ) (p : PathView) : Type 0 where
  pub own : IsOwn t p
  pub of : ℕ
  pub refers : PathTo s.program p of
  pub short : depth p ≤ s.most
  pub classed : IsClassed s p

-- a lock that a section of thread t may take: on all, on a class that is there, or on such a path
abbrev pub IsLockOf : SchemeView → ℕ → Lock → Type 0
IsLockOf s t lock.All = ⊤
IsLockOf s t (lock.Class c r) = Has s.classes.numbers c
IsLockOf s t (lock.Path p e) = IsPathIn s t p

-- writing allows reading
abbrev pub Allows : Effect → Effect → Type 0
Allows effect.Write e = ⊤
Allows effect.Read effect.Read = ⊤
Allows effect.Read effect.Write = ⊥

-- what a right over a class allows of each of its objects
abbrev pub Grants : Right → Effect → Type 0
Grants right.Write e = ⊤
Grants right.Read effect.Read = ⊤
Grants right.Read effect.Write = ⊥
Grants right.Make e = ⊥

-- the right to write objects of a class takes in the others; those to read and to make lie apart
abbrev pub Includes : Right → Right → Type 0
Includes right.Write r = ⊤
Includes right.Read right.Read = ⊤
Includes right.Read right.Write = ⊥
Includes right.Read right.Make = ⊥
Includes right.Make right.Make = ⊤
Includes right.Make right.Read = ⊥
Includes right.Make right.Write = ⊥

-- the first lock covers the second: who holds it may do all that the other allows
abbrev pub Covers : SchemeView → Lock → Lock → Type 0
Covers s lock.All l = ⊤
Covers s (lock.Path p e) lock.All = ⊥
Covers s (lock.Class c r) lock.All = ⊥
Covers s (lock.Path p e) (lock.Path q f) = (p ≡ q) × Allows e f
Covers s (lock.Class c r) (lock.Path q f) = HasClass s.classes q c × Grants r f
Covers s (lock.Class c r) (lock.Class d q) = (c ≡ d) × Includes r q
Covers s (lock.Path p e) (lock.Class d q) = ⊥

-- some lock of the list covers it
abbrev pub CoveredBy : SchemeView → List Lock → Lock → Type 0
CoveredBy s locks l = (big : Lock) × Has locks big × Covers s big l

-- covering is a partial order
pub record IsCoverOrder (s : SchemeView) : Type 0 where
  pub itself : (l : Lock) → Covers s l l
  pub along : (x y z : Lock) → Covers s x y → Covers s y z → Covers s x z
  pub back : (x y : Lock) → Covers s x y → Covers s y x → x ≡ y

-- another lock with this property covers it
abbrev pub IsOutdone : SchemeView → (Lock → Type 0) → Lock → Type 0
IsOutdone s Given l = (big : Lock) × Given big × Covers s big l × (big ≡ l → ⊥)
