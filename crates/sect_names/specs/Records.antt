-- Sets, classes and carried paths agree with the records of the declarations.
use Rattle.std.specs.Prelude.{◌≡◌, ⊤, ℕ, Some, None, length, slice_get}
use Rattle.sect_types.specs.{Programs.{ProgramView, sites_of}, Sections.{AllSited}, Sound.{AreSound}}
use Rattle.sect_types.specs.declared.expansion.action.Label.{Label}
use Rattle.sect_points.specs.{declared.holders.Holder.TheVariants.{Local, Slot}, Paths.{PathView, PathHas}}
use Rattle.sect_points.specs.Sets.{InSets}
use Rattle.sect_names.specs.{declared.lock.Lock.{Lock}, Schemes.{SchemeView, guard_of}}
use Rattle.sect_names.specs.{Locks.{VariableTo, FieldTo, PathTo, IsOwn}, Carrying.{Before}}
use Rattle.sect_points.specs.declared.holders.Variable.TheVariants as variable
use Rattle.sect_names.specs.declared.lock.Lock.TheVariants as lock

-- the texts agree with the declarations, and sites are numbered in text order
pub record IsTypedProgram (p : ProgramView) : Type 0 where
  pub sound : AreSound p.records p.globals p.locals p.texts
  pub sited : AllSited (length p.globals) p.texts

-- the objects of the site are of record r
abbrev pub SiteOf : ProgramView → ℕ → ℕ → Type 0
SiteOf p site r = slice_get (sites_of p.globals p.texts) site ≡ Some r

-- each site in a local's set is of the local's record
abbrev pub LocalsFit : SchemeView → Type 0
LocalsFit s =
    (t x site : ℕ) → InSets s.classes.sets (Local t x) site
    → (r : ℕ) × VariableTo s.program (variable.Local t x) r × SiteOf s.program site r

-- each site in the set of a field of a site is of the field's record
abbrev pub FieldsFit : SchemeView → Type 0
FieldsFit s =
    (o f site : ℕ) → InSets s.classes.sets (Slot o f) site
    → (q r : ℕ) × SiteOf s.program o q × FieldTo s.program q f r × SiteOf s.program site r

-- each site of a path that refers to objects is of their record
abbrev pub PathsFit : SchemeView → Type 0
PathsFit s =
    (p : PathView) (r site : ℕ) → PathTo s.program p r → PathHas (InSets s.classes.sets) p site
    → SiteOf s.program site r

-- the sites of a class have one record
abbrev pub ClassesHaveOneRecord : SchemeView → Type 0
ClassesHaveOneRecord s =
    (a b n q r : ℕ) → slice_get s.classes.numbers a ≡ Some n → slice_get s.classes.numbers b ≡ Some n
    → SiteOf s.program a q → SiteOf s.program b r → q ≡ r

-- what may denote before the step what a path denotes after it refers to objects of the same record
abbrev pub KeepsItsRecord : SchemeView → ℕ → Label → Type 0
KeepsItsRecord s t step =
    (p q : PathView) (r : ℕ) → Before s.classes t step p q → PathTo s.program p r → PathTo s.program q r

-- a lock that thread t may come to need: on all, on a class, or on a path that begins with a global or a local of the
-- thread and refers to objects whose record nothing guards
abbrev pub IsNeedable : SchemeView → ℕ → Lock → Type 0
IsNeedable s t lock.All = ⊤
IsNeedable s t (lock.Class c r) = ⊤
IsNeedable s t (lock.Path p e) = IsOwn t p × ((r : ℕ) × PathTo s.program p r × (guard_of s.guards r ≡ None))
