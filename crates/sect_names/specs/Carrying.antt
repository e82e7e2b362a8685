-- What a statement needs of itself, and what is needed before it for what is needed after it.
use Rattle.std.specs.Prelude.{◌≡◌, ◌≤◌, ◌<◌, ℕ, ◌⊎◌, Option, Some, None, slice_get}
use Rattle.sect_types.specs.{declared.expansion.action.Field.{Field}, declared.expansion.action.Value.{Value}}
use Rattle.sect_types.specs.{declared.expansion.action.Action.{Action}, declared.expansion.action.Label.{Label}}
use Rattle.sect_points.specs.declared.holders.Variable.{Variable}
use Rattle.sect_points.specs.{declared.holders.Variable.TheVariants.{Global, Local}, Paths.{PathView, var, dot}}
use Rattle.sect_points.specs.{Partitions.{ClassesView, HasClass}, PathClasses.{variable_of, variable_in}}
use Rattle.sect_names.specs.{declared.lock.Effect.{Effect}, declared.lock.Right.{Right}, declared.lock.Lock.{Lock}}
use Rattle.sect_names.specs.{Schemes.{SchemeView, guard_of}, Locks.{depth, IsClassed}}
use Rattle.sect_types.specs.declared.expansion.action.Value.TheVariants as value
use Rattle.sect_types.specs.declared.expansion.action.Action.TheVariants as action
use Rattle.sect_types.specs.declared.expansion.action.Label.TheVariants as label
use Rattle.sect_names.specs.declared.lock.Effect.TheVariants as effect
use Rattle.sect_names.specs.declared.lock.Right.TheVariants as right
use Rattle.sect_names.specs.declared.lock.Lock.TheVariants as lock

-- the variable whose lock stands for an object of record r that the variable v denotes
abbrev pub locked_for : Option ℕ → Variable → Variable
locked_for None v = v
locked_for (Some g) v = Global g

-- an access to the object of a variable needs the lock of that object, or of its record's guard
abbrev pub Accesses : SchemeView → Variable → ℕ → Effect → Lock → Type 0
Accesses s v r e l = IsClassed s (var v) × (l ≡ lock.Path (var (locked_for (guard_of s.guards r) v)) e)

-- making an object needs the right to make objects of its class, or to write its record's guard
abbrev pub Makes : SchemeView → Option ℕ → ℕ → Lock → Type 0
Makes s None i l = (n : ℕ) × (slice_get s.classes.numbers i ≡ Some n) × (l ≡ lock.Class n right.Make)
Makes s (Some g) i l = l ≡ lock.Path (var (Global g)) effect.Write

-- what a statement of thread t needs of itself
abbrev pub GeneratedBy : SchemeView → ℕ → Action → Lock → Type 0
GeneratedBy s t (action.Assign x v) l = ⊥
GeneratedBy s t (action.Compute x v o w) l = ⊥
GeneratedBy s t (action.New x r i) l = Makes s (guard_of s.guards r) i l
GeneratedBy s t (action.Load x b f) l = Accesses s (variable_of t b) f.of effect.Read l
GeneratedBy s t (action.Store b f v) l = Accesses s (variable_of t b) f.of effect.Write l
GeneratedBy s t (action.Print v) l = ⊥

abbrev pub Generated : SchemeView → ℕ → Label → Lock → Type 0
Generated s t (label.Act a) l = GeneratedBy s t a l
Generated s t (label.Test c) l = ⊥
Generated s t (label.Section i) l = ⊥

-- q is the path p with this in place of the base x; where nothing takes its place, a path with that base is none
abbrev pub Replaced : Variable → Option PathView → PathView → PathView → Type 0
Replaced x source (var v) q = ((v ≡ x) × (source ≡ Some q)) ⊎ ((v ≡ x → ⊥) × (q ≡ var v))
Replaced x source (dot p f) q = (r : PathView) × Replaced x source p r × (q ≡ dot r f)

-- both have a class, and it is one
abbrev pub AreOfOneClass : ClassesView → PathView → PathView → Type 0
AreOfOneClass c p q = (n : ℕ) × HasClass c p n × HasClass c q n

-- q is r with the field g more, unless it is `z.f` itself
abbrev pub GoesOn : Variable → Field → Field → PathView → PathView → Type 0
GoesOn z f g r q = ((g ≡ f) × (r ≡ var z) → ⊥) × (q ≡ dot r g)

-- q may denote before the store `z.f = w` what p denotes after it: a variable stays, a field of a path is that field of
-- what may denote the path, and the field f of what z may denote is w
abbrev pub BeforeStore : ClassesView → Variable → Field → Option Variable → PathView → PathView → Type 0
BeforeStore c z f w (var v) q = q ≡ var v
BeforeStore c z f w (dot p g) q =
    ((r : PathView) × BeforeStore c z f w p r × GoesOn z f g r q)
    ⊎ ((g ≡ f) × AreOfOneClass c p (var z) × ((v : Variable) × (w ≡ Some v) × (q ≡ var v)))

-- q may denote before `x = value` what p denotes after it
abbrev pub BeforeAssignment : ℕ → ℕ → Value → PathView → PathView → Type 0
BeforeAssignment t x (value.Number n) p q = q ≡ p
BeforeAssignment t x value.Null p q = Replaced (Local t x) None p q
BeforeAssignment t x (value.Local y) p q = Replaced (Local t x) (Some (var (Local t y))) p q
BeforeAssignment t x (value.Global g) p q = Replaced (Local t x) (Some (var (Global g))) p q

-- q may denote before the statement what p denotes after it
abbrev pub BeforeAction : ClassesView → ℕ → Action → PathView → PathView → Type 0
BeforeAction c t (action.Assign x v) p q = BeforeAssignment t x v p q
BeforeAction c t (action.Compute x v o w) p q = q ≡ p
BeforeAction c t (action.New x r i) p q = Replaced (Local t x) None p q
BeforeAction c t (action.Load x b f) p q = Replaced (Local t x) (Some (dot (var (variable_of t b)) f)) p q
BeforeAction c t (action.Store b f v) p q = BeforeStore c (variable_of t b) f (variable_in t v) p q
BeforeAction c t (action.Print v) p q = q ≡ p

abbrev pub Before : ClassesView → ℕ → Label → PathView → PathView → Type 0
Before c t (label.Act a) p q = BeforeAction c t a p q
Before c t (label.Test d) p q = q ≡ p
Before c t (label.Section i) p q = q ≡ p

-- the right over a class that an effect asks for
abbrev pub right_for : Effect → Right
right_for effect.Read = right.Read
right_for effect.Write = right.Write

-- the lock on a path: that of its class where the path has more than k fields, and none where it has no class
abbrev pub LockOn : SchemeView → Effect → PathView → Lock → Type 0
LockOn s e p l =
    (n : ℕ) × HasClass s.classes p n
    × (((depth p ≤ s.most) × (l ≡ lock.Path p e)) ⊎ ((s.most < depth p) × (l ≡ lock.Class n (right_for e))))

-- what is needed before the step, in thread t, where the first lock is needed after it
abbrev pub CarriedBack : SchemeView → ℕ → Label → Lock → Lock → Type 0
CarriedBack s t step lock.All l = l ≡ lock.All
CarriedBack s t step (lock.Class c r) l = l ≡ lock.Class c r
CarriedBack s t step (lock.Path p e) l = (q : PathView) × Before s.classes t step p q × LockOn s e q l
