-- The locks of a program are finitely many.
use Rattle.std.proofs.Common.{ℕ, zero, suc, ◌<◌, ◌≤◌, List, [], ◌∷◌, ◌++◌, map, length, refl, ap, inl, inr, arith}
use Rattle.std.proofs.lemmas.Option.{slice_get_within, get_or_from_slice_get}
use Rattle.std.specs.{Prelude.{slice_index_or}, List.{flat_map}}
use Rattle.sect_lemmas.specs.Lists.{Has}
use Rattle.sect_types.specs.{Programs.{ProgramView}, declared.expansion.action.Field.{Field}}
use Rattle.sect_lemmas.proofs.{Membership.{Has-left, Has-right}, Listing.{Has-map, Has-flat_map, below, Has-below}}
use Rattle.sect_points.specs.declared.holders.Variable.{Variable}
use Rattle.sect_points.specs.{declared.holders.Variable.TheVariants.{Global, Local}, Paths.{PathView, var, dot}}
use Rattle.sect_names.specs.{declared.lock.Lock.{Lock}, Schemes.{SchemeView}}
use Rattle.sect_names.specs.Locks.{depth, IsVariable, IsField, IsPathOf, IsLockOf}
use Rattle.sect_names.proofs.shared.Sounding.{path_there}
use Rattle.sect_names.specs.declared.lock.Effect.TheVariants as effect
use Rattle.sect_names.specs.declared.lock.Right.TheVariants as right
use Rattle.sect_names.specs.declared.lock.Lock.TheVariants as lock

-- the variables of a program
abbrev locals_of_thread : ProgramView → ℕ → List Variable
locals_of_thread p t = map (Local t) (below (length (slice_index_or p.locals t [])))

abbrev all_variables : ProgramView → List Variable
all_variables p = map Global (below (length p.globals)) ++ flat_map (locals_of_thread p) (below (length p.locals))

Has-variables : (p : ProgramView) (v : Variable) → IsVariable p v → Has (all_variables p) v
Has-variables p (Global g) h =
    Has-left (map Global (below (length p.globals))) (flat_map (locals_of_thread p) (below (length p.locals)))
    (Global g) (Has-map Global (below (length p.globals)) g (Has-below (length p.globals) g h))
Has-variables p (Local t x) (there, h) =
    Has-right (map Global (below (length p.globals))) (flat_map (locals_of_thread p) (below (length p.locals)))
    (Local t x)
    (Has-flat_map (locals_of_thread p) (below (length p.locals)) t (Local t x) (Has-below (length p.locals) t there)
    (Has-map (Local t) (below (length (slice_index_or p.locals t []))) x
    (Has-below (length (slice_index_or p.locals t [])) x h)))

-- the fields of its records
abbrev field_at : ℕ → ℕ → Field
field_at r n = record { of = r; number = n }

abbrev fields_of_record : ProgramView → ℕ → List Field
fields_of_record p r = map (field_at r) (below (length (slice_index_or p.records r [])))

abbrev all_fields : ProgramView → List Field
all_fields p = flat_map (fields_of_record p) (below (length p.records))

Has-fields : (p : ProgramView) (f : Field) → IsField p f → Has (all_fields p) f
Has-fields p f (ts, at, h) =
    let within : f.number < length (slice_index_or p.records f.of []) =
    omega (arith, h, ap length (get_or_from_slice_get p.records f.of ts [] at)) in
    Has-flat_map (fields_of_record p) (below (length p.records)) f.of f
    (Has-below (length p.records) f.of (slice_get_within p.records f.of ts at))
    (Has-map (field_at f.of) (below (length (slice_index_or p.records f.of []))) f.number
    (Has-below (length (slice_index_or p.records f.of [])) f.number within))

-- its paths of at most k fields
abbrev longer_by : List Field → PathView → List PathView
longer_by fields q = map (dot q) fields

abbrev all_paths : ProgramView → ℕ → List PathView
all_paths p zero = map var (all_variables p)
all_paths p (suc k) = map var (all_variables p) ++ flat_map (longer_by (all_fields p)) (all_paths p k)

Has-paths : (p : ProgramView) (k : ℕ) (q : PathView) → IsPathOf p q → depth q ≤ k → Has (all_paths p k) q
Has-paths p zero (var v) h few = Has-map var (all_variables p) v (Has-variables p v h)
Has-paths p zero (dot q f) h few = absurd (omega arith)
Has-paths p (suc k) (var v) h few =
    Has-left (map var (all_variables p)) (flat_map (longer_by (all_fields p)) (all_paths p k)) (var v)
    (Has-map var (all_variables p) v (Has-variables p v h))
Has-paths p (suc k) (dot q f) h few =
    Has-right (map var (all_variables p)) (flat_map (longer_by (all_fields p)) (all_paths p k)) (dot q f)
    (Has-flat_map (longer_by (all_fields p)) (all_paths p k) q (dot q f) (Has-paths p k q h.0 (omega arith))
    (Has-map (dot q) (all_fields p) f (Has-fields p f h.1)))

abbrev on_path : PathView → List Lock
on_path q = lock.Path q effect.Read ∷ lock.Path q effect.Write ∷ []

abbrev on_class : ℕ → List Lock
on_class c = lock.Class c right.Read ∷ lock.Class c right.Write ∷ lock.Class c right.Make ∷ []

-- the locks of the program on paths of at most k fields, and on the classes of its sites
pub all_locks : SchemeView → List Lock
all_locks s = lock.All ∷ flat_map on_path (all_paths s.program s.most) ++ flat_map on_class s.classes.numbers

on_paths : (s : SchemeView) (q : PathView) (l : Lock) → IsPathOf s.program q → depth q ≤ s.most → Has (on_path q) l
    → Has (all_locks s) l
unfolding all_locks
on_paths s q l there short h =
    inr (Has-left (flat_map on_path (all_paths s.program s.most)) (flat_map on_class s.classes.numbers) l
    (Has-flat_map on_path (all_paths s.program s.most) q l (Has-paths s.program s.most q there short) h))

on_classes : (s : SchemeView) (c : ℕ) (l : Lock) → Has s.classes.numbers c → Has (on_class c) l → Has (all_locks s) l
unfolding all_locks
on_classes s c l there h =
    inr (Has-right (flat_map on_path (all_paths s.program s.most)) (flat_map on_class s.classes.numbers) l
    (Has-flat_map on_class s.classes.numbers c l there h))

first : (s : SchemeView) → Has (all_locks s) lock.All
unfolding all_locks
first s = inl refl

pub finite_locks : (s : SchemeView) (t : ℕ) (l : Lock) → IsLockOf s t l → Has (all_locks s) l
finite_locks s t lock.All h = first s
finite_locks s t (lock.Path q effect.Read) h =
    on_paths s q (lock.Path q effect.Read) (path_there s.program q h.of h.refers) h.short (inl refl)
finite_locks s t (lock.Path q effect.Write) h =
    on_paths s q (lock.Path q effect.Write) (path_there s.program q h.of h.refers) h.short (inr (inl refl))
finite_locks s t (lock.Class c right.Read) h = on_classes s c (lock.Class c right.Read) h (inl refl)
finite_locks s t (lock.Class c right.Write) h = on_classes s c (lock.Class c right.Write) h (inr (inl refl))
finite_locks s t (lock.Class c right.Make) h = on_classes s c (lock.Class c right.Make) h (inr (inr (inl refl)))
