-- The locks that accepted programs take say what they are.
use Rattle.std.proofs.Common.{◌≡◌, ◌<◌, ◌≤◌, inl, inr, ℕ, zero, suc, List, [], ◌∷◌, ◌++◌, Option, Some, None, length}
use Rattle.std.proofs.Common.{refl, sym}
use Rattle.std.proofs.Common.{ap, ◌∙◌, subst, arith, length-append, Bool, true, false, cond, get_or}
use Rattle.std.proofs.lemmas.Option.{slice_get_within, get_or_from_slice_get}
use Rattle.std.specs.{Prelude.{slice_get, slice_index_or, slice_index}}
use Rattle.sect_lemmas.specs.Lists.{Has}
use Rattle.sect_lemmas.proofs.{Places.{Has-index}}
use Rattle.sect_types.specs.{Programs.{ProgramView}, declared.expansion.action.Field.{Field}, Sound.{type_in}}
use Rattle.sect_types.specs.declared.declarations.types.ValueType.{ValueType}
use Rattle.sect_types.specs.declared.declarations.types.ValueType.TheVariants.{Int, Refers}
use Rattle.sect_points.specs.{declared.holders.Variable.{Variable}, Paths.{PathView, var, dot, base_of, fields_of}}
use Rattle.sect_points.specs.declared.holders.Variable.TheVariants.{Global, Local}
use Rattle.sect_points.specs.Partitions.{IsByLeast}
use Rattle.sect_names.specs.{declared.lock.Lock.{Lock}, Schemes.{SchemeView}}
use Rattle.sect_names.specs.Locks.{IsField, depth, PathTo, VariableTo, IsOwn, IsPathIn, IsLockOf}
use Rattle.sect_modes.specs.Key.{is_same_key, is_key_below}
use Rattle.sect_emit.specs.declared.plan.Grip.{Grip}
use Rattle.sect_emit.specs.Plan.{grip, with_grip, gathered, AreWishesFor, AreFixedWishes, IsFixedPart}
use Rattle.sect_modes.specs.Mode.{join_of}
use Rattle.sect_c.specs.Naming.{field_type, variable_type}
use Rattle.sect_c.specs.Back.{FitsVariable, Follows, FitsPath, IsShown, IsWhole, AreWhole}
use Rattle.sect_names.specs.declared.lock.Lock.TheVariants as lock

-- the number of a site's class isn't above the site's
least_below : (numbers : List ℕ) → IsByLeast numbers → (n a : ℕ) → a < n → a < length numbers
    → slice_index numbers a ≤ a
least_below numbers least zero a l m = absurd (omega arith)
least_below numbers least (suc n) a l m =
    go (slice_index numbers a) refl (λ b i j. least_below numbers least n b i j)
  where
    go : (v : ℕ) → slice_index numbers a ≡ v
        → ((b : ℕ) → b < n → b < length numbers → slice_index numbers b ≤ b) → slice_index numbers a ≤ a
    go zero e before = omega arith
    go (suc v) e before =
        let earlier = least a v m (omega arith) in
        let below = before earlier.0 (let i = earlier.1 in omega (arith, i, l))
        (let i = earlier.1 in omega (arith, i, m)) in
        let i = earlier.1 in
        let j = earlier.2 in omega (arith, below, i, j, e)

-- numbers of classes are below that of sites
class_small : (numbers : List ℕ) → IsByLeast numbers → length numbers ≤ 1024 → (s c : ℕ) → slice_get numbers s ≡ Some c
    → c < 65536
class_small numbers least few s c at =
    let l = slice_get_within numbers s c at in
    let e : get_or numbers s 0 ≡ c = get_or_from_slice_get numbers s c 0 at in
    let b = least_below numbers least (suc s) s (omega arith) l in omega (arith, b, e, l)

class_there : (numbers : List ℕ) → IsByLeast numbers → length numbers ≤ 1024 → (c : ℕ) → Has numbers c → c < 65536
class_there numbers least few c h = let i = Has-index numbers c h in class_small numbers least few i.0 c i.1

-- which type a path reaches
abbrev reached : ProgramView → ValueType → List Field → ValueType
reached p of [] = of
reached p of (f ∷ fields) = reached p (field_type p f) fields

follows_push : (p : ProgramView) (of : ValueType) (fs : List Field) (f : Field) → Follows p of fs
    → reached p of fs ≡ Refers f.of → IsField p f → Follows p of (fs ++ f ∷ [])
follows_push p of [] f h e is = subst (λ t. Follows p t (f ∷ [])) (sym e) (refl, is, tt)
follows_push p Int (g ∷ fs) f h e is = absurd h
follows_push p (Refers r) (g ∷ fs) f h e is = (h.0, h.1, follows_push p (field_type p g) fs f h.2 e is)

reached_push : (p : ProgramView) (of : ValueType) (fs : List Field) (f : Field)
    → reached p of (fs ++ f ∷ []) ≡ field_type p f
reached_push p of [] f = refl
reached_push p of (g ∷ fs) f = reached_push p (field_type p g) fs f

field_is : (p : ProgramView) (f : Field) (t : ValueType) → type_in (slice_get p.records f.of) f.number ≡ Some t
    → (field_type p f ≡ t) × IsField p f
field_is p f t h = go (slice_get p.records f.of) refl h
  where
    go : (o : Option (List ValueType)) → slice_get p.records f.of ≡ o → type_in o f.number ≡ Some t
        → (field_type p f ≡ t) × IsField p f
    go None at h = absurd cc
    go (Some ts) at h = (
      ap (λ row. get_or row f.number Int) (get_or_from_slice_get p.records f.of ts [] at)
          ∙ get_or_from_slice_get ts f.number t Int h,
      (ts, at, slice_get_within ts f.number t h),
    )

variable_is : (p : ProgramView) (v : Variable) (r : ℕ) → VariableTo p v r → variable_type p v ≡ Refers r
variable_is p (Global g) r h = ap Refers (get_or_from_slice_get p.globals g r 0 h)
variable_is p (Local t x) r h = get_or_from_slice_get (slice_index_or p.locals t []) x (Refers r) Int h

follows_of : (p : ProgramView) (q : PathView) (r : ℕ) → PathTo p q r
    → Follows p (variable_type p (base_of q)) (fields_of q)
    × (reached p (variable_type p (base_of q)) (fields_of q) ≡ Refers r)
follows_of p (var v) r h = (tt, variable_is p v r h)
follows_of p (dot q f) r h =
    let before = follows_of p q f.of h.0 in
    let is = field_is p f (Refers r) h.1 in (
      follows_push p (variable_type p (base_of q)) (fields_of q) f before.0 before.1 is.1,
      reached_push p (variable_type p (base_of q)) (fields_of q) f ∙ is.0,
    )

base_fits : (p : ProgramView) (u : ℕ) → length (slice_index_or p.locals u []) ≤ 4160 → (q : PathView) (r : ℕ)
    → IsOwn u q
    → PathTo p q r → FitsVariable p u (base_of q)
base_fits p u few (var (Global g)) r own h = slice_get_within p.globals g r h
base_fits p u few (var (Local t x)) r own h =
    let l = slice_get_within (slice_index_or p.locals t []) x (Refers r) h in
    let m : x < length (slice_index_or p.locals u []) =
    subst (λ s. x < length (slice_index_or p.locals s [])) own l in (own, omega arith, m)
base_fits p u few (dot q f) r own h = base_fits p u few q f.of own h.0

fields_short : (q : PathView) → length (fields_of q) ≡ depth q
fields_short (var v) = refl
fields_short (dot q f) = length-append (fields_of q) (f ∷ []) ∙ (let e = fields_short q in omega (arith, e))

pub path_fits : (s : SchemeView) (u : ℕ) → length (slice_index_or s.program.locals u []) ≤ 4160 → s.most ≤ 3
    → (q : PathView)
    → IsPathIn s u q → FitsPath s.program u q
path_fits s u few most q is = record {
  base = base_fits s.program u few q is.of is.own is.refers;
  fields = (follows_of s.program q is.of is.refers).0;
  short = (let e = fields_short q in let l = is.short in omega (arith, e, l));
}

-- a lock of a set has a short number
pub lock_shown : (s : SchemeView) (u : ℕ) → IsByLeast s.classes.numbers → length s.classes.numbers ≤ 1024 → (l : Lock)
    → IsLockOf s u l → IsShown l
lock_shown s u least few lock.All is = tt
lock_shown s u least few (lock.Class c r) is = class_there s.classes.numbers least few c is
lock_shown s u least few (lock.Path q e) is = tt

-- the keys of a part are whole
with_whole : (g : Grip) (hs : List Grip) → IsWhole g.key → AreWhole hs → AreWhole (with_grip g hs)
with_whole g [] a b = (a, tt)
with_whole g (h ∷ hs) a b = go (is_same_key g.key h.key) (is_key_below g.key h.key) (with_whole g hs a b.1)
  where
    go : (s t : Bool) → AreWhole (with_grip g hs)
        → AreWhole (cond s (grip h.key (join_of g.mode h.mode) ∷ hs) (cond t (g ∷ h ∷ hs) (h ∷ with_grip g hs)))
    go true t more = (b.0, b.1)
    go false true more = (a, (b.0, b.1))
    go false false more = (b.0, more)

gathered_whole : (gs : List Grip) → AreWhole gs → AreWhole (gathered gs)
gathered_whole [] h = tt
gathered_whole (g ∷ gs) h = with_whole g (gathered gs) h.0 (gathered_whole gs h.1)

both_whole : (gs hs : List Grip) → AreWhole gs → AreWhole hs → AreWhole (gs ++ hs)
both_whole [] hs a b = b
both_whole (g ∷ gs) hs a b = (a.0, both_whole gs hs a.1 b)

wishes_whole : (s : SchemeView) (u : ℕ) → IsByLeast s.classes.numbers → length s.classes.numbers ≤ 1024 → (l : Lock)
    (gs : List Grip) → IsLockOf s u l → AreWishesFor s l gs → AreWhole gs
wishes_whole s u least few lock.All gs is w = subst AreWhole (sym w) (tt, tt)
wishes_whole s u least few (lock.Class c r) gs is w =
    subst AreWhole (sym w) (tt, (class_there s.classes.numbers least few c is, tt))
wishes_whole s u least few (lock.Path q e) gs is w =
    subst AreWhole (sym w.2) (tt, (class_small s.classes.numbers least few w.1.0 w.0 w.1.2, tt))

fixed_whole : (s : SchemeView) (u : ℕ) → IsByLeast s.classes.numbers → length s.classes.numbers ≤ 1024
    → (ls : List Lock) (gs : List Grip) → ((l : Lock) → Has ls l → IsLockOf s u l) → AreFixedWishes s ls gs
    → AreWhole gs
fixed_whole s u least few [] gs lawful w = subst AreWhole (sym w) tt
fixed_whole s u least few (l ∷ ls) gs lawful w =
    subst AreWhole (sym w.2) (both_whole w.0 w.1 (wishes_whole s u least few l w.0 (lawful l (inl refl)) w.3)
    (fixed_whole s u least few ls w.1 (λ m h. lawful m (inr h)) w.4))

-- so are those of the part of a set's plan that is the same in all states
pub part_whole : (s : SchemeView) (u : ℕ) → IsByLeast s.classes.numbers → length s.classes.numbers ≤ 1024
    → (ls : List Lock) (part : List Grip) → ((l : Lock) → Has ls l → IsLockOf s u l) → IsFixedPart s ls part
    → AreWhole part
part_whole s u least few ls part lawful f =
    subst AreWhole (sym f.2) (gathered_whole f.0 (fixed_whole s u least few ls f.0 lawful f.1))
