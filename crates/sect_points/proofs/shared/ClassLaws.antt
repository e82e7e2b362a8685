-- What holds of the classes of paths.
use Rattle.std.proofs.Common.{◌≡◌, ℕ, ◌<◌, List, get_or, Some, refl, sym, ap, ◌∙◌, subst, arith}
use Rattle.std.proofs.lemmas.Option.{slice_get-get_or, get_or_from_slice_get}
use Rattle.std.specs.Prelude.{slice_get, slice_index}
use Rattle.sect_lemmas.specs.Lists.{Has}
use Rattle.sect_types.specs.{declared.expansion.action.Action.{Action}, declared.expansion.action.Value.{Value}}
use Rattle.sect_types.specs.{declared.expansion.action.Base.{Base}, declared.expansion.action.Field.{Field}}
use Rattle.sect_points.specs.{declared.holders.ThreadAction.{ThreadAction}, declared.holders.Variable.{Variable}}
use Rattle.sect_points.specs.declared.holders.Variable.TheVariants.{Global, Local}
use Rattle.sect_points.specs.{Flow.{Family, ValueHas, BaseHas, Moved, Within, IsClosed}, Sets.{InSets}}
use Rattle.sect_points.specs.Paths.{PathView, var, dot, VariableHas, PathHas}
use Rattle.sect_points.specs.Partitions.{ClassesView, IsParted, Together, Respects, HasClass}
use Rattle.sect_points.specs.PathClasses.{ArePathClasses, KeepsClasses, variable_of, variable_in, Agree}
use Rattle.sect_types.specs.declared.expansion.action.Action.TheVariants as action
use Rattle.sect_types.specs.declared.expansion.action.Value.TheVariants as value
use Rattle.sect_types.specs.declared.expansion.action.Base.TheVariants as base
use Rattle.sect_points.specs.declared.holders.Holder.TheVariants as holder

-- the sites of a path are together
pub path_together : (F : Family) (numbers : List ℕ) → Respects F numbers → (p : PathView) (a b : ℕ) → PathHas F p a
    → PathHas F p b → Together numbers a b
path_together F numbers r (var (Global g)) a b h k = ap (slice_index numbers) (h ∙ sym k)
path_together F numbers r (var (Local t x)) a b h k = r (holder.Local t x) (holder.Local t x) a b h k (refl, refl)
path_together F numbers r (dot p f) a b (o, h, i) (q, k, j) =
    r (holder.Slot o f.number) (holder.Slot q f.number) a b i j (refl, path_together F numbers r p o q h k)

-- sites of one number are together
one_number : (numbers : List ℕ) (a b n : ℕ) → slice_get numbers a ≡ Some n → slice_get numbers b ≡ Some n
    → Together numbers a b
one_number numbers a b n h k = get_or_from_slice_get numbers a n 0 h ∙ sym (get_or_from_slice_get numbers b n 0 k)

-- and those that are together have one
same_number : (numbers : List ℕ) (a b m n : ℕ) → slice_get numbers a ≡ Some m → slice_get numbers b ≡ Some n
    → Together numbers a b → m ≡ n
same_number numbers a b m n h k e = sym (get_or_from_slice_get numbers a m 0 h) ∙ e
    ∙ get_or_from_slice_get numbers b n 0 k

-- a path whose set has a site has a class
pub class_there : (c : ClassesView) → IsParted c → (p : PathView) (s : ℕ) → s < c.sets.sites
    → PathHas (InSets c.sets) p s → (n : ℕ) × HasClass c p n
class_there c parted p s lt h =
    (get_or c.numbers s 0, (s, h, slice_get-get_or c.numbers s 0 (omega (arith, parted.sites))))

pub one_class : (c : ClassesView) → IsParted c → (p : PathView) → Agree c p p
one_class c parted p m n (s, h, i) (r, k, j) =
    same_number c.numbers s r m n i j (path_together (InSets c.sets) c.numbers parted.finest.respects p s r h k)

pub class_down : (c : ClassesView) → IsParted c → (p : PathView) (f : Field) (n : ℕ) → HasClass c (dot p f) n
    → (m : ℕ) × HasClass c p m
class_down c parted p f n (s, (o, h, k), i) = class_there c parted p o (parted.slots o f.number s k) h

pub class_step : (c : ClassesView) → IsParted c → (p q : PathView) (f : Field) (m : ℕ) → HasClass c p m → HasClass c q m
    → Agree c (dot p f) (dot q f)
class_step c parted p q f m (x, hx, ix) (y, hy, iy) a b (s, (o, ho, ks), is) (r, (u, hu, kr), ir) =
    let respects = parted.finest.respects in
    let F = InSets c.sets in
    let bases : Together c.numbers o u =
    path_together F c.numbers respects p o x ho hx ∙ one_number c.numbers x y m ix iy
    ∙ path_together F c.numbers respects q y u hy hu in
    same_number c.numbers s r a b is ir
    (respects (holder.Slot o f.number) (holder.Slot u f.number) s r ks kr (refl, bases))

pub path_classes : (c : ClassesView) → IsParted c → ArePathClasses c
path_classes c parted = record {
  one = one_class c parted;
  down = class_down c parted;
  step = class_step c parted;
}

-- what the variable of a value has, the value has
value_has : (F : Family) (t : ℕ) (v : Value) (w : Variable) (s : ℕ) → variable_in t v ≡ Some w → VariableHas F w s
    → ValueHas F t v s
value_has F t (value.Number n) w s e h = absurd cc
value_has F t value.Null w s e h = absurd cc
value_has F t (value.Local x) w s e h = let is : Local t x ≡ w = cc in subst (λ u. VariableHas F u s) (sym is) h
value_has F t (value.Global g) w s e h = let is : Global g ≡ w = cc in subst (λ u. VariableHas F u s) (sym is) h

base_has : (F : Family) (t : ℕ) (b : Base) (s : ℕ) → VariableHas F (variable_of t b) s → BaseHas F t b s
base_has F t (base.Local x) s h = h
base_has F t (base.Global g) s h = h

-- a statement that moved what it moves keeps its class
moved_keeps : (c : ClassesView) (t : ℕ) (a : Action) → Within (Moved (InSets c.sets) t a) (InSets c.sets)
    → KeepsClasses c t a
moved_keeps c t (action.Assign x v) closed =
    λ w n named (s, h, i). (s, closed (holder.Local t x) s (refl, value_has (InSets c.sets) t v w s named h), i)
moved_keeps c t (action.Compute x v o w) closed = tt
moved_keeps c t (action.New x r i) closed = λ n at. (i, closed (holder.Local t x) i (refl, refl), at)
moved_keeps c t (action.Load x b f) closed =
    λ n (s, (o, h, k), i). (s, closed (holder.Local t x) s (refl, (o, base_has (InSets c.sets) t b o h, k)), i)
moved_keeps c t (action.Store b f v) closed = λ w m n named (o, ho, io) (s, h, i). (
  s,
  (
    o,
    ho,
    closed (holder.Slot o f.number) s
        (o, base_has (InSets c.sets) t b o ho, refl, value_has (InSets c.sets) t v w s named h),
  ),
  i,
)
moved_keeps c t (action.Print v) closed = tt

pub keeps_classes : (c : ClassesView) (list : List ThreadAction) → IsParted c → IsClosed (InSets c.sets) list
    → (p : ThreadAction) → Has list p → KeepsClasses c p.thread p.action
keeps_classes c list parted closed p h = moved_keeps c p.thread p.action (closed p h)
