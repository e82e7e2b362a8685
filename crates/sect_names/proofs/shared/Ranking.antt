-- The derived order of locks is the canonical one.
use Rattle.std.proofs.Common.{◌≡◌, ◌↔◌, ◌⊎◌, inl, inr, List, [], ◌∷◌, refl, sym, ap, ◌∙◌, subst, rules, arith}
use Rattle.std.proofs.{Common.{true≢false, Less, Equal, Greater}, lemmas.Map.Keys.{sorted_tail}}
use Rattle.std.proofs.{lemmas.Map.Views.{All-after_first}, lemmas.List.Elements.{All-get_or, All-tail}}
use Rattle.std.specs.{declared.cmp.Ordering.{Ordering}, Ordering.{ordering_then, is_eq, is_lt}}
use Rattle.std.specs.{Cmp.Lexicographic.{slice_cmp}, List.{All}, List.Sorted.{IsStrictlySortedBy}}
use Rattle.std.specs.BTreeSet.{insert_key}
use Rattle.sect_lemmas.specs.Lists.{Has}
use Rattle.sect_types.specs.declared.expansion.action.Field.{Field}
use Rattle.sect_types.specs.contracts.expansion.action.FieldOrd.TheImpl.{ghosts as the_field_order}
use Rattle.sect_types.specs.contracts.expansion.action.FieldOrd.TheImpl.Laws.{matches_eq-law as the_field_ties}
use Rattle.sect_points.specs.declared.holders.Variable.{Variable}
use Rattle.sect_points.specs.declared.holders.Variable.TheVariants.{Global, Local}
use Rattle.sect_points.specs.contracts.holders.VariableOrd.TheImpl.{ghosts as the_variable_order}
use Rattle.sect_points.specs.contracts.holders.VariableOrd.TheImpl.Laws.{matches_eq-law as the_variable_ties}
use Rattle.sect_points.specs.Paths.{PathView, base_of, fields_of}
use Rattle.sect_names.specs.{declared.lock.Lock.{Lock}, contracts.lock.LockOrd.TheImpl.{ghosts as the_lock_order}}
use Rattle.sect_names.specs.contracts.lock.LockOrd.TheImpl.Laws.{matches_eq-law as the_lock_ties}
use Rattle.sect_names.specs.Comparing.{path_cmp, path_ties}
use Rattle.sect_names.specs.Order.{VariableBefore, FieldBefore, FieldsBefore, PathBefore, LockBefore, AreInOrder}
use Rattle.sect_names.proofs.shared.Telling.{variable_tells, field_tells, path_tells, lock_tells}
use Rattle.sect_lemmas.proofs.Inserting.{put_key}
use Rattle.sect_names.specs.declared.lock.Effect.TheVariants as effect
use Rattle.sect_names.specs.declared.lock.Right.TheVariants as right
use Rattle.sect_names.specs.declared.lock.Lock.TheVariants as lock

then_less : (a b : Ordering) → ordering_then a b ≡ Less → (a ≡ Less) ⊎ ((a ≡ Equal) × (b ≡ Less))
then_less Less b e = inl refl
then_less Equal b e = inr (refl, e)
then_less Greater b e = absurd (true≢false (sym (ap is_lt e)))

variable_before : (v w : Variable) → the_variable_order.cmp v w ≡ Less → VariableBefore v w
variable_before (Global g) (Global h) e = search rules
variable_before (Global g) (Local t x) e = tt
variable_before (Local t x) (Global h) e = absurd (true≢false (sym (ap is_lt e)))
variable_before (Local t x) (Local u y) e = search rules

variable_level : (v w : Variable) → the_variable_order.cmp v w ≡ Equal → v ≡ w
variable_level v w e = (variable_tells v w).0 (the_variable_ties v w ∙ ap is_eq e)

field_before : (f g : Field) → the_field_order.cmp f g ≡ Less → FieldBefore f g
field_before f g e = search rules

field_level : (f g : Field) → the_field_order.cmp f g ≡ Equal → f ≡ g
field_level f g e = (field_tells f g).0 (the_field_ties f g ∙ ap is_eq e)

fields_before : (fs gs : List Field) → slice_cmp the_field_order.cmp fs gs ≡ Less → FieldsBefore fs gs
fields_before [] [] e = absurd (true≢false (sym (ap is_lt e)))
fields_before [] (g ∷ gs) e = tt
fields_before (f ∷ fs) [] e = absurd (true≢false (sym (ap is_lt e)))
fields_before (f ∷ fs) (g ∷ gs) e = elim (then_less (the_field_order.cmp f g) (slice_cmp the_field_order.cmp fs gs) e) [
  | inl a ↦ inl (field_before f g a)
  | inr b ↦ inr (field_level f g b.0, fields_before fs gs b.1)
]

path_before : (p q : PathView) → path_cmp p q ≡ Less → PathBefore p q
path_before p q e = elim (then_less (the_variable_order.cmp (base_of p) (base_of q))
    (slice_cmp the_field_order.cmp (fields_of p) (fields_of q)) e) [
      | inl a ↦ inl (variable_before (base_of p) (base_of q) a)
      | inr b ↦ inr (variable_level (base_of p) (base_of q) b.0, fields_before (fields_of p) (fields_of q) b.1)
    ]

path_level : (p q : PathView) → path_cmp p q ≡ Equal → p ≡ q
path_level p q e = (path_tells p q).0 (path_ties p q ∙ ap is_eq e)

pub lock_before : (l m : Lock) → the_lock_order.cmp l m ≡ Less → LockBefore l m
lock_before lock.All lock.All h = absurd (true≢false (sym (ap is_lt h)))
lock_before lock.All (lock.Class d q) h = tt
lock_before lock.All (lock.Path q f) h = tt
lock_before (lock.Class c r) lock.All h = absurd (true≢false (sym (ap is_lt h)))
lock_before (lock.Path p e) lock.All h = absurd (true≢false (sym (ap is_lt h)))
lock_before (lock.Class c right.Read) (lock.Class d right.Read) e = search rules
lock_before (lock.Class c right.Read) (lock.Class d right.Write) e = search rules
lock_before (lock.Class c right.Read) (lock.Class d right.Make) e = search rules
lock_before (lock.Class c right.Write) (lock.Class d right.Read) e = search rules
lock_before (lock.Class c right.Write) (lock.Class d right.Write) e = search rules
lock_before (lock.Class c right.Write) (lock.Class d right.Make) e = search rules
lock_before (lock.Class c right.Make) (lock.Class d right.Read) e = search rules
lock_before (lock.Class c right.Make) (lock.Class d right.Write) e = search rules
lock_before (lock.Class c right.Make) (lock.Class d right.Make) e = search rules
lock_before (lock.Class c r) (lock.Path q f) e = tt
lock_before (lock.Path p e) (lock.Class d q) h = absurd (true≢false (sym (ap is_lt h)))
lock_before (lock.Path p effect.Read) (lock.Path q effect.Read) h =
    elim (then_less (path_cmp p q) Equal h)
    [ inl a ↦ inl (path_before p q a) | inr b ↦ absurd (true≢false (sym (ap is_lt b.1))) ]
lock_before (lock.Path p effect.Read) (lock.Path q effect.Write) h =
    elim (then_less (path_cmp p q) Less h) [ inl a ↦ inl (path_before p q a) | inr b ↦ inr (path_level p q b.0, tt) ]
lock_before (lock.Path p effect.Write) (lock.Path q effect.Read) h =
    elim (then_less (path_cmp p q) Greater h)
    [ inl a ↦ inl (path_before p q a) | inr b ↦ absurd (true≢false (sym (ap is_lt b.1))) ]
lock_before (lock.Path p effect.Write) (lock.Path q effect.Write) h =
    elim (then_less (path_cmp p q) Equal h)
    [ inl a ↦ inl (path_before p q a) | inr b ↦ absurd (true≢false (sym (ap is_lt b.1))) ]

pub lock_level : (l m : Lock) → the_lock_order.cmp l m ≡ Equal → l ≡ m
lock_level l m e = (lock_tells l m).0 (the_lock_ties l m ∙ ap is_eq e)

all_has : {X : Type 0} (P : X → Type 0) (xs : List X) → All P xs → (x : X) → Has xs x → P x
all_has P [] a x h = absurd h
all_has P (y ∷ ys) a x h = elim h
    [ inl e ↦ subst P e (All-get_or P (y ∷ ys) 0 y (omega arith) a) | inr k ↦ all_has P ys (All-tail P y ys a) x k ]

-- what is strictly sorted is in canonical order
pub in_order : (locks : List Lock) → IsStrictlySortedBy the_lock_order.cmp locks → AreInOrder locks
in_order [] s = tt
in_order (l ∷ locks) s = (
  λ m h. lock_before l m
      (all_has (λ y. the_lock_order.cmp l y ≡ Less) locks (All-after_first the_lock_order.cmp l locks s) m h),
  in_order locks (sorted_tail the_lock_order.cmp l locks s),
)

-- a lock that is put into a sorted list is there beside the others
pub put_has : (locks : List Lock) (l m : Lock) → Has (insert_key the_lock_order.cmp locks l) m ↔ (Has locks m ⊎ (m ≡ l))
put_has = put_key the_lock_order.cmp lock_level
