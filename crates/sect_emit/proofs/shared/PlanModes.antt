-- The modes of a plan.
use Rattle.std.proofs.Common.{◌≡◌, ℕ, Bool, true, false, refl, sym, ap, ◌∙◌, subst, inl, inr, true≢false, List, [], ◌∷◌}
use Rattle.std.proofs.{Common.{Option, Some, None}, lemmas.Bool.{and_parts, false≢true}}
use Rattle.sect_lemmas.proofs.{Membership.{Has-cases, Has-left, Has-right}, Options.{some_injective}}
use Rattle.sect_lemmas.specs.Lists.{Has}
use Rattle.sect_points.specs.{Paths.{PathView}, Partitions.{HasClass}}
use Rattle.sect_names.specs.{declared.lock.Lock.{Lock}, declared.lock.Effect.{Effect}, Schemes.{SchemeView, IsScheme}}
use Rattle.sect_modes.specs.{declared.mode.Mode.{Mode}, declared.key.Key.{Key}, Mode.{is_at_least, intention_of}}
use Rattle.sect_modes.specs.declared.mode.Mode.TheVariants.{Exclusive}
use Rattle.sect_types.specs.{declared.meaning.store.ObjectName.{ObjectName}, declared.meaning.store.Datum.{Datum}}
use Rattle.sect_types.specs.{declared.meaning.store.Datum.TheVariants.{Refers}, Store.{StoreView}}
use Rattle.sect_emit.specs.declared.plan.Grip.{Grip}
use Rattle.sect_emit.specs.PlanLaws.{IsWish, Gives, IsKeptByJoins, HoldsTheWhole, BeginsWithAll}
use Rattle.sect_emit.specs.Plan.{grip, key_of, gathered, intended, object_mode, AreWishesFor, IsFixedPart, path_datum}
use Rattle.sect_emit.specs.Plan.{object_wish, object_wishes, plan_of, held_mode, is_met, meets, Ascends, class_mode}
use Rattle.sect_emit.specs.ModeTests.{is_reading_object}
use Rattle.sect_emit.proofs.Modes.{intention_join, intended_is, join_reading_object, object_mode_reads}
use Rattle.sect_emit.proofs.Plans.{fixed_wish_there, fixed_wish_all}
use Rattle.sect_emit.proofs.shared.Plans.{gathered-all, gathered_key, ascending_mode, fixed_wish_from, fixed_part_keys}
use Rattle.sect_emit.proofs.shared.Plans.{gathered_meets, object_part_keys, object_wish_from, plan_ascends}
use Rattle.sect_emit.proofs.shared.Keys.{nothing_below_all}
use Rattle.sect_points.proofs.shared.ClassLaws.{path_classes}
use Rattle.sect_names.specs.declared.lock.Lock.TheVariants as lock
use Rattle.sect_modes.specs.declared.key.Key.TheVariants as key
use Rattle.sect_types.specs.declared.meaning.store.ObjectName.TheVariants as object

-- a plan that is met is held, key by key
pub met : (held plan : List Grip) → meets held plan ≡ true → (g : Grip) → Has plan g
    → (m : Mode) × (held_mode g.key held ≡ Some m) × (is_at_least m g.mode ≡ true)
met held [] e g h = absurd h
met held (x ∷ plan) e g (inl is) =
    by (held_mode x.key held) refl (and_parts (is_met (held_mode x.key held) x.mode) (meets held plan) e).0 where
      by : (o : Option Mode) → held_mode x.key held ≡ o → is_met o x.mode ≡ true
          → (m : Mode) × (held_mode g.key held ≡ Some m) × (is_at_least m g.mode ≡ true)
      by None at e' = absurd (false≢true e')
      by (Some m) at e' = subst (λ y. (m : Mode) × (held_mode y.key held ≡ Some m) × (is_at_least m y.mode ≡ true)) is
          (m, at, e')
met held (x ∷ plan) e g (inr h) =
    met held plan (and_parts (is_met (held_mode x.key held) x.mode) (meets held plan) e).1 g h

-- each path of a lock that denotes an object has its wish
pub object_wish_there : (s : StoreView) (locals : List Datum) (locks : List Lock) (p : PathView) (e : Effect)
    (o : ObjectName) → Has locks (lock.Path p e) → path_datum s locals p ≡ Refers o
    → Has (object_wishes s locals locks) (grip (key_of o) (object_mode e))
object_wish_there s locals [] p e o h is = absurd h
object_wish_there s locals (x ∷ locks) p e o (inl same) is =
    subst (λ y. Has (object_wishes s locals (y ∷ locks)) (grip (key_of o) (object_mode e))) (sym same)
    (Has-left (object_wish (path_datum s locals p) (object_mode e)) (object_wishes s locals locks)
    (grip (key_of o) (object_mode e))
    (subst (λ d. Has (object_wish d (object_mode e)) (grip (key_of o) (object_mode e))) (sym is) (inl refl)))
object_wish_there s locals (lock.All ∷ locks) p e o (inr h) is = object_wish_there s locals locks p e o h is
object_wish_there s locals (lock.Class c r ∷ locks) p e o (inr h) is = object_wish_there s locals locks p e o h is
object_wish_there s locals (lock.Path q f ∷ locks) p e o (inr h) is =
    Has-right (object_wish (path_datum s locals q) (object_mode f)) (object_wishes s locals locks)
    (grip (key_of o) (object_mode e)) (object_wish_there s locals locks p e o h is)

-- objects with one key are one
pub key_of-injective : (o q : ObjectName) → key_of o ≡ key_of q → o ≡ q
key_of-injective (object.Global g) (object.Global h) e = ap object.Global (ap number e) where
  number : Key → ℕ
  number (key.Global n) = n
  number _ = g
key_of-injective (object.Global g) (object.Made t n) e = absurd (other e) where
  test : Key → Bool
  test (key.Made u m) = true
  test _ = false

  other : key.Global g ≡ key.Made t n → ⊥
  other e = false≢true (ap test e)
key_of-injective (object.Made t n) (object.Global h) e = absurd (other e) where
  test : Key → Bool
  test (key.Made u m) = true
  test _ = false

  other : key.Made t n ≡ key.Global h → ⊥
  other e = true≢false (ap test e)
key_of-injective (object.Made t n) (object.Made u m) e = ap (λ x. object.Made x n) (ap thread e)
    ∙ ap (object.Made u) (ap number e) where
      thread : Key → ℕ
      thread (key.Made v k) = v
      thread _ = t

      number : Key → ℕ
      number (key.Made v k) = k
      number _ = n

abbrev is_object : Key → Bool
is_object key.All = false
is_object (key.Class n) = false
is_object (key.Global g) = true
is_object (key.Made t n) = true

object_is : (o : ObjectName) → is_object (key_of o) ≡ true
object_is (object.Global g) = refl
object_is (object.Made t m) = refl

-- no object has the key of a class
pub class_or_object : (n : ℕ) (o : ObjectName) → key.Class n ≡ key_of o → ⊥
class_or_object n o e = false≢true (ap is_object e ∙ object_is o)

-- nor that of all
pub all_or_object : (o : ObjectName) → key.All ≡ key_of o → ⊥
all_or_object o e = false≢true (ap is_object e ∙ object_is o)

module _ (sch : SchemeView) (part : List Grip) (locks : List Lock) (s : StoreView) (locals : List Datum)
    (is_part : IsFixedPart sch locks part) where
  abbrev plan : List Grip
  plan = plan_of part locks s locals

  abbrev objects : List Grip
  objects = gathered (object_wishes s locals locks)

  up : Ascends plan
  up = plan_ascends sch part locks s locals is_part

  one_mode : (k : Key) (b c : Mode) → Has plan (grip k b) → Has plan (grip k c) → b ≡ c
  one_mode k b c x y = some_injective b c
      (sym (ascending_mode plan up (grip k b) x) ∙ ascending_mode plan up (grip k c) y)

  -- the fixed part has no key of an object
  none_fixed : (g : Grip) (o : ObjectName) → g.key ≡ key_of o → Has part g → ⊥
  none_fixed g o is i = elim (fixed_part_keys sch locks part is_part g i) [
    | inl e ↦ all_or_object o (sym e ∙ is)
    | inr (n, e) ↦ class_or_object n o (sym e ∙ is)
  ]

  -- and the other part no other key
  none_object : (g : Grip) (k : Key) → ((o : ObjectName) → k ≡ key_of o → ⊥) → g.key ≡ k → Has objects g → ⊥
  none_object g k other is i = let o = object_part_keys s locals locks g i in other o.0 (sym is ∙ o.1)

  object_there : (g : Grip) (o : ObjectName) → g.key ≡ key_of o → Has plan g → Has objects g
  object_there g o is h = elim (Has-cases part objects g h) [ inl i ↦ absurd (none_fixed g o is i) | inr i ↦ i ]

  -- an object of a plan is what some path lock's path denotes
  pub plan_object : (g : Grip) (o : ObjectName) → Has plan g → g.key ≡ key_of o
      → (p : PathView) × (e : Effect) × Has locks (lock.Path p e) × (path_datum s locals p ≡ Refers o)
  plan_object g o h is =
      let k = gathered_key (object_wishes s locals locks) g (object_there g o is h) in
      let f = object_wish_from s locals locks k.0 k.1 in
      (f.0, f.1, f.3, f.4 ∙ ap Refers (key_of-injective f.2 o (sym (ap (λ x. x.key) f.5) ∙ k.2 ∙ is)))

  -- its mode is S or X
  pub plan_object_mode : (g : Grip) (o : ObjectName) → Has plan g → g.key ≡ key_of o → is_reading_object g.mode ≡ true
  plan_object_mode g o h is =
      gathered-all (λ k m. is_reading_object m ≡ true) (λ k m n a b. join_reading_object m n a b)
      (object_wishes s locals locks)
      (λ x j. let f = object_wish_from s locals locks x j in
      subst (λ y. is_reading_object y.mode ≡ true) (sym f.5) (object_mode_reads f.1)) g (object_there g o is h)

  -- what a path lock asks for, the plan has
  pub plan_gives_object : (p : PathView) (e : Effect) (o : ObjectName) → Has locks (lock.Path p e)
      → path_datum s locals p ≡ Refers o
      → (m : Mode) × Has plan (grip (key_of o) m) × (is_at_least m (object_mode e) ≡ true)
  plan_gives_object p e o h is =
      let m = gathered_meets (object_wishes s locals locks) (grip (key_of o) (object_mode e))
      (object_wish_there s locals locks p e o h is) in
      (m.0, Has-right part objects (grip (key_of o) m.0) m.1, m.2)

  -- each wish of the fixed part is met in the plan
  fixed_met : (g : Grip) → Has is_part.0 g → (m : Mode) × Has plan (grip g.key m) × (is_at_least m g.mode ≡ true)
  fixed_met g i =
      let m = gathered_meets is_part.0 g i in
      (m.0, Has-left part objects (grip g.key m.0) (subst (λ xs. Has xs (grip g.key m.0)) (sym is_part.2) m.1), m.2)

  -- and what a lock asks for whatever the state
  pub plan_gives_fixed : (l : Lock) → Has locks l → (mine : List Grip) × AreWishesFor sch l mine
      × ((g : Grip) → Has mine g → (m : Mode) × Has plan (grip g.key m) × (is_at_least m g.mode ≡ true))
  plan_gives_fixed l h =
      let w = fixed_wish_there sch locks is_part.0 is_part.1 l h in
      (w.0, w.1, λ g i. fixed_met g (w.2 g i))

  -- with an object whose class is n, where the paths that denote it have no class but that, the plan has the class in
  -- at
  -- least the intention
  pub plan_holds_the_classes : (o : ObjectName) (n : ℕ)
      → ((p : PathView) (e : Effect) (c : ℕ) → Has locks (lock.Path p e) → path_datum s locals p ≡ Refers o
      → HasClass sch.classes p c → c ≡ n)
      → (m : Mode) → Has plan (grip (key_of o) m) → (b : Mode) × Has plan (grip (key.Class n) b)
      × (is_at_least b (intention_of m) ≡ true)
  plan_holds_the_classes o n one m h =
      let d = plan_object (grip (key_of o) m) o h refl in
      let b = given d.0 d.1 d.2 d.3 in (
        b.0,
        b.1,
        gathered-all (λ k a. k ≡ key_of o → is_at_least b.0 (intention_of a) ≡ true)
            (λ k a c x y e. intention_join b.0 a c (x e) (y e)) (object_wishes s locals locks)
            (each b.0 b.1) (grip (key_of o) m) (object_there (grip (key_of o) m) o refl h) refl,
      )
    where
      -- the class wish of a path that denotes the object
      given : (p : PathView) (e : Effect) → Has locks (lock.Path p e) → path_datum s locals p ≡ Refers o
          → (b : Mode) × Has plan (grip (key.Class n) b) × (is_at_least b (intended e) ≡ true)
      given p e i is =
          let w = plan_gives_fixed (lock.Path p e) i in
          let c = w.1.0 in
          let g = w.2 (grip (key.Class c) (intended e))
          (subst (λ xs. Has xs (grip (key.Class c) (intended e))) (sym w.1.2) (inr (inl refl))) in
          (g.0, subst (λ k. Has plan (grip (key.Class k) g.0)) (one p e c i is w.1.1) g.1, g.2)

      each : (b : Mode) → Has plan (grip (key.Class n) b) → (x : Grip) → Has (object_wishes s locals locks) x
          → x.key ≡ key_of o → is_at_least b (intention_of x.mode) ≡ true
      each b there x j e =
          let f = object_wish_from s locals locks x j in
          let c = given f.0 f.1 f.3 (f.4 ∙ ap Refers (key_of-injective f.2 o (sym (ap (λ y. y.key) f.5) ∙ e))) in
          subst (λ y. is_at_least b (intention_of y) ≡ true) (sym (ap (λ y. y.mode) f.5))
          (subst (λ a. is_at_least b a ≡ true) (sym (intended_is f.1))
          (subst (λ a. is_at_least a (intended f.1) ≡ true) (one_mode (key.Class n) c.0 b c.1 there) c.2))

  -- with a class the plan has `all` in at least the intention
  pub plan_holds_all : (n : ℕ) (m : Mode) → Has plan (grip (key.Class n) m) → (b : Mode) × Has plan (grip key.All b)
      × (is_at_least b (intention_of m) ≡ true)
  plan_holds_all n m h =
      let k = gathered_key is_part.0 (grip (key.Class n) m) there in
      let b = with_all k.0 n k.1 k.2 in (
        b.0,
        b.1,
        gathered-all (λ k a. k ≡ key.Class n → is_at_least b.0 (intention_of a) ≡ true)
            (λ k a c x y e. intention_join b.0 a c (x e) (y e)) is_part.0 (each b.0 b.1) (grip (key.Class n) m) there
            refl,
      )
    where
      there : Has (gathered is_part.0) (grip (key.Class n) m)
      there = elim (Has-cases part objects (grip (key.Class n) m) h) [
        | inl i ↦ subst (λ xs. Has xs (grip (key.Class n) m)) is_part.2 i
        | inr i ↦ absurd (none_object (grip (key.Class n) m) (key.Class n) (class_or_object n) refl i)
      ]

      -- a class is wished with `all`
      with_all : (x : Grip) (c : ℕ) → Has is_part.0 x → x.key ≡ key.Class c → (b : Mode) × Has plan (grip key.All b)
          × (is_at_least b (intention_of x.mode) ≡ true)
      with_all x c j e = fixed_met (grip key.All (intention_of x.mode))
          (fixed_wish_all sch locks is_part.0 is_part.1 x c e j)

      each : (b : Mode) → Has plan (grip key.All b) → (x : Grip) → Has is_part.0 x → x.key ≡ key.Class n
          → is_at_least b (intention_of x.mode) ≡ true
      each b at x j e = let c = with_all x n j e in
          subst (λ a. is_at_least a (intention_of x.mode) ≡ true) (one_mode key.All c.0 b c.1 at) c.2

  -- each lock asks for `all`
  asks_all : (l : Lock) (mine : List Grip) → AreWishesFor sch l mine → (m : Mode) × Has mine (grip key.All m)
  asks_all lock.All mine w = (Exclusive, subst (λ xs. Has xs (grip key.All Exclusive)) (sym w) (inl refl))
  asks_all (lock.Class d r) mine w = let m = intention_of (class_mode r) in
      (m, subst (λ xs. Has xs (grip key.All m)) (sym w) (inl refl))
  asks_all (lock.Path p e) mine w = (intended e, subst (λ xs. Has xs (grip key.All (intended e))) (sym w.2) (inl refl))

  -- the plan of a set that has a lock begins with `all`
  pub plan_begins : (l : Lock) → Has locks l → BeginsWithAll plan
  plan_begins l h =
      let w = plan_gives_fixed l h in
      let m = asks_all l w.0 w.1 in
      let a = w.2 (grip key.All m.0) m.1 in
      first plan up a.0 a.1
    where
      first : (gs : List Grip) → Ascends gs → (m : Mode) → Has gs (grip key.All m) → BeginsWithAll gs
      first [] a m i = absurd i
      first (g ∷ gs) a m (inl e) = (m, gs, ap (λ x. x ∷ gs) e)
      first (g ∷ gs) a m (inr i) = absurd (nothing_below_all g.key (a.0 (grip key.All m) i))

  -- the wishes of a lock are one list, since a path has one class
  one_list : IsScheme sch → (l : Lock) (xs ys : List Grip) → AreWishesFor sch l xs → AreWishesFor sch l ys → xs ≡ ys
  one_list scheme lock.All xs ys a b = a ∙ sym b
  one_list scheme (lock.Class d r) xs ys a b = a ∙ sym b
  one_list scheme (lock.Path p e) xs ys a b =
      a.2 ∙ ap (λ d. grip key.All (intended e) ∷ grip (key.Class d) (intended e) ∷ [])
      ((path_classes sch.classes scheme.parted).one p a.0 b.0 a.1 b.1) ∙ sym b.2

  -- each wish is met in the plan
  pub plan_meets : IsScheme sch → (g : Grip) → IsWish sch locks s locals g → Gives plan g.key g.mode
  plan_meets scheme g (inl (l, mine, h, wishes, i)) =
      let w = plan_gives_fixed l h in
      w.2 g (subst (λ xs. Has xs g) (one_list scheme l mine w.0 wishes w.1) i)
  plan_meets scheme g (inr i) =
      let m = gathered_meets (object_wishes s locals locks) g i in
      (m.0, Has-right part objects (grip g.key m.0) m.1, m.2)

  -- what passes for each wish, and is kept by joins, passes for each key of the plan
  pub plan_passes : (test : Key → Mode → Bool) → IsKeptByJoins test
      → ((g : Grip) → IsWish sch locks s locals g → test g.key g.mode ≡ true) → (g : Grip) → Has plan g
      → test g.key g.mode ≡ true
  plan_passes test joins passes g h = elim (Has-cases part objects g h) [
    | inl i ↦ gathered-all (λ k m. test k m ≡ true) joins is_part.0
        (λ x j. passes x (inl (fixed_wish_from sch locks is_part.0 is_part.1 x j))) g
        (subst (λ xs. Has xs g) is_part.2 i)
    | inr i ↦ gathered-all (λ k m. test k m ≡ true) joins (object_wishes s locals locks) (λ x j. passes x (inr j)) g i
  ]

  -- with an object the plan has its class, and with a class `all`
  pub plan_whole : HoldsTheWhole sch locks s locals plan
  plan_whole = record {
    object_modes = λ o m h. plan_object_mode (grip (key_of o) m) o h refl;
    classes = λ o n m one h. plan_holds_the_classes o n one m h;
    all = plan_holds_all;
  }
