-- What a plan has.
use Rattle.std.proofs.Common.{◌≡◌, ℕ, Bool, true, false, refl, sym, ap, ◌∙◌, subst, ◌⊎◌, inl, inr, List, [], ◌∷◌, ◌++◌}
use Rattle.std.proofs.Common.{Some}
use Rattle.sect_lemmas.proofs.{Membership.{Has-cases, Has-left, Has-right}, Options.{none_or_some, some_injective}}
use Rattle.std.specs.Prelude.{if◌then◌else◌}
use Rattle.sect_lemmas.specs.Lists.{Has}
use Rattle.sect_points.specs.Paths.{PathView}
use Rattle.sect_names.specs.{declared.lock.Lock.{Lock}, declared.lock.Effect.{Effect}, Schemes.{SchemeView}}
use Rattle.sect_modes.specs.{declared.mode.Mode.{Mode}, declared.key.Key.{Key}}
use Rattle.sect_modes.specs.{Mode.{is_at_least, join_of, intention_of}, Key.{is_same_key, is_key_below}}
use Rattle.sect_types.specs.{declared.meaning.store.ObjectName.{ObjectName}, declared.meaning.store.Datum.{Datum}}
use Rattle.sect_types.specs.{declared.meaning.store.Datum.TheVariants.{Number, Null, Refers}, Store.{StoreView}}
use Rattle.sect_modes.proofs.shared.Keys.{same_key, key_itself}
use Rattle.sect_emit.specs.declared.plan.Grip.{Grip}
use Rattle.sect_emit.specs.Plan.{grip, key_of, with_grip, gathered, class_mode, intended, object_mode, AreWishesFor}
use Rattle.sect_emit.specs.Plan.{AreFixedWishes, IsFixedPart, path_datum, object_wish, object_wishes, plan_of}
use Rattle.sect_emit.specs.Plan.{held_mode, Ascends}
use Rattle.sect_emit.proofs.shared.Keys.{not_below_itself, below_along}
use Rattle.sect_emit.proofs.shared.Modes.{at_least_itself, at_least_along, join_left, join_right}
use Rattle.sect_emit.proofs.Keys.{other_above}
use Rattle.sect_names.specs.declared.lock.Lock.TheVariants as lock
use Rattle.sect_modes.specs.declared.key.Key.TheVariants as key
use Rattle.sect_types.specs.declared.meaning.store.ObjectName.TheVariants as object

-- what holds of all that is gathered, where a join keeps it
pub with_grip-all : (P : Key → Mode → Type 0) → ((k : Key) (m n : Mode) → P k m → P k n → P k (join_of m n))
    → (g : Grip) (hs : List Grip) → P g.key g.mode
    → ((h : Grip) → Has hs h → P h.key h.mode) → (x : Grip) → Has (with_grip g hs) x → P x.key x.mode
with_grip-all P joins g [] pg ph x (inl e) = subst (λ y. P y.key y.mode) e pg
with_grip-all P joins g [] pg ph x (inr h) = absurd h
with_grip-all P joins g (h ∷ hs) pg ph x has =
    by (is_same_key g.key h.key) refl (is_key_below g.key h.key) has
    (with_grip-all P joins g hs pg (λ y i. ph y (inr i)) x) where
      by : (a : Bool) → is_same_key g.key h.key ≡ a → (b : Bool)
          → Has (if a then grip h.key (join_of g.mode h.mode) ∷ hs else if b then g ∷ h ∷ hs else h ∷ with_grip g hs) x
          → (Has (with_grip g hs) x → P x.key x.mode) → P x.key x.mode
      by true e b (inl is) more = subst (λ y. P y.key y.mode) is
          (joins h.key g.mode h.mode (subst (λ k. P k g.mode) (same_key g.key h.key e) pg) (ph h (inl refl)))
      by true e b (inr i) more = ph x (inr i)
      by false e true (inl is) more = subst (λ y. P y.key y.mode) is pg
      by false e true (inr i) more = ph x i
      by false e false (inl is) more = ph x (inl is)
      by false e false (inr i) more = more i

-- what holds of each wish, and of joins, holds of what is gathered
pub gathered-all : (P : Key → Mode → Type 0) → ((k : Key) (m n : Mode) → P k m → P k n → P k (join_of m n))
    → (gs : List Grip)
    → ((g : Grip) → Has gs g → P g.key g.mode) → (x : Grip) → Has (gathered gs) x → P x.key x.mode
gathered-all P joins [] all x h = absurd h
gathered-all P joins (g ∷ gs) all x h =
    with_grip-all P joins g (gathered gs) (all g (inl refl)) (gathered-all P joins gs (λ y i. all y (inr i))) x h

-- each key of what is gathered is that of a wish
pub gathered_key : (gs : List Grip) (x : Grip) → Has (gathered gs) x → (g : Grip) × Has gs g × (g.key ≡ x.key)
gathered_key gs = gathered-all (λ k m. (g : Grip) × Has gs g × (g.key ≡ k)) (λ k m n a b. a) gs (λ g h. (g, h, refl))

-- a wish is met in what is gathered
with_grip-meets : (g : Grip) (hs : List Grip) → (m : Mode) × Has (with_grip g hs) (grip g.key m)
    × (is_at_least m g.mode ≡ true)
with_grip-meets g [] = (g.mode, inl refl, at_least_itself g.mode)
with_grip-meets g (h ∷ hs) = by (is_same_key g.key h.key) refl (is_key_below g.key h.key) (with_grip-meets g hs) where
  by : (x : Bool) → is_same_key g.key h.key ≡ x → (y : Bool) → (m : Mode) × Has (with_grip g hs) (grip g.key m)
      × (is_at_least m g.mode ≡ true)
      → (m : Mode) × Has (if x then grip h.key (join_of g.mode h.mode) ∷ hs else if y then g ∷ h ∷ hs else h ∷ with_grip
      g hs) (grip g.key m) × (is_at_least m g.mode ≡ true)
  by true e y more = (
    join_of g.mode h.mode,
    inl (ap (λ k. grip k (join_of g.mode h.mode)) (sym (same_key g.key h.key e))),
    join_left g.mode h.mode,
  )
  by false e true more = (g.mode, inl refl, at_least_itself g.mode)
  by false e false more = (more.0, inr more.1, more.2)

with_grip-keeps : (g : Grip) (hs : List Grip) (x : Grip) → Has hs x → (m : Mode) × Has (with_grip g hs) (grip x.key m)
    × (is_at_least m x.mode ≡ true)
with_grip-keeps g [] x h = absurd h
with_grip-keeps g (h ∷ hs) x has =
    by (is_same_key g.key h.key) (is_key_below g.key h.key) has (with_grip-keeps g hs x) where
      by : (a b : Bool) → Has (h ∷ hs) x
          → (Has hs x → (m : Mode) × Has (with_grip g hs) (grip x.key m) × (is_at_least m x.mode ≡ true))
          → (m : Mode) × Has (if a then grip h.key (join_of g.mode h.mode) ∷ hs else if b then g ∷ h ∷ hs else h
          ∷ with_grip
          g hs) (grip x.key m) × (is_at_least m x.mode ≡ true)
      by true b (inl e) more = (
        join_of g.mode h.mode,
        inl (ap (λ y. grip y.key (join_of g.mode h.mode)) e),
        subst (λ y. is_at_least (join_of g.mode h.mode) y.mode ≡ true) e (join_right g.mode h.mode),
      )
      by true b (inr i) more = (x.mode, inr i, at_least_itself x.mode)
      by false true i more = (x.mode, inr i, at_least_itself x.mode)
      by false false (inl e) more = (x.mode, inl e, at_least_itself x.mode)
      by false false (inr i) more = let m = more i in (m.0, inr m.1, m.2)

-- and meets each wish
pub gathered_meets : (gs : List Grip) (g : Grip) → Has gs g → (m : Mode) × Has (gathered gs) (grip g.key m)
    × (is_at_least m g.mode ≡ true)
gathered_meets [] g h = absurd h
gathered_meets (x ∷ gs) g (inl e) =
    subst (λ y. (m : Mode) × Has (with_grip x (gathered gs)) (grip y.key m) × (is_at_least m y.mode ≡ true)) e
    (with_grip-meets x (gathered gs))
gathered_meets (x ∷ gs) g (inr h) =
    let m = gathered_meets gs g h in
    let n = with_grip-keeps x (gathered gs) (grip g.key m.0) m.1 in
    (n.0, n.1, at_least_along n.0 m.0 g.mode n.2 m.2)

with_grip-keys : (g : Grip) (hs : List Grip) (x : Grip) → Has (with_grip g hs) x
    → (x.key ≡ g.key) ⊎ ((h : Grip) × Has hs h × (x.key ≡ h.key))
with_grip-keys g hs = with_grip-all (λ k m. (k ≡ g.key) ⊎ ((h : Grip) × Has hs h × (k ≡ h.key))) (λ k m n a b. a) g hs
    (inl refl) (λ h i. inr (h, i, refl))

with_grip-ascends : (g : Grip) (hs : List Grip) → Ascends hs → Ascends (with_grip g hs)
with_grip-ascends g [] a = ((λ h i. absurd i), tt)
with_grip-ascends g (h ∷ hs) a =
    by (is_same_key g.key h.key) refl (is_key_below g.key h.key) refl (with_grip-ascends g hs a.1) where
      by : (x : Bool) → is_same_key g.key h.key ≡ x → (y : Bool) → is_key_below g.key h.key ≡ y
          → Ascends (with_grip g hs)
          → Ascends (if x then grip h.key (join_of g.mode h.mode) ∷ hs else if y then g ∷ h ∷ hs else h ∷ with_grip g
          hs)
      by true e y f more = a
      by false e true f more = ((λ z i. above z i), a) where
        above : (z : Grip) → Has (h ∷ hs) z → is_key_below g.key z.key ≡ true
        above z (inl is) = subst (λ w. is_key_below g.key w.key ≡ true) is f
        above z (inr i) = below_along g.key h.key z.key f (a.0 z i)
      by false e false f more = ((λ z i. above z (with_grip-keys g hs z i)), more) where
        above : (z : Grip) → (z.key ≡ g.key) ⊎ ((w : Grip) × Has hs w × (z.key ≡ w.key))
            → is_key_below h.key z.key ≡ true
        above z (inl is) = subst (λ k. is_key_below h.key k ≡ true) (sym is) (other_above g.key h.key e f)
        above z (inr w) = subst (λ k. is_key_below h.key k ≡ true) (sym w.2) (a.0 w.0 w.1)

-- what is gathered ascends
pub gathered_ascends : (gs : List Grip) → Ascends (gathered gs)
gathered_ascends [] = tt
gathered_ascends (g ∷ gs) = with_grip-ascends g (gathered gs) (gathered_ascends gs)

-- a key's mode
pub mode_is_there : (k : Key) (m : Mode) (gs : List Grip) → held_mode k gs ≡ Some m → Has gs (grip k m)
mode_is_there k m [] e = absurd (none_or_some m e)
mode_is_there k m (g ∷ gs) e = by (is_same_key k g.key) refl e (mode_is_there k m gs) where
  by : (x : Bool) → is_same_key k g.key ≡ x → (if x then Some g.mode else held_mode k gs) ≡ Some m
      → (held_mode k gs ≡ Some m → Has gs (grip k m)) → Has (g ∷ gs) (grip k m)
  by true is e' more = inl (ap (λ j. grip j g.mode) (sym (same_key k g.key is))
      ∙ ap (grip k) (some_injective g.mode m e'))
  by false is e' more = inr (more e')

-- in an ascending list each key has the mode that stands there
pub ascending_mode : (gs : List Grip) → Ascends gs → (g : Grip) → Has gs g → held_mode g.key gs ≡ Some g.mode
ascending_mode [] a g h = absurd h
ascending_mode (x ∷ gs) a g (inl e) =
    ap (λ b. if b then Some x.mode else held_mode g.key gs)
    (ap (λ y. is_same_key y.key x.key) (sym e) ∙ key_itself x.key) ∙ ap (λ y. Some y.mode) e
ascending_mode (x ∷ gs) a g (inr h) = by (is_same_key g.key x.key) refl (ascending_mode gs a.1 g h) where
  by : (b : Bool) → is_same_key g.key x.key ≡ b → held_mode g.key gs ≡ Some g.mode
      → (if b then Some x.mode else held_mode g.key gs) ≡ Some g.mode
  by true e more = absurd (not_below_itself x.key
      (subst (λ k. is_key_below x.key k ≡ true) (same_key g.key x.key e) (a.0 g h)))
  by false e more = more

-- ascending lists one above the other ascend together
pub ascends-append : (xs ys : List Grip) → Ascends xs → Ascends ys
    → ((x y : Grip) → Has xs x → Has ys y → is_key_below x.key y.key ≡ true) → Ascends (xs ++ ys)
ascends-append [] ys a b below = b
ascends-append (x ∷ xs) ys a b below =
    ((λ h i. by h (Has-cases xs ys h i)), ascends-append xs ys a.1 b (λ y z i j. below y z (inr i) j)) where
      by : (h : Grip) → Has xs h ⊎ Has ys h → is_key_below x.key h.key ≡ true
      by h (inl i) = a.0 h i
      by h (inr i) = below x h (inl refl) i

-- both parts of an ascending list ascend
pub ascends_left : (xs ys : List Grip) → Ascends (xs ++ ys) → Ascends xs
ascends_left [] ys a = tt
ascends_left (x ∷ xs) ys a = ((λ y h. a.0 y (Has-left xs ys y h)), ascends_left xs ys a.1)

-- the second part too
pub ascends_right : (xs ys : List Grip) → Ascends (xs ++ ys) → Ascends ys
ascends_right [] ys a = a
ascends_right (x ∷ xs) ys a = ascends_right xs ys a.1

-- and the first lies below the second
pub ascending_across : (xs ys : List Grip) → Ascends (xs ++ ys) → (x y : Grip) → Has xs x → Has ys y
    → is_key_below x.key y.key ≡ true
ascending_across [] ys up x y hx hy = absurd hx
ascending_across (z ∷ xs) ys up x y (inl e) hy =
    subst (λ (g : Grip). is_key_below g.key y.key ≡ true) e (up.0 y (Has-right xs ys y hy))
ascending_across (z ∷ xs) ys up x y (inr k) hy = ascending_across xs ys up.1 x y k hy

-- a key of the fixed part, that of all or of a class, and the key of an object
abbrev IsFixedKey : Key → Type 0
IsFixedKey k = (k ≡ key.All) ⊎ ((n : ℕ) × (k ≡ key.Class n))

abbrev IsObjectKey : Key → Type 0
IsObjectKey k = (o : ObjectName) × (k ≡ key_of o)

-- of two keys each is such a key
two_keys : (a b g : Grip) → IsFixedKey a.key → IsFixedKey b.key → Has (a ∷ b ∷ []) g → IsFixedKey g.key
two_keys a b g ka kb (inl e) = subst (λ (x : Grip). IsFixedKey x.key) e ka
two_keys a b g ka kb (inr (inl e)) = subst (λ (x : Grip). IsFixedKey x.key) e kb
two_keys a b g ka kb (inr (inr none)) = absurd none

wish_key : (s : SchemeView) (l : Lock) (gs : List Grip) → AreWishesFor s l gs → (g : Grip) → Has gs g → IsFixedKey g.key
wish_key s lock.All gs w g h =
    elim (subst (λ xs. Has xs g) w h)
    [ inl e ↦ subst (λ (x : Grip). IsFixedKey x.key) e (inl refl) | inr none ↦ absurd none ]
wish_key s (lock.Class c r) gs w g h =
    two_keys (grip key.All (intention_of (class_mode r))) (grip (key.Class c) (class_mode r)) g (inl refl)
    (inr (c, refl)) (subst (λ xs. Has xs g) w h)
wish_key s (lock.Path p e) gs w g h =
    two_keys (grip key.All (intended e)) (grip (key.Class w.0) (intended e)) g (inl refl) (inr (w.0, refl))
    (subst (λ xs. Has xs g) w.2 h)

-- a wish of a lock set is one of a lock of it
pub fixed_wish_from : (s : SchemeView) (locks : List Lock) (gs : List Grip) → AreFixedWishes s locks gs → (g : Grip)
    → Has gs g
    → (l : Lock) × (mine : List Grip) × Has locks l × AreWishesFor s l mine × Has mine g
fixed_wish_from s [] gs w g h = absurd (subst (λ xs. Has xs g) w h)
fixed_wish_from s (l ∷ locks) gs w g h =
    by (Has-cases w.0 w.1 g (subst (λ xs. Has xs g) w.2 h)) (fixed_wish_from s locks w.1 w.4 g) where
      by : Has w.0 g ⊎ Has w.1 g → (Has w.1 g → (k : Lock) × (mine : List Grip) × Has locks k × AreWishesFor s k mine
          × Has mine g)
          → (k : Lock) × (mine : List Grip) × Has (l ∷ locks) k × AreWishesFor s k mine × Has mine g
      by (inl i) more = (l, w.0, inl refl, w.3, i)
      by (inr i) more = let r = more i in (r.0, r.1, inr r.2, r.3, r.4)

-- the fixed part has the key of all and those of classes alone
pub fixed_part_keys : (s : SchemeView) (locks : List Lock) (part : List Grip) → IsFixedPart s locks part → (g : Grip)
    → Has part g → IsFixedKey g.key
fixed_part_keys s locks part p g h =
    let k = gathered_key p.0 g (subst (λ xs. Has xs g) p.2 h) in
    let w = fixed_wish_from s locks p.0 p.1 k.0 k.1 in
    subst IsFixedKey k.2 (wish_key s w.0 w.1 w.3 k.0 w.4)

-- where an object wish comes from
pub object_wish_from : (s : StoreView) (locals : List Datum) (locks : List Lock) (g : Grip)
    → Has (object_wishes s locals locks) g
    → (p : PathView) × (e : Effect) × (o : ObjectName) × Has locks (lock.Path p e) × (path_datum s locals p ≡ Refers o)
    × (g ≡ grip (key_of o) (object_mode e))
object_wish_from s locals [] g h = absurd h
object_wish_from s locals (lock.All ∷ locks) g h = let f = object_wish_from s locals locks g h in
    (f.0, f.1, f.2, inr f.3, f.4, f.5)
object_wish_from s locals (lock.Class c r ∷ locks) g h = let f = object_wish_from s locals locks g h in
    (f.0, f.1, f.2, inr f.3, f.4, f.5)
object_wish_from s locals (lock.Path p e ∷ locks) g h =
    by (path_datum s locals p) refl
    (Has-cases (object_wish (path_datum s locals p) (object_mode e)) (object_wishes s locals locks) g h)
    (object_wish_from s locals locks g) where
      by : (d : Datum) → path_datum s locals p ≡ d → Has (object_wish d (object_mode e)) g
          ⊎ Has (object_wishes s locals locks) g
          → (Has (object_wishes s locals locks) g → (p : PathView) × (e : Effect) × (o : ObjectName)
          × Has locks (lock.Path p e) × (path_datum s locals p ≡ Refers o) × (g ≡ grip (key_of o) (object_mode e)))
          → (q : PathView) × (f : Effect) × (o : ObjectName) × Has (lock.Path p e ∷ locks) (lock.Path q f)
          × (path_datum s locals q ≡ Refers o) × (g ≡ grip (key_of o) (object_mode f))
      by d is (inr i) more = let f = more i in (f.0, f.1, f.2, inr f.3, f.4, f.5)
      by (Number n) is (inl i) more = absurd i
      by Null is (inl i) more = absurd i
      by (Refers o) is (inl (inl i)) more = (p, e, o, inl refl, is, sym i)
      by (Refers o) is (inl (inr i)) more = absurd i

-- the object part has keys of objects alone
pub object_part_keys : (s : StoreView) (locals : List Datum) (locks : List Lock) (g : Grip)
    → Has (gathered (object_wishes s locals locks)) g → IsObjectKey g.key
object_part_keys s locals locks g h =
    let k = gathered_key (object_wishes s locals locks) g h in
    let f = object_wish_from s locals locks k.0 k.1 in
    (f.2, sym k.2 ∙ ap (λ x. x.key) f.5)

-- the fixed part lies below all objects
fixed_below_object : (k : Key) (o : ObjectName) → IsFixedKey k → is_key_below k (key_of o) ≡ true
fixed_below_object k o (inl e) = subst (λ a. is_key_below a (key_of o) ≡ true) (sym e) (all_below o) where
  all_below : (o : ObjectName) → is_key_below key.All (key_of o) ≡ true
  all_below (object.Global g) = refl
  all_below (object.Made t m) = refl
fixed_below_object k o (inr (n, e)) = subst (λ a. is_key_below a (key_of o) ≡ true) (sym e) (class_below o) where
  class_below : (o : ObjectName) → is_key_below (key.Class n) (key_of o) ≡ true
  class_below (object.Global g) = refl
  class_below (object.Made t m) = refl

-- a plan ascends
pub plan_ascends : (sch : SchemeView) (part : List Grip) (locks : List Lock) (s : StoreView) (locals : List Datum)
    → IsFixedPart sch locks part → Ascends (plan_of part locks s locals)
plan_ascends sch part locks s locals p =
    ascends-append part (gathered (object_wishes s locals locks)) (subst Ascends (sym p.2) (gathered_ascends p.0))
    (gathered_ascends (object_wishes s locals locks)) below where
      below : (x y : Grip) → Has part x → Has (gathered (object_wishes s locals locks)) y
          → is_key_below x.key y.key ≡ true
      below x y hx hy =
          let o = object_part_keys s locals locks y hy in
          subst (λ b. is_key_below x.key b ≡ true) (sym o.1)
          (fixed_below_object x.key o.0 (fixed_part_keys sch locks part p x hx))
