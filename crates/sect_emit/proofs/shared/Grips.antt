-- Keys that are held, and what a plan that is met has.
use Rattle.std.proofs.Common.{◌≡◌, ◌⊎◌, inl, inr, ℕ, List, [], ◌∷◌, ◌++◌, Bool, true, false, Some, None, refl, sym, ap}
use Rattle.std.proofs.Common.{subst, if◌then◌else◌}
use Rattle.sect_lemmas.specs.Lists.{Has}
use Rattle.sect_points.specs.Paths.{PathView}
use Rattle.sect_names.specs.{declared.lock.Effect.{Effect}, declared.lock.Right.{Right}, declared.lock.Lock.{Lock}}
use Rattle.sect_names.specs.Schemes.{SchemeView}
use Rattle.sect_modes.specs.{declared.mode.Mode.{Mode}, declared.mode.Mode.TheVariants.{Exclusive}}
use Rattle.sect_modes.specs.{declared.key.Key.{Key}, Mode.{is_at_least}, Key.{is_same_key}}
use Rattle.sect_types.specs.{declared.meaning.store.ObjectName.{ObjectName}, declared.meaning.store.Datum.{Datum}}
use Rattle.sect_types.specs.{declared.meaning.store.Datum.TheVariants.{Refers}, Store.{StoreView}}
use Rattle.sect_modes.proofs.shared.Keys.{same_key, key_itself}
use Rattle.sect_emit.specs.declared.plan.Grip.{Grip}
use Rattle.sect_emit.specs.Plan.{grip, key_of, class_mode, object_mode, AreWishesFor, IsFixedPart, path_datum, plan_of}
use Rattle.sect_emit.specs.Plan.{held_mode, is_met, meets}
use Rattle.sect_emit.proofs.shared.Modes.{at_least_along}
use Rattle.sect_emit.proofs.shared.PlanModes.{met, plan_gives_object, plan_gives_fixed}
use Rattle.sect_names.specs.declared.lock.Lock.TheVariants as lock
use Rattle.sect_modes.specs.declared.key.Key.TheVariants as key

-- all that is held stays held where more comes to it
pub held_append : (k : Key) (xs ys : List Grip) (m : Mode) → held_mode k xs ≡ Some m → held_mode k (xs ++ ys) ≡ Some m
held_append k [] ys m e = absurd cc
held_append k (x ∷ xs) ys m e = by (is_same_key k x.key) (held_append k xs ys m) e
  where
    by : (b : Bool) → (held_mode k xs ≡ Some m → held_mode k (xs ++ ys) ≡ Some m)
        → (if b then Some x.mode else held_mode k xs) ≡ Some m
        → (if b then Some x.mode else held_mode k (xs ++ ys)) ≡ Some m
    by true later e = e
    by false later e = later e

-- what is held then was held, or has come to it
pub held_split : (k : Key) (xs ys : List Grip) (m : Mode) → held_mode k (xs ++ ys) ≡ Some m
    → (held_mode k xs ≡ Some m) ⊎ (held_mode k ys ≡ Some m)
held_split k [] ys m e = inr e
held_split k (x ∷ xs) ys m e = by (is_same_key k x.key) (held_split k xs ys m) e
  where
    by : (b : Bool) → (held_mode k (xs ++ ys) ≡ Some m → (held_mode k xs ≡ Some m) ⊎ (held_mode k ys ≡ Some m))
        → (if b then Some x.mode else held_mode k (xs ++ ys)) ≡ Some m
        → ((if b then Some x.mode else held_mode k xs) ≡ Some m) ⊎ (held_mode k ys ≡ Some m)
    by true later e = inl e
    by false later e = later e

-- a key that isn't held comes to be held as the first of those that come
pub held_more : (k : Key) (xs ys : List Grip) (m : Mode) → held_mode k xs ≡ None → held_mode k ys ≡ Some m
    → held_mode k (xs ++ ys) ≡ Some m
held_more k [] ys m none e = e
held_more k (x ∷ xs) ys m none e = by (is_same_key k x.key) (held_more k xs ys m) none
  where
    by : (b : Bool) → (held_mode k xs ≡ None → held_mode k ys ≡ Some m → held_mode k (xs ++ ys) ≡ Some m)
        → (if b then Some x.mode else held_mode k xs) ≡ None
        → (if b then Some x.mode else held_mode k (xs ++ ys)) ≡ Some m
    by true later none = absurd cc
    by false later none = later none e

-- one key alone
pub held_one : (k : Key) (m : Mode) → held_mode k (grip k m ∷ []) ≡ Some m
held_one k m = ap (λ b. if b then Some m else None) (key_itself k)

-- and no other is
pub held_only : (k j : Key) (m n : Mode) → held_mode k (grip j m ∷ []) ≡ Some n → (k ≡ j) × (m ≡ n)
held_only k j m n e = by (is_same_key k j) refl e
  where
    by : (b : Bool) → is_same_key k j ≡ b → (if b then Some m else None) ≡ Some n → (k ≡ j) × (m ≡ n)
    by true is e = (same_key k j is, cc)
    by false is e = absurd cc

module _ (s : SchemeView) (locks : List Lock) (part : List Grip) (is : IsFixedPart s locks part) (store : StoreView)
    (locals : List Datum) (held : List Grip) (all : meets held (plan_of part locks store locals) ≡ true) where
  -- what a plan that is met holds for a lock on a path, and for a lock on a class
  pub path_met : (p : PathView) (e : Effect) (o : ObjectName) → Has locks (lock.Path p e)
      → path_datum store locals p ≡ Refers o
      → (m : Mode) × (held_mode (key_of o) held ≡ Some m) × (is_at_least m (object_mode e) ≡ true)
  path_met p e o has at =
      let w = plan_gives_object s part locks store locals is p e o has at in
      let m = met held (plan_of part locks store locals) all (grip (key_of o) w.0) w.1 in
      (m.0, m.1, at_least_along m.0 w.0 (object_mode e) m.2 w.2)

  -- a key that a lock asks for whatever the state is held as strongly
  fixed_met : (l : Lock) → Has locks l → (g : Grip) → ((mine : List Grip) → AreWishesFor s l mine → Has mine g)
      → is_met (held_mode g.key held) g.mode ≡ true
  fixed_met l has g among =
      let w = plan_gives_fixed s part locks store locals is l has in
      let k = w.2 g (among w.0 w.1) in
      let m = met held (plan_of part locks store locals) all (grip g.key k.0) k.1 in
      subst (λ z. is_met z g.mode ≡ true) (sym m.1) (at_least_along m.0 k.0 g.mode m.2 k.2)

  -- and for a lock on a class
  pub class_met : (n : ℕ) (r : Right) → Has locks (lock.Class n r)
      → is_met (held_mode (key.Class n) held) (class_mode r) ≡ true
  class_met n r has = fixed_met (lock.Class n r) has (grip (key.Class n) (class_mode r))
      (λ mine w. subst (λ xs. Has xs (grip (key.Class n) (class_mode r))) (sym w) (inr (inl refl)))

  -- and for the lock on all
  pub all_met : Has locks lock.All → is_met (held_mode key.All held) Exclusive ≡ true
  all_met has = fixed_met lock.All has (grip key.All Exclusive)
      (λ mine w. subst (λ xs. Has xs (grip key.All Exclusive)) (sym w) (inl refl))
