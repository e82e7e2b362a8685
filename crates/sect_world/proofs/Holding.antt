-- Who holds enough for an access: what it is, and that it only grows.
use Rattle.std.proofs.Common.{◌≡◌, ◌⊎◌, inl, inr, ℕ, List, ◌++◌, Bool, true, ◌||◌, Option, Some, None, refl, sym, ap}
use Rattle.std.proofs.{Common.{◌∙◌, subst}, lemmas.Bool.{or_cases, false≢true, or_left, or_right}}
use Rattle.std.specs.Prelude.{slice_get}
use Rattle.sect_names.specs.declared.lock.Effect.{Effect}
use Rattle.sect_modes.specs.{declared.mode.Mode.{Mode}, declared.key.Key.{Key}, Mode.{is_reading}}
use Rattle.sect_types.specs.{declared.meaning.store.ObjectName.{ObjectName}, Store.{ObjectView, StoreView, object_at}}
use Rattle.sect_emit.specs.{declared.plan.Grip.{Grip}, Plan.{key_of, held_mode, is_met}, Compiled.{CompiledView}}
use Rattle.sect_emit.specs.{ModeTests.{passes, is_reading_object, is_writing}, Pointed.{ObjectsStay}}
use Rattle.sect_world.specs.Events.{guard_at}
use Rattle.sect_world.specs.Held.{holds_all, class_mode_in, mode_of_class, is_held_at, is_held, guard_or}
use Rattle.sect_world.specs.{Held.{locked_object_at, locked_object}, Secured.{may_by}}
use Rattle.sect_emit.proofs.shared.{Modes.{met_mode}, Grips.{held_append}}
use Rattle.sect_names.specs.declared.lock.Effect.TheVariants as effect
use Rattle.sect_modes.specs.declared.key.Key.TheVariants as key

-- the mode in which something is held passes the test
abbrev pub IsIn : (Mode → Bool) → Option Mode → Type 0
IsIn test o = (m : Mode) × (o ≡ Some m) × (test m ≡ true)

-- the test passes a mode in which it is held
pub passes_in : (test : Mode → Bool) (o : Option Mode) → passes test o ≡ true → IsIn test o
passes_in test None h = absurd (false≢true h)
passes_in test (Some m) h = (m, refl, h)

-- and the other way round
pub in_passes : (test : Mode → Bool) (o : Option Mode) → IsIn test o → passes test o ≡ true
in_passes test o (m, is, h) = subst (λ z. passes test z ≡ true) (sym is) h

module _ (c : CompiledView) (for_key for_class : Mode → Bool) where
  -- an object's key or its class is held so
  abbrev pub IsHeldPart : List Grip → ObjectName → ObjectView → Type 0
  IsHeldPart held o x = IsIn for_key (held_mode (key_of o) held) ⊎ IsIn for_class (mode_of_class c held x.site)

  -- all objects are held in X, or this one is held so
  abbrev pub IsHeldBy : List Grip → ObjectName → ObjectView → Type 0
  IsHeldBy held o x = (holds_all held ≡ true) ⊎ IsHeldPart held o x

  -- an object that is there
  held_at : (s : StoreView) (held : List Grip) (o : ObjectName) (x : ObjectView) → object_at s o ≡ Some x
      → is_held c for_key for_class s held o
      ≡ (holds_all held || (passes for_key (held_mode (key_of o) held) || passes for_class
      (mode_of_class c held x.site)))
  held_at s held o x at = ap (is_held_at c for_key for_class held o) at

  part_is : (held : List Grip) (o : ObjectName) (x : ObjectView)
      → (passes for_key (held_mode (key_of o) held) || passes for_class (mode_of_class c held x.site)) ≡ true
      → IsHeldPart held o x
  part_is held o x h = elim (or_cases (passes for_key (held_mode (key_of o) held))
      (passes for_class (mode_of_class c held x.site)) h) [
        | inl k ↦ inl (passes_in for_key (held_mode (key_of o) held) k)
        | inr k ↦ inr (passes_in for_class (mode_of_class c held x.site) k)
      ]

  is_part : (held : List Grip) (o : ObjectName) (x : ObjectView) → IsHeldPart held o x
      → (passes for_key (held_mode (key_of o) held) || passes for_class (mode_of_class c held x.site)) ≡ true
  is_part held o x (inl k) = or_left (passes for_key (held_mode (key_of o) held))
      (passes for_class (mode_of_class c held x.site)) (in_passes for_key (held_mode (key_of o) held) k)
  is_part held o x (inr k) = or_right (passes for_key (held_mode (key_of o) held))
      (passes for_class (mode_of_class c held x.site)) (in_passes for_class (mode_of_class c held x.site) k)

  -- an object that is held so is there
  pub held_is : (s : StoreView) (held : List Grip) (o : ObjectName) → is_held c for_key for_class s held o ≡ true
      → (x : ObjectView) × (object_at s o ≡ Some x) × IsHeldBy held o x
  held_is s held o h = by (object_at s o) refl h
    where
      by : (x : Option ObjectView) → object_at s o ≡ x → is_held_at c for_key for_class held o x ≡ true
          → (x : ObjectView) × (object_at s o ≡ Some x) × IsHeldBy held o x
      by None is h = absurd (false≢true h)
      by (Some x) is h = (
        x,
        is,
        elim (or_cases (holds_all held)
            (passes for_key (held_mode (key_of o) held) || passes for_class (mode_of_class c held x.site)) h) [
              | inl all ↦ inl all
              | inr k ↦ inr (part_is held o x k)
            ],
      )

  -- and one that is there is held so by its key or its class
  pub is_held_so : (s : StoreView) (held : List Grip) (o : ObjectName) (x : ObjectView) → object_at s o ≡ Some x
      → IsHeldBy held o x → is_held c for_key for_class s held o ≡ true
  is_held_so s held o x at h = held_at s held o x at ∙ by h
    where
      by : IsHeldBy held o x
          → (holds_all held || (passes for_key (held_mode (key_of o) held) || passes for_class
          (mode_of_class c held x.site))) ≡ true
      by (inl all) = or_left (holds_all held)
          (passes for_key (held_mode (key_of o) held) || passes for_class (mode_of_class c held x.site)) all
      by (inr k) = or_right (holds_all held)
          (passes for_key (held_mode (key_of o) held) || passes for_class (mode_of_class c held x.site))
          (is_part held o x k)

-- what is locked for an object that is there
pub locked_is : (c : CompiledView) (s : StoreView) (o : ObjectName) (x : ObjectView) → object_at s o ≡ Some x
    → locked_object c s o ≡ guard_or (guard_at c x.site) o
locked_is c s o x at = ap (locked_object_at c o) at

-- who may access an object finds it
pub may_finds : (c : CompiledView) (for_key for_class : Mode → Bool) (s : StoreView) (held : List Grip) (o : ObjectName)
    → is_held c for_key for_class s held (locked_object c s o) ≡ true
    → (x : ObjectView) × (object_at s o ≡ Some x)
may_finds c for_key for_class s held o h = by (object_at s o) refl
  where
    by : (x : Option ObjectView) → object_at s o ≡ x → (x : ObjectView) × (object_at s o ≡ Some x)
    by (Some x) is = (x, is)
    by None is =
        let same : locked_object c s o ≡ o = ap (locked_object_at c o) is in
        let there = held_is c for_key for_class s held o
        (subst (λ q. is_held c for_key for_class s held q ≡ true) same h) in
        (there.0, there.1)

-- the mode of the class of a site is that of its number
pub class_is : (c : CompiledView) (held : List Grip) (site : ℕ) (m : Mode) → mode_of_class c held site ≡ Some m
    → (n : ℕ) × (slice_get c.scheme.classes.numbers site ≡ Some n) × (held_mode (key.Class n) held ≡ Some m)
class_is c held site m e = by (slice_get c.scheme.classes.numbers site) refl e
  where
    by : (o : Option ℕ) → slice_get c.scheme.classes.numbers site ≡ o → class_mode_in held o ≡ Some m
        → (n : ℕ) × (slice_get c.scheme.classes.numbers site ≡ Some n) × (held_mode (key.Class n) held ≡ Some m)
    by None is e = absurd cc
    by (Some n) is e = (n, is, e)

-- more is held
abbrev pub HoldsMore : List Grip → List Grip → Type 0
HoldsMore held held' = (k : Key) (m : Mode) → held_mode k held ≡ Some m → held_mode k held' ≡ Some m

-- no less than itself
pub holds_same : (held : List Grip) → HoldsMore held held
holds_same held k m e = e

-- no less with more at its end
pub holds_append : (held more : List Grip) → HoldsMore held (held ++ more)
holds_append held more k m e = held_append k held more m e

-- all objects stay held
pub all_more : (held held' : List Grip) → HoldsMore held held' → holds_all held ≡ true → holds_all held' ≡ true
all_more held held' more h =
    let m = passes_in is_writing (held_mode key.All held) h in
    in_passes is_writing (held_mode key.All held') (m.0, more key.All m.0 m.1, m.2)

-- the same of a class
class_more : (held held' : List Grip) → HoldsMore held held' → (n : Option ℕ) (m : Mode) → class_mode_in held n ≡ Some m
    → class_mode_in held' n ≡ Some m
class_more held held' more None m e = absurd cc
class_more held held' more (Some n) m e = more (key.Class n) m e

-- and of the class of a site
pub mode_of_class_more : (c : CompiledView) (held held' : List Grip) → HoldsMore held held' → (site : ℕ) (m : Mode)
    → mode_of_class c held site ≡ Some m → mode_of_class c held' site ≡ Some m
mode_of_class_more c held held' more site m e = class_more held held' more (slice_get c.scheme.classes.numbers site) m e

-- what is held strongly enough stays so
pub met_more : (held held' : List Grip) → HoldsMore held held' → (k : Key) (m : Mode)
    → is_met (held_mode k held) m ≡ true → is_met (held_mode k held') m ≡ true
met_more held held' more k m h = let n = met_mode (held_mode k held) m h in
    subst (λ z. is_met z m ≡ true) (sym (more k n.0 n.1)) n.2

-- what may be accessed stays so where no less is held and objects keep their sites
module _ (c : CompiledView) (s s' : StoreView) (held held' : List Grip) (more : HoldsMore held held')
    (stay : ObjectsStay s s') where
  -- the same is locked for an object
  locked_stays : (o : ObjectName) (x : ObjectView) → object_at s o ≡ Some x → locked_object c s' o ≡ locked_object c s o
  locked_stays o x at = let y = stay o x at in locked_is c s' o y.0 y.1 ∙ ap (λ site. guard_or (guard_at c site) o) y.2
      ∙ sym (locked_is c s o x at)

  -- what is held stays held
  held_grows : (for_key for_class : Mode → Bool) (q : ObjectName) → is_held c for_key for_class s held q ≡ true
      → is_held c for_key for_class s' held' q ≡ true
  held_grows for_key for_class q h =
      let was = held_is c for_key for_class s held q h in
      let y = stay q was.0 was.1 in
      is_held_so c for_key for_class s' held' q y.0 y.1 (elim was.2 [
        | inl all ↦ inl (all_more held held' more all)
        | inr (inl (m, is, passed)) ↦ inr (inl (m, more (key_of q) m is, passed))
        | inr (inr (m, is, passed)) ↦ inr
            (inr (m, ap (mode_of_class c held') y.2 ∙ mode_of_class_more c held held' more was.0.site m is, passed))
      ])

  -- for any tests
  pub holding_grows : (for_key for_class : Mode → Bool) (o : ObjectName)
      → is_held c for_key for_class s held (locked_object c s o) ≡ true
      → is_held c for_key for_class s' held' (locked_object c s' o) ≡ true
  holding_grows for_key for_class o h =
      let x = may_finds c for_key for_class s held o h in
      subst (λ q. is_held c for_key for_class s' held' q ≡ true) (sym (locked_stays o x.0 x.1))
      (held_grows for_key for_class (locked_object c s o) h)

  -- for any effect
  pub may_grows : (e : Effect) (o : ObjectName) → may_by e c s held o ≡ true → may_by e c s' held' o ≡ true
  may_grows effect.Read o h = holding_grows is_reading_object is_reading o h
  may_grows effect.Write o h = holding_grows is_writing is_writing o h
