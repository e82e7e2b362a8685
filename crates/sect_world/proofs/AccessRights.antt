-- What a thread may read and write before and after a step.
use Rattle.std.proofs.Common.{true≢false, ◌≡◌, ℕ, ◌<◌, List, [], ◌∷◌, ◌++◌, length, Option, Some, None, Bool, true}
use Rattle.std.proofs.Common.{false, ◌||◌, refl, sym, ap, ◌∙◌, append-nil, if◌then◌else◌, slice_get}
use Rattle.std.proofs.lemmas.Bool.{or_right}
use Rattle.sect_modes.specs.declared.mode.Mode.{Mode}
use Rattle.sect_modes.specs.declared.mode.Mode.TheVariants.{IntentionShared, IntentionExclusive, Shared}
use Rattle.sect_modes.specs.declared.mode.Mode.TheVariants.{SharedIntentionExclusive, Exclusive}
use Rattle.sect_modes.specs.{Key.{is_same_key}, Mode.{is_reading}}
use Rattle.sect_types.specs.declared.meaning.store.ObjectName.{ObjectName}
use Rattle.sect_types.specs.declared.meaning.store.ObjectName.TheVariants.{Global, Made}
use Rattle.sect_types.specs.Store.{ObjectView, StoreView, same_name, count, object_at}
use Rattle.sect_types.specs.Meaning.{Change, Unchanged, Written, Added, after_change}
use Rattle.sect_emit.specs.{declared.plan.Grip.{Grip}, Plan.{grip, key_of, held_mode}, Compiled.{CompiledView}}
use Rattle.sect_emit.specs.ModeTests.{passes, is_reading_object, is_writing}
use Rattle.sect_world.specs.Events.{guard_at, fresh_grip, grips_of}
use Rattle.sect_world.specs.Held.{holds_all, class_mode_in, mode_of_class, is_held_at, is_held, guard_or}
use Rattle.sect_world.specs.Held.{locked_object_at, locked_object, may_read, may_write, may_make_by}
use Rattle.sect_lemmas.proofs.Options.{mapped}
use Rattle.sect_emit.proofs.shared.{PlanModes.{key_of-injective}, Grips.{held_more, held_one}}
use Rattle.sect_world.proofs.{AllowedChanges.{IsAllowed, sites_stay}, Claims.{held-push_other}}
use Rattle.sect_world.proofs.StepChanges.{is_new, touches, object_at-after, site_stays, global_is_old}
use Rattle.sect_world.proofs.Holding.{holds_same, holds_append, holding_grows}
use Rattle.sect_types.proofs.shared.Stores.{same_name-true, same_name-eq}
use Rattle.sect_modes.proofs.shared.Keys.{same_key}
use Rattle.sect_modes.specs.declared.key.Key.TheVariants as key

-- the site of an object, if it is there
abbrev pub site_in : Option ObjectView → Option ℕ
site_in = mapped (λ (x : ObjectView). x.site)

-- ---- the tests look at sites alone

-- the test of an object by its site
abbrev held_by : CompiledView → (Mode → Bool) → (Mode → Bool) → List Grip → ObjectName → Option ℕ → Bool
held_by c for_key for_class held o None = false
held_by c for_key for_class held o (Some site) =
    holds_all held || (passes for_key (held_mode (key_of o) held) || passes for_class (mode_of_class c held site))

-- is the test
is_held-site : (c : CompiledView) (for_key for_class : Mode → Bool) (held : List Grip) (o : ObjectName)
    (x : Option ObjectView)
    → is_held_at c for_key for_class held o x ≡ held_by c for_key for_class held o (site_in x)
is_held-site c for_key for_class held o None = refl
is_held-site c for_key for_class held o (Some x) = refl

-- what is locked for an object, by its site
abbrev locked_by : CompiledView → ObjectName → Option ℕ → ObjectName
locked_by c o None = o
locked_by c o (Some site) = guard_or (guard_at c site) o

-- is what is locked
locked-site : (c : CompiledView) (o : ObjectName) (x : Option ObjectView)
    → locked_object_at c o x ≡ locked_by c o (site_in x)
locked-site c o None = refl
locked-site c o (Some x) = refl

-- what is locked for an object is the object of a global, or itself
pub at_locked : (P : ObjectName → Type 0) (c : CompiledView) (o : ObjectName) (x : Option ObjectView) → P o
    → ((g : ℕ) → P (Global g)) → P (locked_object_at c o x)
at_locked P c o None own global = own
at_locked P c o (Some x) own global = by (guard_at c x.site) where
  by : (g : Option ℕ) → P (guard_or g o)
  by None = own
  by (Some g) = global g

-- the same keys and classes are held in the same modes, as far as an object's test goes
record AlikeAt (c : CompiledView) (held more : List Grip) (o : ObjectName) : Type 0 where
  all : held_mode key.All more ≡ held_mode key.All held
  object : held_mode (key_of o) more ≡ held_mode (key_of o) held
  classes : (n : ℕ) → held_mode (key.Class n) more ≡ held_mode (key.Class n) held

-- then the test is the same
alike-held_by : (c : CompiledView) (for_key for_class : Mode → Bool) (held more : List Grip) (o : ObjectName)
    (site : Option ℕ)
    → AlikeAt c held more o → held_by c for_key for_class more o site ≡ held_by c for_key for_class held o site
alike-held_by c for_key for_class held more o None h = refl
alike-held_by c for_key for_class held more o (Some site) h =
    ap (λ m. passes is_writing m ||
    (passes for_key (held_mode (key_of o) more) || passes for_class (mode_of_class c more site))) h.all
    ∙ ap (λ m. holds_all held || (passes for_key m || passes for_class (mode_of_class c more site))) h.object
    ∙ ap (λ m. holds_all held || (passes for_key (held_mode (key_of o) held) || passes for_class m))
    (by (slice_get c.scheme.classes.numbers site)) where
      by : (n : Option ℕ) → class_mode_in more n ≡ class_mode_in held n
      by None = refl
      by (Some n) = h.classes n

-- a test is the same where the sites are, and the keys are held alike
same_test : (c : CompiledView) (for_key for_class : Mode → Bool) (s r : StoreView) (held more : List Grip)
    (o : ObjectName)
    → site_in (object_at r o) ≡ site_in (object_at s o)
    → ((g : ℕ) → site_in (object_at r (Global g)) ≡ site_in (object_at s (Global g)))
    → AlikeAt c held more o → ((g : ℕ) → AlikeAt c held more (Global g))
    → is_held c for_key for_class r more (locked_object c r o) ≡ is_held c for_key for_class s held
    (locked_object c s o)
same_test c for_key for_class s r held more o e es h hs =
    ap (is_held c for_key for_class r more)
    (locked-site c o (object_at r o) ∙ ap (locked_by c o) e ∙ sym (locked-site c o (object_at s o)))
    ∙ at_locked (λ l. is_held c for_key for_class r more l ≡ is_held c for_key for_class s held l) c o (object_at s o)
    (at o e h) (λ g. at (Global g) (es g) (hs g)) where
      at : (l : ObjectName) → site_in (object_at r l) ≡ site_in (object_at s l) → AlikeAt c held more l
          → is_held c for_key for_class r more l ≡ is_held c for_key for_class s held l
      at l e h =
          is_held-site c for_key for_class more l (object_at r l) ∙ ap (held_by c for_key for_class more l) e
          ∙ alike-held_by c for_key for_class held more l (site_in (object_at s l)) h
          ∙ sym (is_held-site c for_key for_class held l (object_at s l))

-- ---- keys

-- different objects have different keys
pub other_key : (t n : ℕ) (o : ObjectName) → same_name (Made t n) o ≡ false
    → is_same_key (key_of o) (key.Made t n) ≡ false
other_key t n o e = by (is_same_key (key_of o) (key.Made t n)) refl where
  by : (b : Bool) → is_same_key (key_of o) (key.Made t n) ≡ b → b ≡ false
  by true is = absurd (true≢false
      (sym (same_name-eq (Made t n) o (sym (key_of-injective o (Made t n) (same_key (key_of o) (key.Made t n) is))))
      ∙ e))
  by false is = refl

-- ---- a change by thread t, which made n objects before

-- the key of a new object is no key of another
alike_after : (c : CompiledView) (t n : ℕ) (ch : Change) (held : List Grip) (o : ObjectName) → is_new t n ch o ≡ false
    → AlikeAt c held (held ++ grips_of c t n ch) o
alike_after c t n Unchanged held o e =
    record {
      all = ap (held_mode key.All) (append-nil held);
      object =
          ap (held_mode (key_of o)) (append-nil held);
      classes = λ m. ap (held_mode (key.Class m)) (append-nil held);
    }
alike_after c t n (Written z f d) held o e =
    record {
      all = ap (held_mode key.All) (append-nil held);
      object =
          ap (held_mode (key_of o)) (append-nil held);
      classes = λ m. ap (held_mode (key.Class m)) (append-nil held);
    }
alike_after c t n (Added x) held o e = by (guard_at c x.site) where
  by : (g : Option ℕ) → AlikeAt c held (held ++ fresh_grip g t n) o
  by None = record {
    all = held-push_other key.All (grip (key.Made t n) Exclusive) held refl;
    object = held-push_other (key_of o) (grip (key.Made t n) Exclusive) held (other_key t n o e);
    classes = λ m. held-push_other (key.Class m) (grip (key.Made t n) Exclusive) held refl;
  }
  by (Some g) = record {
    all = ap (held_mode key.All) (append-nil held);
    object =
        ap (held_mode (key_of o)) (append-nil held);
    classes = λ m. ap (held_mode (key.Class m)) (append-nil held);
  }

-- sites stay
site_after : (s : StoreView) (t : ℕ) (ch : Change) (o : ObjectName) → t < length s.made
    → is_new t (count s t) ch o ≡ false
    → site_in (object_at (after_change t s ch) o) ≡ site_in (object_at s o)
site_after s t ch o le e = ap site_in (object_at-after s t ch o le) ∙ site_stays t (count s t) ch o (object_at s o) e

-- the thread's own tests of objects that were there
pub own_test : (c : CompiledView) (for_key for_class : Mode → Bool) (s : StoreView) (t : ℕ) (ch : Change)
    (held : List Grip) (o : ObjectName)
    → t < length s.made → is_new t (count s t) ch o ≡ false
    → is_held c for_key for_class (after_change t s ch) (held ++ grips_of c t (count s t) ch)
    (locked_object c (after_change t s ch) o)
    ≡ is_held c for_key for_class s held (locked_object c s o)
own_test c for_key for_class s t ch held o le e =
    same_test c for_key for_class s (after_change t s ch) held (held ++ grips_of c t (count s t) ch) o
    (site_after s t ch o le e) (λ g. site_after s t ch (Global g) le (global_is_old t (count s t) ch g))
    (alike_after c t (count s t) ch held o e)
    (λ g. alike_after c t (count s t) ch held (Global g) (global_is_old t (count s t) ch g))

-- and the tests of another, whose keys stay
pub other_test : (c : CompiledView) (for_key for_class : Mode → Bool) (s : StoreView) (t : ℕ) (ch : Change)
    (held : List Grip) (o : ObjectName)
    → t < length s.made → is_new t (count s t) ch o ≡ false
    → is_held c for_key for_class (after_change t s ch) held (locked_object c (after_change t s ch) o)
    ≡ is_held c for_key for_class s held (locked_object c s o)
other_test c for_key for_class s t ch held o le e =
    same_test c for_key for_class s (after_change t s ch) held held o
    (site_after s t ch o le e) (λ g. site_after s t ch (Global g) le (global_is_old t (count s t) ch g))
    (record { all = refl; object = refl; classes = λ n. refl })
    (λ g. record { all = refl; object = refl; classes = λ n. refl })

-- what held of an object for a thread still does after its own change
pub own_grows : (c : CompiledView) (for_key for_class : Mode → Bool) (s : StoreView) (t : ℕ) (ch : Change)
    (held : List Grip) (o : ObjectName)
    → t < length s.made → is_held c for_key for_class s held (locked_object c s o) ≡ true
    → is_held c for_key for_class (after_change t s ch) (held ++ grips_of c t (count s t) ch)
    (locked_object c (after_change t s ch) o) ≡ true
own_grows c for_key for_class s t ch held o le h =
    let more = grips_of c t (count s t) ch in
    holding_grows c s (after_change t s ch) held (held ++ more) (holds_append held more) (sites_stay t s le ch) for_key
    for_class o h

-- the same for the change of another thread
pub other_grows : (c : CompiledView) (for_key for_class : Mode → Bool) (s : StoreView) (t : ℕ) (ch : Change)
    (held : List Grip) (o : ObjectName)
    → t < length s.made → is_held c for_key for_class s held (locked_object c s o) ≡ true
    → is_held c for_key for_class (after_change t s ch) held (locked_object c (after_change t s ch) o) ≡ true
other_grows c for_key for_class s t ch held o le h =
    holding_grows c s (after_change t s ch) held held (holds_same held) (sites_stay t s le ch) for_key for_class o h

-- who may write may read
pub writers_read : (c : CompiledView) (s : StoreView) (held : List Grip) (o : ObjectName) → may_write c s held o ≡ true
    → may_read c s held o ≡ true
writers_read c s held o = at (locked_object c s o) (object_at s (locked_object c s o)) where
  reads_object : (m : Option Mode) → passes is_writing m ≡ true → passes is_reading_object m ≡ true
  reads_object None e = absurd (true≢false (sym e))
  reads_object (Some IntentionShared) e = absurd (true≢false (sym e))
  reads_object (Some IntentionExclusive) e = absurd (true≢false (sym e))
  reads_object (Some Shared) e = absurd (true≢false (sym e))
  reads_object (Some SharedIntentionExclusive) e = absurd (true≢false (sym e))
  reads_object (Some Exclusive) e = refl

  reads_class : (m : Option Mode) → passes is_writing m ≡ true → passes is_reading m ≡ true
  reads_class None e = absurd (true≢false (sym e))
  reads_class (Some IntentionShared) e = absurd (true≢false (sym e))
  reads_class (Some IntentionExclusive) e = absurd (true≢false (sym e))
  reads_class (Some Shared) e = absurd (true≢false (sym e))
  reads_class (Some SharedIntentionExclusive) e = absurd (true≢false (sym e))
  reads_class (Some Exclusive) e = refl

  either : (a b a' b' : Bool) → (a ≡ true → a' ≡ true) → (b ≡ true → b' ≡ true) → (a || b) ≡ true → (a' || b') ≡ true
  either true b a' b' f g e = ap (λ x. x || b') (f refl)
  either false b true b' f g e = refl
  either false b false b' f g e = g e

  at : (l : ObjectName) (x : Option ObjectView) → is_held_at c is_writing is_writing held l x ≡ true
      → is_held_at c is_reading_object is_reading held l x ≡ true
  at l None e = e
  at l (Some x) e =
      either (holds_all held) (passes is_writing (held_mode (key_of l) held) || passes is_writing
      (mode_of_class c held x.site))
      (holds_all held) (passes is_reading_object (held_mode (key_of l) held) || passes is_reading
      (mode_of_class c held x.site)) (λ all. all)
      (either (passes is_writing (held_mode (key_of l) held)) (passes is_writing (mode_of_class c held x.site))
      (passes is_reading_object (held_mode (key_of l) held)) (passes is_reading (mode_of_class c held x.site))
      (reads_object (held_mode (key_of l) held)) (reads_class (mode_of_class c held x.site))) e

-- afterwards it may write what it has touched
pub touched_is_written : (c : CompiledView) (s : StoreView) (t : ℕ) (ch : Change) (held : List Grip) (o : ObjectName)
    → t < length s.made
    → held_mode (key.Made t (count s t)) held ≡ None → IsAllowed c s held ch → touches t (count s t) ch o ≡ true
    → may_write c (after_change t s ch) (held ++ grips_of c t (count s t) ch) o ≡ true
touched_is_written c s t Unchanged held o le free granted e = absurd (true≢false (sym e))
touched_is_written c s t (Written z f d) held o le free granted e =
    own_test c is_writing is_writing s t (Written z f d) held o le refl
    ∙ ap (may_write c s held) (sym (same_name-true z o e)) ∙ granted
touched_is_written c s t (Added x) held o le free granted e = by (guard_at c x.site) refl where
  after : StoreView
  after = after_change t s (Added x)

  there : object_at after o ≡ Some x
  there = object_at-after s t (Added x) o le ∙ ap (λ b. if b then Some x else object_at s o) e

  by : (g : Option ℕ) → guard_at c x.site ≡ g
      → may_write c (after_change t s (Added x)) (held ++ fresh_grip g t (count s t)) o ≡ true
  by None is =
      ap (λ y. is_held c is_writing is_writing after (held ++ fresh_grip None t (count s t)) (locked_object_at c o y))
      there
      ∙ ap (λ g. is_held c is_writing is_writing after (held ++ fresh_grip None t (count s t)) (guard_or g o)) is
      ∙ ap (is_held_at c is_writing is_writing (held ++ fresh_grip None t (count s t)) o) there
      ∙ or_right (holds_all (held ++ fresh_grip None t (count s t)))
      (passes is_writing (held_mode (key_of o) (held ++ fresh_grip None t (count s t))) || passes is_writing
      (mode_of_class c (held ++ fresh_grip None t (count s t)) x.site))
      (ap (λ m. passes is_writing m || passes is_writing
      (mode_of_class c (held ++ fresh_grip None t (count s t)) x.site))
      (ap (λ q. held_mode (key_of q) (held ++ fresh_grip None t (count s t)))
      (sym (same_name-true (Made t (count s t)) o e))
      ∙ held_more (key.Made t (count s t)) held (grip (key.Made t (count s t)) Exclusive ∷ []) Exclusive free
      (held_one (key.Made t (count s t)) Exclusive)))
  by (Some g) is =
      ap (λ y. is_held c is_writing is_writing after (held ++ []) (locked_object_at c o y)) there
      ∙ ap (λ g. is_held c is_writing is_writing after (held ++ []) (guard_or g o)) is
      ∙ ap (λ h. is_held c is_writing is_writing after h (Global g)) (append-nil held)
      ∙ ap (may_make_by c s held x.site) (sym is) ∙ granted
