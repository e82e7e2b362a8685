-- Changes that held keys allow, and what a change leaves alone.
use Rattle.std.proofs.Common.{◌≡◌, ◌≢◌, ◌⊎◌, inl, inr, ℕ, ◌<◌, List, Bool, true, false, Option, Some, None, length}
use Rattle.std.proofs.Common.{refl, sym, ap, ◌∙◌, subst}
use Rattle.std.specs.Prelude.{⊤, if◌then◌else◌}
use Rattle.sect_types.specs.declared.meaning.store.ObjectName.{ObjectName}
use Rattle.sect_types.specs.Store.{ObjectView, StoreView, same_name, object_at, count, with_field, write}
use Rattle.sect_types.specs.Meaning.{Change, Unchanged, Written, Added, after_change}
use Rattle.sect_emit.specs.{declared.plan.Grip.{Grip}, Compiled.{CompiledView}, Pointed.{ObjectsStay}}
use Rattle.sect_world.specs.{Held.{may_write, may_make, Access, Storing, Making, may}, Accesses.{Asks}}
use Rattle.sect_lemmas.proofs.Options.{mapped}
use Rattle.sect_types.proofs.shared.Stores.{object_at-write, object_at-add, same_name-true}
use Rattle.sect_emit.proofs.shared.Pointing.{none_made}
use Rattle.sect_types.specs.declared.meaning.store.ObjectName.TheVariants as object

-- the change by thread t writes no object of this name and adds none
abbrev pub LeavesAlone : ℕ → StoreView → Change → ObjectName → Type 0
LeavesAlone t s Unchanged o = ⊤
LeavesAlone t s (Written z f d) o = z ≢ o
LeavesAlone t s (Added new) o = object.Made t (count s t) ≢ o

module _ (t : ℕ) (s : StoreView) (room : t < length s.made) where
  -- an object that is there after a change was there, of the same site, or is the one that was added
  pub was_there : (change : Change) (o : ObjectName) (y : ObjectView) → object_at (after_change t s change) o ≡ Some y
      → ((x : ObjectView) × (object_at s o ≡ Some x) × (x.site ≡ y.site))
      ⊎ ((change ≡ Added y) × (o ≡ object.Made t (count s t)))
  was_there Unchanged o y at = inl (y, at, refl)
  was_there (Written z f d) o y at = by (same_name z o) (object_at s o) refl (sym (object_at-write s z o f d) ∙ at)
    where
      by : (b : Bool) (r : Option ObjectView) → object_at s o ≡ r
          → (if b then mapped (with_field f d) r else r) ≡ Some y
          → ((x : ObjectView) × (object_at s o ≡ Some x) × (x.site ≡ y.site))
          ⊎ ((Written z f d ≡ Added y) × (o ≡ object.Made t (count s t)))
      by true None is e = absurd cc
      by true (Some x) is e = let same : with_field f d x ≡ y = cc in inl (x, is, ap (λ (q : ObjectView). q.site) same)
      by false r is e = inl (y, is ∙ e, refl)
  was_there (Added new) o y at =
      by (same_name (object.Made t (count s t)) o) refl (sym (object_at-add s t new o room) ∙ at)
    where
      by : (b : Bool) → same_name (object.Made t (count s t)) o ≡ b → (if b then Some new else object_at s o) ≡ Some y
          → ((x : ObjectView) × (object_at s o ≡ Some x) × (x.site ≡ y.site))
          ⊎ ((Added new ≡ Added y) × (o ≡ object.Made t (count s t)))
      by true is e = let same : new ≡ y = cc in
          inr (ap Added same, sym (same_name-true (object.Made t (count s t)) o is))
      by false is e = inl (y, e, refl)

  -- an object stays where it is left alone
  pub left_alone : (change : Change) (o : ObjectName) → LeavesAlone t s change o
      → object_at (after_change t s change) o ≡ object_at s o
  left_alone Unchanged o h = refl
  left_alone (Written z f d) o h = object_at-write s z o f d ∙ by (same_name z o) refl
    where
      by : (b : Bool) → same_name z o ≡ b
          → (if b then mapped (with_field f d) (object_at s o) else object_at s o) ≡ object_at s o
      by true is = absurd (h (same_name-true z o is))
      by false is = refl
  left_alone (Added new) o h = object_at-add s t new o room ∙ by (same_name (object.Made t (count s t)) o) refl
    where
      by : (b : Bool) → same_name (object.Made t (count s t)) o ≡ b
          → (if b then Some new else object_at s o) ≡ object_at s o
      by true is = absurd (h (same_name-true (object.Made t (count s t)) o is))
      by false is = refl

  -- the name of the next object is that of none
  pub next_is_none : (o : ObjectName) (x : ObjectView) → object_at s o ≡ Some x → object.Made t (count s t) ≢ o
  next_is_none o x at e = none_made s t x (subst (λ z. object_at s z ≡ Some x) (sym e) at)

  -- a change keeps the objects with their sites
  pub sites_stay : (change : Change) → ObjectsStay s (after_change t s change)
  sites_stay Unchanged o x at = (x, at, refl)
  sites_stay (Written z f d) o x at = by (same_name z o) (object_at-write s z o f d)
    where
      by : (b : Bool) → object_at (write s z f d) o ≡ if b then mapped (with_field f d) (object_at s o) else object_at s
          o → (y : ObjectView) × (object_at (write s z f d) o ≡ Some y) × (y.site ≡ x.site)
      by true e = (with_field f d x, e ∙ ap (mapped (with_field f d)) at, refl)
      by false e = (x, e ∙ at, refl)
  sites_stay (Added new) o x at = (x, left_alone (Added new) o (next_is_none o x at) ∙ at, refl)

-- the keys that are held allow the change
abbrev pub IsAllowed : CompiledView → StoreView → List Grip → Change → Type 0
IsAllowed c s held Unchanged = ⊤
IsAllowed c s held (Written o f d) = may_write c s held o ≡ true
IsAllowed c s held (Added x) = may_make c s held x.site ≡ true

-- a change that a step asks for is allowed to a thread that holds what it asks for
pub asked_is_allowed : (c : CompiledView) (s : StoreView) (held : List Grip) (ch : Change) (a : Option Access)
    → Asks ch a
    → ((b : Access) → a ≡ Some b → may c s held b ≡ true) → IsAllowed c s held ch
asked_is_allowed c s held Unchanged a asks holds = tt
asked_is_allowed c s held (Written z f d) a asks holds = holds (Storing z) asks
asked_is_allowed c s held (Added x) a asks holds = holds (Making x.site) asks
