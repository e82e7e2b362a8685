-- What a sound step of a thread needs, and what it carries back, are locks that the thread's sections may take.
use Rattle.std.proofs.Common.{◌≡◌, ℕ, ◌<◌, length, length-append, Option, Some, None, refl, sym, subst, inl, inr, arith}
use Rattle.std.proofs.lemmas.Option.{slice_get-get_or}
use Rattle.std.specs.Prelude.{slice_index_or}
use Rattle.sect_types.specs.{Programs.{environment_at, all_made}, Sound.{IsSoundAction}}
use Rattle.sect_types.specs.{declared.expansion.action.Base.{Base}, declared.expansion.action.Action.{Action}}
use Rattle.sect_types.specs.declared.expansion.action.Label.{Label}
use Rattle.sect_lemmas.proofs.Membership.{Has-slice_get}
use Rattle.sect_points.specs.{declared.holders.Variable.{Variable}, declared.holders.Variable.TheVariants.{Global}}
use Rattle.sect_points.specs.{Paths.{PathView, var}, PathClasses.{variable_of}}
use Rattle.sect_names.specs.{declared.lock.Effect.{Effect}, declared.lock.Lock.{Lock}}
use Rattle.sect_names.specs.Schemes.{SchemeView, IsScheme, guard_of}
use Rattle.sect_names.specs.Locks.{VariableTo, PathTo, IsOwn, IsClassed, IsPathIn, IsLockOf}
use Rattle.sect_names.specs.Carrying.{locked_for, Accesses, Makes, GeneratedBy, Generated, LockOn, CarriedBack}
use Rattle.sect_names.specs.Laws.{IsSoundStep}
use Rattle.sect_names.proofs.shared.{Typing.{base_to, path_to}, Owning.{own_base, own_before}}
use Rattle.sect_types.specs.declared.expansion.action.Action.TheVariants as action
use Rattle.sect_types.specs.declared.expansion.action.Label.TheVariants as label
use Rattle.sect_names.specs.declared.lock.Effect.TheVariants as effect
use Rattle.sect_names.specs.declared.lock.Lock.TheVariants as lock

module _ (s : SchemeView) (scheme : IsScheme s) where
  -- a global has a class: it is a site, and refers to its own object
  pub global_classed : (g : ℕ) → g < length s.program.globals → IsClassed s (var (Global g))
  global_classed g there =
      let numbers = s.classes.numbers in
      let within : g < length numbers =
      omega (
        arith,
        there,
        scheme.parted.sites,
        scheme.sites,
        length-append s.program.globals (all_made s.program.texts),
      ) in
      (slice_index_or numbers g 0, (g, refl, slice_get-get_or numbers g 0 within))

  module _ (t : ℕ) where
    variable_in : (v : Variable) (r : ℕ) → IsOwn t (var v) → VariableTo s.program v r → IsClassed s (var v)
        → IsPathIn s t (var v)
    variable_in v r own to classed = record { own = own; of = r; refers = to; short = omega arith; classed = classed }

    guard_in : (r g : ℕ) → guard_of s.guards r ≡ Some g → IsPathIn s t (var (Global g))
    guard_in r g is =
        let guard = scheme.unguarded r g is in
        variable_in (Global g) guard.own tt guard.of_own (global_classed g guard.declared)

    access_in : (v : Variable) (r : ℕ) (e : Effect) (l : Lock) → IsOwn t (var v) → VariableTo s.program v r
        → Accesses s v r e l → IsLockOf s t l
    access_in v r e l own to (classed, is) = subst (IsLockOf s t) (sym is) (by (guard_of s.guards r) refl)
      where
        by : (o : Option ℕ) → guard_of s.guards r ≡ o → IsPathIn s t (var (locked_for o v))
        by None at = variable_in v r own to classed
        by (Some g) at = guard_in r g at

    making_in : (r i : ℕ) (l : Lock) → Makes s (guard_of s.guards r) i l → IsLockOf s t l
    making_in r i l h = by (guard_of s.guards r) refl h
      where
        by : (o : Option ℕ) → guard_of s.guards r ≡ o → Makes s o i l → IsLockOf s t l
        by None at (n, class, is) = subst (IsLockOf s t) (sym is) (Has-slice_get s.classes.numbers i n class)
        by (Some g) at is = subst (IsLockOf s t) (sym is) (guard_in r g at)

    base_in : (b : Base) (r : ℕ) (e : Effect) (l : Lock) → VariableTo s.program (variable_of t b) r
        → Accesses s (variable_of t b) r e l → IsLockOf s t l
    base_in b r e l to h = access_in (variable_of t b) r e l (own_base t b) to h

    action_in : (a : Action) → IsSoundAction (environment_at s.program t) a → (l : Lock) → GeneratedBy s t a l
        → IsLockOf s t l
    action_in (action.Assign x v) sound l h = absurd h
    action_in (action.Compute x v o w) sound l h = absurd h
    action_in (action.New x r i) sound l h = making_in r i l h
    action_in (action.Load x b f) sound l h = base_in b f.of effect.Read l (base_to s.program t b f.of sound.1) h
    action_in (action.Store b f v) sound l h = base_in b f.of effect.Write l (base_to s.program t b f.of sound.1) h
    action_in (action.Print v) sound l h = absurd h

    lock_on_path : (e : Effect) (q : PathView) (r : ℕ) (l : Lock) → IsOwn t q → PathTo s.program q r → LockOn s e q l
        → IsLockOf s t l
    lock_on_path e q r l own to (n, class, limit) = elim limit [
      | inl (short, is) ↦ subst (IsLockOf s t) (sym is)
          (record { own = own; of = r; refers = to; short = short; classed = (n, class) })
      | inr (long, is) ↦ subst (IsLockOf s t) (sym is) (Has-slice_get s.classes.numbers class.0 n class.2)
    ]

  -- what a sound step needs of itself is a lock that the thread's sections may take
  pub generated_lock : (t : ℕ) (step : Label) → IsSoundStep s.program t step → (l : Lock) → Generated s t step l
      → IsLockOf s t l
  generated_lock t (label.Act a) sound l h = action_in t a sound l h
  generated_lock t (label.Test c) sound l h = absurd h
  generated_lock t (label.Section i) sound l h = absurd h

  -- what such a lock is carried back to over a sound step is one too
  pub carried_lock : (t : ℕ) (step : Label) → IsSoundStep s.program t step → (l r : Lock) → IsLockOf s t l
      → CarriedBack s t step l r → IsLockOf s t r
  carried_lock t step sound lock.All r h is = subst (IsLockOf s t) (sym is) tt
  carried_lock t step sound (lock.Class c w) r h is = subst (IsLockOf s t) (sym is) h
  carried_lock t step sound (lock.Path p e) r h (q, before, on) =
      lock_on_path t e q h.of r (own_before t s.classes step p q before h.own)
      (path_to s.program s.classes t step sound p q h.of before h.refers) on
