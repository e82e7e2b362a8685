-- The locks that a thread comes to need: on paths of its own, whose objects nothing guards.
use Rattle.std.proofs.Common.{◌≡◌, ℕ, List, [], ◌∷◌, Option, Some, None, refl, sym, subst, inl, inr}
use Rattle.sect_lemmas.specs.Lists.{Has}
use Rattle.sect_types.specs.{Statements.{TextView}, Programs.{environment_at}, Sound.{IsSoundAction}}
use Rattle.sect_types.specs.{declared.expansion.action.Base.{Base}, declared.expansion.action.Action.{Action}}
use Rattle.sect_types.specs.declared.expansion.action.Label.{Label}
use Rattle.sect_points.specs.{declared.holders.Variable.TheVariants.{Global}, Paths.{PathView, var}}
use Rattle.sect_points.specs.PathClasses.{variable_of}
use Rattle.sect_names.specs.{declared.lock.Effect.{Effect}, declared.lock.Lock.{Lock}}
use Rattle.sect_names.specs.{Schemes.{SchemeView, IsScheme, guard_of}, Locks.{PathTo, IsOwn}}
use Rattle.sect_names.specs.Carrying.{locked_for, Accesses, Makes, GeneratedBy, Generated, LockOn, CarriedBack}
use Rattle.sect_names.specs.{Laws.{IsSoundStep}, Records.{IsTypedProgram, KeepsItsRecord, IsNeedable}}
use Rattle.sect_names.specs.{Walks.{StandsInThread}, Along.{NeededAlong, NeededIn, AreProgramSteps}}
use Rattle.sect_names.proofs.shared.{Typing.{base_to, path_to}, Owning.{own_base, own_before}, Placing.{step_sound}}
use Rattle.sect_names.proofs.shared.Walking.{walk_stands}
use Rattle.sect_types.specs.declared.expansion.action.Action.TheVariants as action
use Rattle.sect_types.specs.declared.expansion.action.Label.TheVariants as label
use Rattle.sect_names.specs.declared.lock.Effect.TheVariants as effect
use Rattle.sect_names.specs.declared.lock.Lock.TheVariants as lock

module _ (s : SchemeView) (t : ℕ) where
  -- steps keep the records of paths
  pub keeps_record : (step : Label) → IsSoundStep s.program t step → KeepsItsRecord s t step
  keeps_record step sound p q r before to = path_to s.program s.classes t step sound p q r before to

  -- an own path that refers to objects whose record nothing guards
  abbrev IsBare : PathView → Type 0
  IsBare p = IsOwn t p × ((r : ℕ) × PathTo s.program p r × (guard_of s.guards r ≡ None))

  on_path : (e : Effect) (q : PathView) (l : Lock) → IsBare q → LockOn s e q l → IsNeedable s t l
  on_path e q l bare (n, class, limit) = elim limit [
    | inl (short, is) ↦ subst (IsNeedable s t) (sym is) bare
    | inr (long, is) ↦ subst (IsNeedable s t) (sym is) tt
  ]

  -- what such a lock is carried back to over a sound step is one again
  pub carried_needable : (step : Label) → IsSoundStep s.program t step → (l r : Lock) → IsNeedable s t l
      → CarriedBack s t step l r → IsNeedable s t r
  carried_needable step sound lock.All r h is = subst (IsNeedable s t) (sym is) tt
  carried_needable step sound (lock.Class c w) r h is = subst (IsNeedable s t) (sym is) tt
  carried_needable step sound (lock.Path p e) r (own, (n, to, free)) (q, before, on) =
      on_path e q r (own_before t s.classes step p q before own, (n, keeps_record step sound p q n before to, free)) on

  module _ (scheme : IsScheme s) where
    bare_guard : (r g : ℕ) → guard_of s.guards r ≡ Some g → IsBare (var (Global g))
    bare_guard r g is = let u = scheme.unguarded r g is in (tt, (u.own, u.of_own, u.none))

    access_needable : (b : Base) (r : ℕ) (e : Effect) (l : Lock) → PathTo s.program (var (variable_of t b)) r
        → Accesses s (variable_of t b) r e l → IsNeedable s t l
    access_needable b r e l to (classed, is) = subst (IsNeedable s t) (sym is) (by (guard_of s.guards r) refl)
      where
        by : (o : Option ℕ) → guard_of s.guards r ≡ o → IsBare (var (locked_for o (variable_of t b)))
        by None at = (own_base t b, (r, to, at))
        by (Some g) at = bare_guard r g at

    making_needable : (r i : ℕ) (l : Lock) → Makes s (guard_of s.guards r) i l → IsNeedable s t l
    making_needable r i l h = by (guard_of s.guards r) refl h
      where
        by : (o : Option ℕ) → guard_of s.guards r ≡ o → Makes s o i l → IsNeedable s t l
        by None at (n, class, is) = subst (IsNeedable s t) (sym is) tt
        by (Some g) at is = subst (IsNeedable s t) (sym is) (bare_guard r g at)

    action_needable : (a : Action) → IsSoundAction (environment_at s.program t) a → (l : Lock) → GeneratedBy s t a l
        → IsNeedable s t l
    action_needable (action.Assign x v) sound l h = absurd h
    action_needable (action.Compute x v o w) sound l h = absurd h
    action_needable (action.New x r i) sound l h = making_needable r i l h
    action_needable (action.Load x b f) sound l h =
        access_needable b f.of effect.Read l (base_to s.program t b f.of sound.1) h
    action_needable (action.Store b f v) sound l h =
        access_needable b f.of effect.Write l (base_to s.program t b f.of sound.1) h
    action_needable (action.Print v) sound l h = absurd h

    -- what a sound step needs of itself is such a lock
    pub generated_needable : (step : Label) → IsSoundStep s.program t step → (l : Lock) → Generated s t step l
        → IsNeedable s t l
    generated_needable (label.Act a) sound l h = action_needable a sound l h
    generated_needable (label.Test c) sound l h = absurd h
    generated_needable (label.Section i) sound l h = absurd h

    module _ (typed : IsTypedProgram s.program) (last : List Lock) (ends : (l : Lock) → Has last l → IsNeedable s t l)
      where
        along_needable : (steps : List Label) → AreProgramSteps s t steps → (l : Lock) → NeededAlong s t last steps l
            → IsNeedable s t l
        along_needable [] there l h = ends l h
        along_needable (step ∷ steps) there l h = elim h [
          | inl own ↦ generated_needable step (step_sound s typed t step there.0) l own
          | inr (m, needs, back) ↦ carried_needable step (step_sound s typed t step there.0) m l
              (along_needable steps there.1 m needs) back
        ]

        -- so is all that a text of the thread needs
        pub needed_needable : (text : TextView) → StandsInThread s t text → (l : Lock) → NeededIn s t last text l
            → IsNeedable s t l
        needed_needable text stands l (steps, walk, needed) =
            along_needable steps (walk_stands s t steps text stands walk) l needed
