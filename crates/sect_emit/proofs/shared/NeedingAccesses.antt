-- Each access of a section generates its lock.
use Rattle.std.proofs.Common.{◌≡◌, ◌<◌, ℕ, length, get_or, Option, Some, None, refl, sym, ap, ◌∙◌, subst, arith}
use Rattle.std.proofs.lemmas.Option.{slice_get_within, slice_get-get_or}
use Rattle.sect_types.specs.{Programs.{sites_of}, declared.expansion.action.Base.{Base}}
use Rattle.sect_types.specs.{declared.expansion.action.Action.{Action}, declared.meaning.store.ObjectName.{ObjectName}}
use Rattle.sect_types.specs.{declared.meaning.store.Datum.TheVariants.{Refers}, Store.{StoreView}}
use Rattle.sect_types.specs.Meaning.{WorkView, base_datum}
use Rattle.sect_points.specs.{declared.holders.Variable.TheVariants.{Global}, Paths.{var}, PathClasses.{variable_of}}
use Rattle.sect_points.specs.Statements.{thread_action}
use Rattle.sect_names.specs.{declared.lock.Effect.{Effect}, Schemes.{SchemeView, IsScheme, guard_of}}
use Rattle.sect_names.specs.{Carrying.{Accesses, Makes}, Laws.{IsProgramStep}, Locks.{VariableTo}}
use Rattle.sect_names.specs.{Records.{IsTypedProgram, SiteOf}, Along.{read_for}}
use Rattle.sect_emit.specs.{Pointed.{IsPointed}, NeededAccesses.{IsObjectOf, MakesLocked, NeedsItsAccess}}
use Rattle.sect_names.proofs.shared.{Placing.{statement_sound, statement_sited}, Typing.{base_to}}
use Rattle.sect_names.proofs.shared.{Beginning.{read_variable}, Owning.{own_base}}
use Rattle.sect_emit.proofs.Pointing.{base_variable}
use Rattle.sect_emit.proofs.shared.Pointing.{denoted}
use Rattle.sect_types.specs.declared.expansion.action.Action.TheVariants as action
use Rattle.sect_types.specs.declared.expansion.action.Label.TheVariants as label
use Rattle.sect_names.specs.declared.lock.Effect.TheVariants as effect
use Rattle.sect_names.specs.declared.lock.Right.TheVariants as right
use Rattle.sect_names.specs.declared.lock.Lock.TheVariants as lock

module _ (s : SchemeView) (scheme : IsScheme s) (typed : IsTypedProgram s.program) (t : ℕ) (store : StoreView)
    (w : WorkView) (pointed : IsPointed s t store w) where
  looked : (b : Base) (r : ℕ) (e : Effect) (o : ObjectName) → VariableTo s.program (variable_of t b) r
      → base_datum w.locals b ≡ Refers o
      → IsObjectOf s store r o × Accesses s (variable_of t b) r e
      (lock.Path (read_for (guard_of s.guards r) (var (variable_of t b))) e)
  looked b r e o to at =
      let k = denoted s scheme typed t store w pointed (var (variable_of t b)) r o to (own_base t b)
      (base_variable t w.locals b ∙ at) in (
        (k.0, k.1, k.3),
        (
          (k.4.0, k.4.1),
          ap (λ p. lock.Path p e) (read_variable s scheme (guard_of s.guards r) (variable_of t b)),
        ),
      )

  making : (x r i : ℕ) → SiteOf s.program i r → MakesLocked s t (action.New x r i) (guard_of s.guards r) i
  making x r i of = by (guard_of s.guards r) refl
    where
      within : i < length s.classes.numbers
      within = omega (
        arith,
        slice_get_within (sites_of s.program.globals s.program.texts) i r of,
        scheme.sites,
        scheme.parted.sites,
      )

      by : (o : Option ℕ) → guard_of s.guards r ≡ o → MakesLocked s t (action.New x r i) o i
      by None is =
          let n = get_or s.classes.numbers i 0 in
          let at = slice_get-get_or s.classes.numbers i 0 within in
          (n, at, subst (λ g. Makes s g i (lock.Class n right.Make)) (sym is) (n, at, refl))
      by (Some g) is = subst (λ o. Makes s o i (lock.Path (var (Global g)) effect.Write)) (sym is) refl

  -- a statement that looks into an object or makes one generates the lock for it
  pub access_needed : (a : Action) → IsProgramStep s t (label.Act a) → NeedsItsAccess s t store w a
  access_needed (action.Assign x v) there = tt
  access_needed (action.Compute x v o u) there = tt
  access_needed (action.New x r i) there = let of =
      statement_sited s.program typed (thread_action t (action.New x r i)) there in (of, making x r i of)
  access_needed (action.Load x b f) there =
      let sound = statement_sound s.program typed (thread_action t (action.Load x b f)) there in
      λ o at. looked b f.of effect.Read o (base_to s.program t b f.of sound.1) at
  access_needed (action.Store b f v) there =
      let sound = statement_sound s.program typed (thread_action t (action.Store b f v)) there in
      λ o at. looked b f.of effect.Write o (base_to s.program t b f.of sound.1) at
  access_needed (action.Print v) there = tt
