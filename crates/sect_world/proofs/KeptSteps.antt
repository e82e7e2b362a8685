-- A step keeps the store and the work of its thread.
use Rattle.std.proofs.Common.{◌≡◌, ◌≢◌, ℕ, zero, suc, ◌<◌, Bool, true, false, refl, sym, ap, ◌∙◌, subst, [], length}
use Rattle.std.proofs.Common.{Option, Some, None}
use Rattle.std.specs.Prelude.{⊤, slice_index_or, if◌then◌else◌}
use Rattle.sect_lemmas.specs.Lists.{Has}
use Rattle.sect_types.specs.{declared.expansion.action.Condition.{Condition}, declared.expansion.action.Action.{Action}}
use Rattle.sect_types.specs.declared.expansion.action.Label.TheVariants.{Act}
use Rattle.sect_types.specs.{Statements.{TextView, Stop, Do, Choose, Loop, Section, joined}, Programs.{ProgramView}}
use Rattle.sect_types.specs.declared.meaning.store.ObjectName.{ObjectName}
use Rattle.sect_types.specs.{declared.meaning.store.ObjectName.TheVariants.{Made}, declared.meaning.store.Datum.{Datum}}
use Rattle.sect_types.specs.declared.meaning.store.Datum.TheVariants.{Number}
use Rattle.sect_types.specs.Store.{ObjectView, StoreView, count, object_at, write, add, with_field, same_name}
use Rattle.sect_types.specs.Meaning.{WorkView, base_datum, value_datum, name_in, fresh, Unchanged, after_change, Came}
use Rattle.sect_types.specs.Meaning.{Went, Fell, assigned, integer_of, result_of, fits, stored, done, paid, one, looked}
use Rattle.sect_types.specs.Meaning.{found_at, Next, On, Off, going, taken, is_true, next, looks}
use Rattle.sect_points.specs.Statements.{thread_action, thread_actions}
use Rattle.sect_names.specs.{Laws.{IsProgramStep}, Records.{IsTypedProgram, SiteOf}}
use Rattle.sect_lemmas.proofs.{Options.{some_injective, none_or_some, mapped}, Replaced.{length-changed_at}}
use Rattle.sect_types.proofs.shared.Data.{length-fresh}
use Rattle.sect_types.proofs.shared.Stores.{object_at-write, object_at-add, count-write, count-add_other, rows-write}
use Rattle.sect_types.proofs.shared.Stores.{rows-add, next_is_free, same_name-refl}
use Rattle.sect_names.proofs.shared.Placing.{statement_sited}
use Rattle.sect_emit.specs.Compiled.{CompiledView, IsCompiled, program_of}
use Rattle.sect_emit.specs.Pointed.{IsPointed, ArePointed, ObjectsStay, StepsTo}
use Rattle.sect_emit.proofs.shared.{Pointing.{HasDone, action_done, step_pointed}, TypedPrograms.{typed_program}}
use Rattle.sect_world.specs.Kept.{IsTextOf, IsStoreKept, IsWorkKept}
use Rattle.sect_world.proofs.Listing.{text_joined}
use Rattle.sect_types.specs.declared.expansion.action.Action.TheVariants as action
use Rattle.sect_types.specs.declared.meaning.store.Fault.TheVariants as fault

-- objects stay, each with its site; only thread t makes new ones
pub record Grows (t : ℕ) (s after : StoreView) : Type 0 where
  pub keeps : ObjectsStay s after
  pub others : (u : ℕ) → t ≢ u → count after u ≡ count s u

-- a store has grown to itself
pub grows_same : (t : ℕ) (s : StoreView) → Grows t s s
grows_same t s = record { keeps = λ o x e. (x, e, refl); others = λ u e. refl }

-- the name of a new object is none that is there
pub fresh_name : (s : StoreView) (t : ℕ) (x : ObjectView) → object_at s (Made t (count s t)) ≡ Some x → ⊥
fresh_name s t x e = none_or_some x (sym (next_is_free s t) ∙ e)

-- a new object is there under it
pub added_there : (s : StoreView) (t : ℕ) (o : ObjectView) → t < length s.made
    → object_at (add s t o) (Made t (count s t)) ≡ Some o
added_there s t o lt =
    object_at-add s t o (Made t (count s t)) lt
    ∙ ap (λ b. if b then Some o else object_at s (Made t (count s t))) (same_name-refl (Made t (count s t)))

-- a step that fails changes neither locals nor the count
abbrev FellSame : WorkView → Came → Type 0
FellSame w (Went v ch) = ⊤
FellSame w (Fell why v) = (v.locals ≡ w.locals) × (v.made ≡ w.made)

done_fell : (p : ProgramView) (t : ℕ) (a : Action) (found : Option ObjectView) (w : WorkView)
    → FellSame w (done p t a found w)
done_fell p t (action.Assign x v) found w = tt
done_fell p t (action.Compute x v o u) found w =
    by (fits (result_of o (integer_of (value_datum w.locals v)) (integer_of (value_datum w.locals u)))) where
      by : (b : Bool) → FellSame w (if b then Went
          (assigned x (Number (result_of o (integer_of (value_datum w.locals v)) (integer_of (value_datum w.locals u))))
          w)
          Unchanged else Fell fault.Overflow w)
      by true = tt
      by false = (refl, refl)
done_fell p t (action.New x r site) found w = tt
done_fell p t (action.Load x b f) None w = (refl, refl)
done_fell p t (action.Load x b f) (Some y) w = tt
done_fell p t (action.Store b f v) found w = by (name_in (base_datum w.locals b)) where
  by : (o : Option ObjectName) → FellSame w (stored f.number (value_datum w.locals v) o w)
  by None = (refl, refl)
  by (Some o) = tt
done_fell p t (action.Print v) found w = tt

one_fell : (p : ProgramView) (t : ℕ) (a : Action) (found : Option ObjectView) (w : WorkView)
    → FellSame w (one p t a found w)
one_fell p t a found w = by w.fuel where
  by : (n : ℕ) → FellSame w (paid n w (done p t a found))
  by zero = (refl, refl)
  by (suc n) = same (done p t a found (record w { fuel = n })) (done_fell p t a found (record w { fuel = n })) where
    same : (came : Came) → FellSame (record w { fuel = n }) came → FellSame w came
    same (Went v ch) h = tt
    same (Fell why v) h = h

module _ (c : CompiledView) (is : IsCompiled c) where
  abbrev HasRecord : ObjectView → Type 0
  HasRecord x = (r : ℕ) × SiteOf (program_of c) x.site r
      × (length x.fields ≡ length (slice_index_or (program_of c).records r []))

  -- rows, sites and the counts of other threads stay
  abbrev Shaped : ℕ → StoreView → StoreView → Type 0
  Shaped t s after =
      (length after.made ≡ length s.made) × ((u : ℕ) → t ≢ u → count after u ≡ count s u)
      × (((o : ObjectName) (x : ObjectView) → object_at s o ≡ Some x → HasRecord x) → (o : ObjectName) (x : ObjectView)
      → object_at after o ≡ Some x → HasRecord x)

  shaped_same : (t : ℕ) (s after : StoreView) → after ≡ s → Shaped t s after
  shaped_same t s after e = subst (Shaped t s) (sym e) (refl, λ u apart. refl, λ all. all)

  shaped_write : (t : ℕ) (s : StoreView) (o : ObjectName) (f : ℕ) (d : Datum) → Shaped t s (write s o f d)
  shaped_write t s o f d = (rows-write s o f d, λ u apart. count-write s o f d u, sited) where
    sited : ((q : ObjectName) (x : ObjectView) → object_at s q ≡ Some x → HasRecord x)
        → (q : ObjectName) (y : ObjectView) → object_at (write s o f d) q ≡ Some y → HasRecord y
    sited all q y at = by (same_name o q) (object_at s q) refl (sym (object_at-write s o q f d) ∙ at) where
      by : (b : Bool) (z : Option ObjectView) → object_at s q ≡ z
          → (if b then mapped (with_field f d) z else z) ≡ Some y → HasRecord y
      by true None there e = absurd (none_or_some y e)
      by true (Some x) there e =
          subst HasRecord (some_injective (with_field f d x) y e)
          (let h = all q x there in (h.0, h.1, length-changed_at f (λ old. d) x.fields ∙ h.2))
      by false z there e = all q y (there ∙ e)

  shaped_add : (t : ℕ) (s : StoreView) (new : ObjectView) → t < length s.made → HasRecord new → Shaped t s (add s t new)
  shaped_add t s new lt has = (rows-add s t new, λ u apart. count-add_other s t u new apart, sited) where
    sited : ((q : ObjectName) (x : ObjectView) → object_at s q ≡ Some x → HasRecord x)
        → (q : ObjectName) (y : ObjectView) → object_at (add s t new) q ≡ Some y → HasRecord y
    sited all q y at = by (same_name (Made t (count s t)) q) (sym (object_at-add s t new q lt) ∙ at) where
      by : (b : Bool) → (if b then Some new else object_at s q) ≡ Some y → HasRecord y
      by true e = subst HasRecord (some_injective new y e) has
      by false e = all q y e

  typed : IsTypedProgram (program_of c)
  typed = typed_program c is

  done_shaped : (t : ℕ) (a : Action) → IsProgramStep c.scheme t (Act a) → (s after : StoreView) (w v : WorkView)
      → t < length s.made
      → HasDone (program_of c) t a s w after v → Shaped t s after
  done_shaped t (action.Assign x v) there s after w z lt h = shaped_same t s after h.0
  done_shaped t (action.Compute x v o u) there s after w z lt h = shaped_same t s after h.0
  done_shaped t (action.New x r site) there s after w z lt h =
      subst (Shaped t s) (sym h.0) (shaped_add t s (fresh site (slice_index_or (program_of c).records r [])) lt (
        r,
        statement_sited (program_of c) typed (thread_action t (action.New x r site)) there,
        length-fresh (slice_index_or (program_of c).records r []),
      ))
  done_shaped t (action.Load x b f) there s after w z lt h = shaped_same t s after h.0
  done_shaped t (action.Store b f v) there s after w z lt h =
      subst (Shaped t s) (sym h.0.2) (shaped_write t s h.0.0 f.number (value_datum w.locals v))
  done_shaped t (action.Print v) there s after w z lt h = shaped_same t s after h.0

  -- what a statement leaves: all that is kept
  abbrev pub IsCameKept : StoreView → ℕ → Came → Type 0
  IsCameKept s t (Went w ch) = IsWorkKept c (after_change t s ch) t w × IsStoreKept c (after_change t s ch)
      × Grows t s (after_change t s ch)
  IsCameKept s t (Fell why w) = IsWorkKept c s t w

  one_kept : (s : StoreView) (t : ℕ) (a : Action) (w : WorkView) → t < length s.made → IsStoreKept c s
      → IsWorkKept c s t w
      → Has (thread_actions (program_of c)) (thread_action t a)
      → IsCameKept s t (one (program_of c) t a (found_at s (looked a w.locals)) w)
  one_kept s t a w lt ks kw there =
      by (one (program_of c) t a (found_at s (looked a w.locals)) w) refl
      (one_fell (program_of c) t a (found_at s (looked a w.locals)) w) where
        by : (came : Came) → one (program_of c) t a (found_at s (looked a w.locals)) w ≡ came → FellSame w came
            → IsCameKept s t came
        by (Fell why v) e same = record {
          made = same.1 ∙ kw.made;
          locals =
              subst (ArePointed c.scheme s t) (sym same.0) kw.locals;
        }
        by (Went v ch) e same =
            let pointed : IsPointed c.scheme t s w =
            record { objects = ks.pointed; locals = kw.locals; row = lt; made = kw.made } in
            let does : StepsTo (program_of c) t (Act a) s w (after_change t s ch) v = (ch, e, refl) in
            let kept = step_pointed c.scheme is.scheme typed t s w pointed (Act a) there (after_change t s ch) v does in
            let shaped = done_shaped t a there s (after_change t s ch) w v lt
            (action_done (program_of c) t s a w (after_change t s ch) v does) in (
              record { made = kept.0.made; locals = kept.0.locals },
              record { rows = shaped.0 ∙ ks.rows; pointed = kept.0.objects; sited = shaped.2 ks.sited },
              record { keeps = kept.1; others = shaped.1 },
            )

  -- what a next step leaves: statements of the same thread, and all that is kept
  abbrev pub IsNextKept : StoreView → ℕ → Bool → Next → Type 0
  IsNextKept s t inside (On k w ch) =
      IsTextOf (program_of c) t inside k × IsWorkKept c (after_change t s ch) t w × IsStoreKept c (after_change t s ch)
      × Grows t s (after_change t s ch)
  IsNextKept s t inside (Off why w) = IsWorkKept c s t w

  going_kept : (s : StoreView) (t : ℕ) (inside : Bool) (rest : TextView) (came : Came)
      → IsTextOf (program_of c) t inside rest → IsCameKept s t came → IsNextKept s t inside (going rest came)
  going_kept s t inside rest (Went w ch) text k = (text, k.0, k.1, k.2)
  going_kept s t inside rest (Fell why w) text k = k

  taken_kept : (s : StoreView) (t : ℕ) (inside : Bool) (n : ℕ) (d : Condition) (a b : TextView) (w : WorkView)
      → IsStoreKept c s → IsWorkKept c s t w → IsTextOf (program_of c) t inside a
      → IsTextOf (program_of c) t inside b → IsNextKept s t inside (taken n d a b w)
  taken_kept s t inside zero d a b w ks kw ta tb = kw
  taken_kept s t inside (suc n) d a b w ks kw ta tb =
      (by (is_true w.locals d), record { made = kw.made; locals = kw.locals }, ks, grows_same t s) where
        by : (x : Bool) → IsTextOf (program_of c) t inside (if x then a else b)
        by true = ta
        by false = tb

  -- the next step keeps store and work, and leaves a text of the thread
  pub next_kept : (s : StoreView) (t : ℕ) (inside : Bool) (k : TextView) (w : WorkView) → t < length s.made
      → IsStoreKept c s → IsWorkKept c s t w → IsTextOf (program_of c) t inside k
      → IsNextKept s t inside (next (program_of c) t k (found_at s (looks k w)) w)
  next_kept s t inside Stop w lt ks kw text = (text, kw, ks, grows_same t s)
  next_kept s t inside (Do a rest) w lt ks kw text =
      going_kept s t inside rest (one (program_of c) t a (found_at s (looked a w.locals)) w)
      (record { sound = text.sound.2; listed = text.listed.1 })
      (one_kept s t a w lt ks kw text.listed.0)
  next_kept s t inside (Choose d p q rest) w lt ks kw text =
      let r : IsTextOf (program_of c) t inside rest = record { sound = text.sound.3; listed = text.listed.2 } in
      taken_kept s t inside w.fuel d (joined p rest) (joined q rest) w ks kw
      (text_joined (program_of c) t inside p rest (record { sound = text.sound.1; listed = text.listed.0 }) r)
      (text_joined (program_of c) t inside q rest (record { sound = text.sound.2; listed = text.listed.1 }) r)
  next_kept s t inside (Loop d p rest) w lt ks kw text =
      taken_kept s t inside w.fuel d (joined p (Loop d p rest)) rest w ks kw
      (text_joined (program_of c) t inside p (Loop d p rest) (record { sound = text.sound.1; listed = text.listed.0 })
      text)
      (record { sound = text.sound.2; listed = text.listed.1 })
  next_kept s t inside (Section i p rest) w lt ks kw text =
      (record { sound = text.sound.2; listed = text.listed.2 }, kw, ks, grows_same t s)
