-- Steps outside sections: they look into no object, and change and print nothing.
use Rattle.std.proofs.Common.{◌≡◌, ℕ, zero, suc, Bool, true, false, refl, sym, ap, None, true≢false}
use Rattle.std.specs.Prelude.{if◌then◌else◌}
use Rattle.sect_types.specs.{declared.expansion.action.Condition.{Condition}, declared.expansion.action.Action.{Action}}
use Rattle.sect_types.specs.{Statements.{TextView, Stop, Do, Choose, Loop, Section, joined}, Environments.{Environment}}
use Rattle.sect_types.specs.{Sound.{IsSound, is_shared}, Programs.{ProgramView}}
use Rattle.sect_types.specs.{declared.meaning.store.Datum.TheVariants.{Number}, Store.{StoreView}}
use Rattle.sect_types.specs.Meaning.{WorkView, value_datum, Unchanged, Came, Went, Fell, assigned, integer_of}
use Rattle.sect_types.specs.Meaning.{result_of, fits, done, paid, one, found_at, Next, On, Off, going, taken, next}
use Rattle.sect_types.specs.Meaning.{looks}
use Rattle.sect_types.proofs.shared.BodySteps.{looks_nowhere}
use Rattle.sect_types.specs.declared.expansion.action.Action.TheVariants as action
use Rattle.sect_types.specs.declared.meaning.store.Fault.TheVariants as fault

-- so it is the same step, whatever the store
pub local_looks : (p : ProgramView) (e : Environment) (t : ℕ) (k : TextView) (w : WorkView) (s : StoreView)
    → IsSound e false k → next p t k None w ≡ next p t k (found_at s (looks k w)) w
local_looks p e t k w s sound = ap (λ o. next p t k (found_at s o) w) (sym (looks_nowhere e k w sound))

-- and a step changes and prints nothing
abbrev pub IsQuiet : WorkView → Next → Type 0
IsQuiet w (On k v ch) = (ch ≡ Unchanged) × (v.printed ≡ w.printed)
IsQuiet w (Off why v) = v.printed ≡ w.printed

abbrev CameQuiet : WorkView → Came → Type 0
CameQuiet w (Went v ch) = (ch ≡ Unchanged) × (v.printed ≡ w.printed)
CameQuiet w (Fell why v) = v.printed ≡ w.printed

going_quiet : (w : WorkView) (rest : TextView) (came : Came) → CameQuiet w came → IsQuiet w (going rest came)
going_quiet w rest (Went v ch) q = q
going_quiet w rest (Fell why v) q = q

taken_quiet : (n : ℕ) (d : Condition) (a b : TextView) (w : WorkView) → IsQuiet w (taken n d a b w)
taken_quiet zero d a b w = refl
taken_quiet (suc n) d a b w = (refl, refl)

done_quiet : (p : ProgramView) (t : ℕ) (a : Action) (w : WorkView) → is_shared a ≡ false
    → CameQuiet w (done p t a None w)
done_quiet p t (action.Assign x v) w e = (refl, refl)
done_quiet p t (action.Compute x v o u) w e =
    by (fits (result_of o (integer_of (value_datum w.locals v)) (integer_of (value_datum w.locals u)))) where
      by : (b : Bool) → CameQuiet w (if b then Went
          (assigned x (Number (result_of o (integer_of (value_datum w.locals v)) (integer_of (value_datum w.locals u))))
          w)
          Unchanged else Fell fault.Overflow w)
      by true = (refl, refl)
      by false = refl
done_quiet p t (action.New x r site) w e = absurd (true≢false e)
done_quiet p t (action.Load x b f) w e = absurd (true≢false e)
done_quiet p t (action.Store b f v) w e = absurd (true≢false e)
done_quiet p t (action.Print v) w e = absurd (true≢false e)

-- a step outside sections is quiet
pub local_quiet : (p : ProgramView) (e : Environment) (t : ℕ) (k : TextView) (w : WorkView) → IsSound e false k
    → IsQuiet w (next p t k None w)
local_quiet p e t Stop w sound = (refl, refl)
local_quiet p e t (Do a rest) w sound = going_quiet w rest (one p t a None w) (by w.fuel) where
  by : (n : ℕ) → CameQuiet w (paid n w (done p t a None))
  by zero = refl
  by (suc n) = done_quiet p t a (record w { fuel = n }) sound.1
local_quiet p e t (Choose d a b rest) w sound = taken_quiet w.fuel d (joined a rest) (joined b rest) w
local_quiet p e t (Loop d a rest) w sound = taken_quiet w.fuel d (joined a (Loop d a rest)) rest w
local_quiet p e t (Section i a rest) w sound = (refl, refl)
