-- Running a thread's local code on.
use Rattle.std.proofs.Common.{true≢false, ◌≡◌, ◌⊎◌, inl, inr, ℕ, ℤ, zero, suc, List, [], ◌∷◌, Option, Some, None, Bool}
use Rattle.std.proofs.Common.{true, false, refl, sym, ap, ◌∙◌, arith, if◌then◌else◌, slice_get, ◌+◌}
use Rattle.sect_types.specs.declared.expansion.action.Action.{Action}
use Rattle.sect_types.specs.{Statements.{TextView, Stop, Do, Choose, Loop, Section, joined}, Programs.{ProgramView}}
use Rattle.sect_types.specs.declared.meaning.store.ObjectName.{ObjectName}
use Rattle.sect_types.specs.{declared.meaning.store.Datum.TheVariants.{Number}, declared.meaning.store.End.{End}}
use Rattle.sect_types.specs.Store.{ObjectView}
use Rattle.sect_types.specs.Meaning.{WorkView, Came, Went, Fell, Unchanged, assigned, name_in, base_datum, value_datum}
use Rattle.sect_types.specs.Meaning.{integer_of, result_of, fits, computed, stored, done, paid, going, taken, next}
use Rattle.sect_types.specs.Meaning.{is_true, begins_step}
use Rattle.sect_types.specs.Whole.{FrameView, frame_after, local_step, begins_section, has_ended, is_standing, up_to}
use Rattle.sect_types.specs.Whole.{ahead, all_ahead}
use Rattle.sect_lemmas.proofs.Options.{mapped}
use Rattle.sect_types.proofs.shared.Starts.{settled_work}
use Rattle.sect_types.specs.declared.expansion.action.Action.TheVariants as action
use Rattle.sect_types.specs.declared.meaning.store.Fault.TheVariants as fault

-- where it goes on, this much fuel is left
abbrev pub LeavesFuel : ℕ → Came → Type 0
LeavesFuel n (Went w c) = w.fuel ≡ n
LeavesFuel n (Fell why w) = Unit {0}

-- what a statement does takes no fuel beside the unit that is paid for it
pub done_leaves : (p : ProgramView) (t : ℕ) (a : Action) (found : Option ObjectView) (w : WorkView)
    → LeavesFuel w.fuel (done p t a found w)
done_leaves p t (action.Assign x v) found w = refl
done_leaves p t (action.Compute x v o u) found w =
    by (result_of o (integer_of (value_datum w.locals v)) (integer_of (value_datum w.locals u))) where
      by : (z : ℤ) → LeavesFuel w.fuel (computed x z w)
      by z = fit (fits z) where
        fit : (b : Bool) → LeavesFuel w.fuel
            (if b then Went (assigned x (Number z) w) Unchanged else Fell fault.Overflow w)
        fit true = refl
        fit false = tt
done_leaves p t (action.New x r site) found w = refl
done_leaves p t (action.Load x b f) None w = tt
done_leaves p t (action.Load x b f) (Some o) w = refl
done_leaves p t (action.Store b f v) found w = by (name_in (base_datum w.locals b)) where
  by : (o : Option ObjectName) → LeavesFuel w.fuel (stored f.number (value_datum w.locals v) o w)
  by None = tt
  by (Some o) = refl
done_leaves p t (action.Print v) found w = refl

-- the frame stands, or has this much fuel but for one unit
abbrev pub StandsOrSpent : ℕ → FrameView → Type 0
StandsOrSpent n f = (is_standing f ≡ true) ⊎ (suc f.work.fuel ≡ n)

-- a step takes a unit of fuel, or ends the thread
pub step_spends : (p : ProgramView) (t : ℕ) (k : TextView) (found : Option ObjectView) (w : WorkView)
    → begins_step k ≡ true
    → StandsOrSpent w.fuel (frame_after k (next p t k found w))
step_spends p t Stop found w b = absurd (true≢false (sym b))
step_spends p t (Do a r) found w b = pay w.fuel where
  come : (n : ℕ) (came : Came) → LeavesFuel n came → StandsOrSpent (suc n) (frame_after (Do a r) (going r came))
  come n (Went v c) e = inr (ap suc (ap (λ (x : WorkView). x.fuel) (settled_work r v) ∙ e))
  come n (Fell why v) e = inl refl

  pay : (n : ℕ) → StandsOrSpent n (frame_after (Do a r) (going r (paid n w (done p t a found))))
  pay zero = inl refl
  pay (suc n) = come n (done p t a found (record w { fuel = n })) (done_leaves p t a found (record w { fuel = n }))
step_spends p t (Choose c y z r) found w b = pay w.fuel where
  pay : (n : ℕ) → StandsOrSpent n (frame_after (Choose c y z r) (taken n c (joined y r) (joined z r) w))
  pay zero = inl refl
  pay (suc n) =
      inr
      (ap suc (ap (λ (x : WorkView). x.fuel)
      (settled_work (if is_true w.locals c then joined y r else joined z r) (record w { fuel = n }))))
step_spends p t (Loop c l r) found w b = pay w.fuel where
  pay : (n : ℕ) → StandsOrSpent n (frame_after (Loop c l r) (taken n c (joined l (Loop c l r)) r w))
  pay zero = inl refl
  pay (suc n) =
      inr
      (ap suc (ap (λ (x : WorkView). x.fuel)
      (settled_work (if is_true w.locals c then joined l (Loop c l r) else r) (record w { fuel = n }))))
step_spends p t (Section i l r) found w b = absurd (true≢false (sym b))

-- a frame that stands stays as it is
pub up_to_standing : (n : ℕ) (p : ProgramView) (t : ℕ) (f : FrameView) → is_standing f ≡ true → up_to n p t f ≡ f
up_to_standing zero p t f e = refl
up_to_standing (suc n) p t f e = ap (λ b. if b then f else up_to n p t (local_step p t f)) e

-- a frame that stands is where it comes to
pub ahead_standing : (p : ProgramView) (t : ℕ) (f : FrameView) → is_standing f ≡ true → ahead p t f ≡ f
ahead_standing p t f e = up_to_standing (suc f.work.fuel) p t f e

-- a thread that has not ended, and comes next to a statement or test, doesn't stand
not_standing : (k : TextView) (e : Option End) → e ≡ None → begins_step k ≡ true
    → (if has_ended e then true else begins_section k) ≡ false
not_standing k e n b = ap (λ e. if has_ended e then true else begins_section k) n ∙ no_section k b where
  no_section : (k : TextView) → begins_step k ≡ true → begins_section k ≡ false
  no_section Stop b = refl
  no_section (Do a r) b = refl
  no_section (Choose c y z r) b = refl
  no_section (Loop c l r) b = refl
  no_section (Section i l r) b = absurd (true≢false (sym b))

-- its local code run on is the same after a step of it
pub ahead_after_local : (p : ProgramView) (t : ℕ) (f : FrameView) → f.ended ≡ None → begins_step f.text ≡ true
    → ahead p t (local_step p t f) ≡ ahead p t f
ahead_after_local p t f n b =
    by (step_spends p t f.text None f.work b)
    ∙ sym (ap (λ b. if b then f else up_to f.work.fuel p t (local_step p t f)) (not_standing f.text f.ended n b))
  where
    by : StandsOrSpent f.work.fuel (local_step p t f)
        → ahead p t (local_step p t f) ≡ up_to f.work.fuel p t (local_step p t f)
    by (inl e) = ahead_standing p t (local_step p t f) e ∙ sym (up_to_standing f.work.fuel p t (local_step p t f) e)
    by (inr e) = ap (λ n. up_to n p t (local_step p t f)) e

-- each frame of the list is run on, with its own thread's number
pub get-all_ahead : (p : ProgramView) (k : ℕ) (fs : List FrameView) (i : ℕ)
    → slice_get (all_ahead p k fs) i ≡ mapped (ahead p (k + i)) (slice_get fs i)
get-all_ahead p k [] i = refl
get-all_ahead p k (f ∷ fs) zero = ap (λ n. Some (ahead p n f)) (omega arith)
get-all_ahead p k (f ∷ fs) (suc i) = get-all_ahead p (k + 1) fs i
    ∙ ap (λ n. mapped (ahead p n) (slice_get fs i)) (omega arith)
