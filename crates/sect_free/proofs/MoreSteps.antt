-- What statements, and a thread's local code, leave with more fuel.
use Rattle.std.proofs.Common.{◌≡◌, ◌<◌, ◌+◌, ◌⊎◌, inl, inr, ℕ, ℤ, zero, suc, Option, Some, None, Bool, true, false}
use Rattle.std.proofs.Common.{refl, sym, ap, subst, ◌∙◌, arith, if◌then◌else◌, true≢false, ◌≤◌}
use Rattle.sect_types.specs.{declared.expansion.action.Condition.{Condition}, declared.expansion.action.Action.{Action}}
use Rattle.sect_types.specs.{Statements.{TextView, Stop, Do, Choose, Loop, Section, joined}, Programs.{ProgramView}}
use Rattle.sect_types.specs.declared.meaning.store.ObjectName.{ObjectName}
use Rattle.sect_types.specs.{declared.meaning.store.Datum.TheVariants.{Number}, Store.{ObjectView, StoreView}}
use Rattle.sect_types.specs.Meaning.{WorkView, Came, Went, Fell, Unchanged, assigned, name_in, base_datum}
use Rattle.sect_types.specs.Meaning.{value_datum, integer_of, result_of, fits, computed, stored, done, paid, one}
use Rattle.sect_types.specs.Meaning.{looked, found_at, going, taken, next, is_true}
use Rattle.sect_types.specs.Whole.{Left, Through, Broken, and_then, left_by, tested, turns, body_of, FrameView, settled}
use Rattle.sect_types.specs.Whole.{frame_after, local_step, begins_section, has_ended, is_standing, up_to, ahead}
use Rattle.sect_free.specs.States.{FrameLacks}
use Rattle.sect_types.proofs.shared.RunningAhead.{StandsOrSpent, step_spends, up_to_standing}
use Rattle.sect_types.specs.declared.expansion.action.Action.TheVariants as action
use Rattle.sect_types.specs.declared.meaning.store.Fault.TheVariants as fault

-- the same work with d units of fuel more
abbrev pub more : ℕ → WorkView → WorkView
more d w = record w { fuel = d + w.fuel }

-- a unit more
unit_more : (d n : ℕ) → suc (d + n) ≡ d + suc n
unit_more d n = omega arith

-- with more fuel statements leave the same, and all that is more, unless they wanted for some
abbrev pub Helped : ℕ → Left → Left → Type 0
Helped d (Through w s) b = b ≡ Through (more d w) s
Helped d (Broken fault.Fuel w s) b = Unit {0}
Helped d (Broken fault.Null w s) b = b ≡ Broken fault.Null (more d w) s
Helped d (Broken fault.Overflow w s) b = b ≡ Broken fault.Overflow (more d w) s

-- two parts, one after another
then_helped : (d : ℕ) (a b : Left) (f g : WorkView → StoreView → Left) → Helped d a b
    → ((w : WorkView) (s : StoreView) → Helped d (f w s) (g (more d w) s)) → Helped d (and_then a f) (and_then b g)
then_helped d (Through w s) b f g h k = subst (λ (x : Left). Helped d (f w s) (and_then x g)) (sym h) (k w s)
then_helped d (Broken fault.Fuel w s) b f g h k = tt
then_helped d (Broken fault.Null w s) b f g h k = ap (λ x. and_then x g) h
then_helped d (Broken fault.Overflow w s) b f g h k = ap (λ x. and_then x g) h

-- with more fuel a statement comes to the same, and leaves all that is more
abbrev CameHelped : ℕ → Came → Came → Type 0
CameHelped d (Went w c) b = b ≡ Went (more d w) c
CameHelped d (Fell why w) b = b ≡ Fell why (more d w)

-- what a statement does, once it is paid for, doesn't go by the fuel
done_helped : (p : ProgramView) (t d : ℕ) (a : Action) (found : Option ObjectView) (w : WorkView)
    → CameHelped d (done p t a found w) (done p t a found (more d w))
done_helped p t d (action.Assign x v) found w = refl
done_helped p t d (action.Compute x v o u) found w =
    by (result_of o (integer_of (value_datum w.locals v)) (integer_of (value_datum w.locals u))) where
      by : (z : ℤ) → CameHelped d (computed x z w) (computed x z (more d w))
      by z = fit (fits z) where
        fit : (b : Bool) → CameHelped d (if b then Went (assigned x (Number z) w) Unchanged else Fell fault.Overflow w)
            (if b then Went (assigned x (Number z) (more d w)) Unchanged else Fell fault.Overflow (more d w))
        fit true = refl
        fit false = refl
done_helped p t d (action.New x r site) found w = refl
done_helped p t d (action.Load x b f) None w = refl
done_helped p t d (action.Load x b f) (Some o) w = refl
done_helped p t d (action.Store b f v) found w = by (name_in (base_datum w.locals b)) where
  by : (o : Option ObjectName)
      → CameHelped d (stored f.number (value_datum w.locals v) o w)
      (stored f.number (value_datum w.locals v) o (more d w))
  by None = refl
  by (Some o) = refl
done_helped p t d (action.Print v) found w = refl

-- what it leaves
left_helped : (t d : ℕ) (s : StoreView) (a b : Came) → CameHelped d a b → Helped d (left_by t s a) (left_by t s b)
left_helped t d s (Went w c) b h = ap (left_by t s) h
left_helped t d s (Fell fault.Fuel w) b h = tt
left_helped t d s (Fell fault.Null w) b h = ap (left_by t s) h
left_helped t d s (Fell fault.Overflow w) b h = ap (left_by t s) h

-- a statement with its unit of fuel
one_helped : (p : ProgramView) (t d : ℕ) (a : Action) (found : Option ObjectView) (w : WorkView) (s : StoreView)
    → Helped d (left_by t s (one p t a found w)) (left_by t s (one p t a found (more d w)))
one_helped p t d a found w s = by w.fuel where
  by : (n : ℕ) → Helped d (left_by t s (paid n w (done p t a found)))
      (left_by t s (paid (d + n) (more d w) (done p t a found)))
  by zero = tt
  by (suc n) =
      let v = record w { fuel = n } in
      subst (λ m. Helped d (left_by t s (paid (suc n) w (done p t a found)))
      (left_by t s (paid m (more d w) (done p t a found)))) (unit_more d n)
      (left_helped t d s (done p t a found v) (done p t a found (more d v)) (done_helped p t d a found v))

-- a test
tested_helped : (d n : ℕ) (c : Condition) (f g h k : WorkView → StoreView → Left) (w : WorkView) (s : StoreView)
    → ((v : WorkView) (r : StoreView) → Helped d (f v r) (h (more d v) r))
    → ((v : WorkView) (r : StoreView) → Helped d (g v r) (k (more d v) r))
    → Helped d (tested n c f g w s) (tested (d + n) c h k (more d w) s)
tested_helped d zero c f g h k w s yes_part no_part = tt
tested_helped d (suc n) c f g h k w s yes_part no_part =
    subst (λ m. Helped d (tested (suc n) c f g w s) (tested m c h k (more d w) s)) (unit_more d n)
    (by (is_true w.locals c)) where
      v : WorkView
      v = record w { fuel = n }

      by : (b : Bool) → Helped d (if b then f v s else g v s) (if b then h (more d v) s else k (more d v) s)
      by true = yes_part v s
      by false = no_part v s

-- a loop, whose rounds are bound by no less
turns_helped : (d n m : ℕ) (c : Condition) (round : WorkView → StoreView → Left)
    → ((w : WorkView) (s : StoreView) → Helped d (round w s) (round (more d w) s)) → n ≤ m
    → (w : WorkView) (s : StoreView) → Helped d (turns n c round w s) (turns m c round (more d w) s)
turns_helped d zero m c round h le w s = tt
turns_helped d (suc n) zero c round h le w s = absurd (omega (arith, le))
turns_helped d (suc n) (suc m) c round h le w s =
    tested_helped d w.fuel c (λ v r. and_then (round v r) (turns n c round)) Through
    (λ v r. and_then (round v r) (turns m c round)) Through w s
    (λ v r. then_helped d (round v r) (round (more d v) r) (turns n c round) (turns m c round) (h v r)
    (turns_helped d n m c round h (omega (arith, le)))) (λ v r. refl)

-- statements
pub body_helped : (p : ProgramView) (t d : ℕ) (k : TextView) (w : WorkView) (s : StoreView)
    → Helped d (body_of p t k w s) (body_of p t k (more d w) s)
body_helped p t d Stop w s = refl
body_helped p t d (Do a r) w s =
    let found = found_at s (looked a w.locals) in
    then_helped d (left_by t s (one p t a found w)) (left_by t s (one p t a found (more d w))) (body_of p t r)
    (body_of p t r) (one_helped p t d a found w s) (body_helped p t d r)
body_helped p t d (Choose c y n r) w s =
    then_helped d (tested w.fuel c (body_of p t y) (body_of p t n) w s)
    (tested (d + w.fuel) c (body_of p t y) (body_of p t n) (more d w) s) (body_of p t r) (body_of p t r)
    (tested_helped d w.fuel c (body_of p t y) (body_of p t n) (body_of p t y) (body_of p t n) w s
    (body_helped p t d y) (body_helped p t d n)) (body_helped p t d r)
body_helped p t d (Loop c b r) w s =
    then_helped d (turns (suc w.fuel) c (body_of p t b) w s) (turns (suc (d + w.fuel)) c (body_of p t b) (more d w) s)
    (body_of p t r) (body_of p t r)
    (turns_helped d (suc w.fuel) (suc (d + w.fuel)) c (body_of p t b) (body_helped p t d b) (omega arith) w s)
    (body_helped p t d r)
body_helped p t d (Section i b r) w s = body_helped p t d r w s

-- the same frame with so much more fuel
abbrev pub more_frame : ℕ → FrameView → FrameView
more_frame d f = record f { work = more d f.work }

-- with more fuel the frame is the same, and has all that is more, unless it wanted for some
abbrev pub FrameHelped : ℕ → FrameView → FrameView → Type 0
FrameHelped d f g = FrameLacks f ⊎ (g ≡ more_frame d f)

pub settled_more : (d : ℕ) (k : TextView) (w : WorkView) → settled k (more d w) ≡ more_frame d (settled k w)
settled_more d Stop w = refl
settled_more d (Do a r) w = refl
settled_more d (Choose c y n r) w = refl
settled_more d (Loop c b r) w = refl
settled_more d (Section i b r) w = refl

-- one step outside sections
step_helped : (p : ProgramView) (t d : ℕ) (k : TextView) (w : WorkView)
    → FrameHelped d (frame_after k (next p t k None w)) (frame_after k (next p t k None (more d w)))
step_helped p t d Stop w = inr refl
step_helped p t d (Do a r) w = pay w.fuel where
  come : (a' b : Came) → CameHelped d a' b → FrameHelped d (frame_after (Do a r) (going r a'))
      (frame_after (Do a r) (going r b))
  come (Went v c) b h = inr (ap (λ x. frame_after (Do a r) (going r x)) h ∙ settled_more d r v)
  come (Fell why v) b h = inr (ap (λ x. frame_after (Do a r) (going r x)) h)

  pay : (n : ℕ) → FrameHelped d (frame_after (Do a r) (going r (paid n w (done p t a None))))
      (frame_after (Do a r) (going r (paid (d + n) (more d w) (done p t a None))))
  pay zero = inl refl
  pay (suc n) =
      let v = record w { fuel = n } in
      subst (λ m. FrameHelped d (frame_after (Do a r) (going r (done p t a None v)))
      (frame_after (Do a r) (going r (paid m (more d w) (done p t a None))))) (unit_more d n)
      (come (done p t a None v) (done p t a None (more d v)) (done_helped p t d a None v))
step_helped p t d (Choose c y z r) w = pay w.fuel where
  pay : (n : ℕ) → FrameHelped d (frame_after (Choose c y z r) (taken n c (joined y r) (joined z r) w))
      (frame_after (Choose c y z r) (taken (d + n) c (joined y r) (joined z r) (more d w)))
  pay zero = inl refl
  pay (suc n) =
      let k = if is_true w.locals c then joined y r else joined z r in
      subst (λ m. FrameHelped d (settled k (record w { fuel = n }))
      (frame_after (Choose c y z r) (taken m c (joined y r) (joined z r) (more d w)))) (unit_more d n)
      (inr (settled_more d k (record w { fuel = n })))
step_helped p t d (Loop c b r) w = pay w.fuel where
  pay : (n : ℕ) → FrameHelped d (frame_after (Loop c b r) (taken n c (joined b (Loop c b r)) r w))
      (frame_after (Loop c b r) (taken (d + n) c (joined b (Loop c b r)) r (more d w)))
  pay zero = inl refl
  pay (suc n) =
      let k = if is_true w.locals c then joined b (Loop c b r) else r in
      subst (λ m. FrameHelped d (settled k (record w { fuel = n }))
      (frame_after (Loop c b r) (taken m c (joined b (Loop c b r)) r (more d w)))) (unit_more d n)
      (inr (settled_more d k (record w { fuel = n })))
step_helped p t d (Section i b r) w = inr (settled_more d r w)

-- a step of what doesn't begin with a section takes a unit of fuel, or ends the thread
spends : (p : ProgramView) (t : ℕ) (k : TextView) (w : WorkView) → begins_section k ≡ false
    → StandsOrSpent w.fuel (frame_after k (next p t k None w))
spends p t Stop w e = inl refl
spends p t (Do a r) w e = step_spends p t (Do a r) None w refl
spends p t (Choose c y n r) w e = step_spends p t (Choose c y n r) None w refl
spends p t (Loop c b r) w e = step_spends p t (Loop c b r) None w refl
spends p t (Section i b r) w e = absurd (true≢false e)

-- a frame that doesn't stand begins with no section
no_section : (f : FrameView) → is_standing f ≡ false → begins_section f.text ≡ false
no_section f e = by (has_ended f.ended) e where
  by : (b : Bool) → (if b then true else begins_section f.text) ≡ false → begins_section f.text ≡ false
  by true e = absurd (true≢false e)
  by false e = e

-- local steps, as many as there may be
up_to_helped : (n m : ℕ) (p : ProgramView) (t d : ℕ) (f : FrameView) → f.work.fuel < n → d + f.work.fuel < m
    → FrameHelped d (up_to n p t f) (up_to m p t (more_frame d f))
up_to_helped zero m p t d f a b = absurd (omega (arith, a))
up_to_helped (suc n) zero p t d f a b = absurd (omega (arith, b))
up_to_helped (suc n) (suc m) p t d f a b = by (λ g. up_to_helped n m p t d g) (is_standing f) refl where
  past : FrameView
  past = local_step p t f

  on : ((g : FrameView) → g.work.fuel < n → d + g.work.fuel < m
      → FrameHelped d (up_to n p t g) (up_to m p t (more_frame d g)))
      → StandsOrSpent f.work.fuel past → FrameHelped d (up_to n p t past) (up_to m p t (more_frame d past))
  on again (inl stands) = inr
      (up_to_standing m p t (more_frame d past) stands ∙ sym (ap (more_frame d) (up_to_standing n p t past stands)))
  on again (inr spent) = again past (omega (arith, a, spent)) (omega (arith, b, spent))

  lacking : FrameLacks past → FrameLacks (up_to n p t past)
  lacking e =
      ap (λ (g : FrameView). g.ended)
      (up_to_standing n p t past (ap (λ e. if has_ended e then true else begins_section past.text) e))
      ∙ e

  step : ((g : FrameView) → g.work.fuel < n → d + g.work.fuel < m
      → FrameHelped d (up_to n p t g) (up_to m p t (more_frame d g)))
      → begins_section f.text ≡ false → FrameHelped d past (local_step p t (more_frame d f))
      → FrameHelped d (up_to n p t past) (up_to m p t (local_step p t (more_frame d f)))
  step again e (inl lacks) = inl (lacking lacks)
  step again e (inr same) =
      subst (λ g. FrameHelped d (up_to n p t past) (up_to m p t g)) (sym same)
      (on again (spends p t f.text f.work e))

  by : ((g : FrameView) → g.work.fuel < n → d + g.work.fuel < m
      → FrameHelped d (up_to n p t g) (up_to m p t (more_frame d g)))
      → (b : Bool) → is_standing f ≡ b
      → FrameHelped d (if b then f else up_to n p t past)
      (if b then more_frame d f else up_to m p t (local_step p t (more_frame d f)))
  by again true e = inr refl
  by again false e = step again (no_section f e) (step_helped p t d f.text f.work)

-- a thread's local code
pub ahead_helped : (p : ProgramView) (t d : ℕ) (f : FrameView)
    → FrameHelped d (ahead p t f) (ahead p t (more_frame d f))
ahead_helped p t d f = up_to_helped (suc f.work.fuel) (suc (d + f.work.fuel)) p t d f (omega arith) (omega arith)

-- and that of one that has ended so already
pub ahead_lacks : (p : ProgramView) (t : ℕ) (f : FrameView) → FrameLacks f → FrameLacks (ahead p t f)
ahead_lacks p t f e =
    ap (λ (g : FrameView). g.ended)
    (up_to_standing (suc f.work.fuel) p t f (ap (λ e. if has_ended e then true else begins_section f.text) e))
    ∙ e
