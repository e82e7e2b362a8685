-- What a step keeps, and what it takes.
use Rattle.std.proofs.Common.{true≢false, ◌≡◌, ◌<◌, ◌≤◌, ℕ, ℤ, zero, suc, Option, Some, None, Bool, true, false}
use Rattle.std.proofs.Common.{refl, sym, ap, subst, ◌∙◌, arith, if◌then◌else◌}
use Rattle.sect_types.specs.{declared.expansion.action.Action.{Action}, Environments.{Environment}}
use Rattle.sect_types.specs.{Statements.{TextView, Stop, Do, Choose, Loop, Section, joined}, Programs.{ProgramView}}
use Rattle.sect_types.specs.{Sound.{IsSound, StandsRight}, declared.meaning.store.Datum.TheVariants.{Number}}
use Rattle.sect_types.specs.{declared.meaning.store.Fault.{Fault}, declared.meaning.store.End.{End}}
use Rattle.sect_types.specs.Store.{ObjectView, StoreView}
use Rattle.sect_types.specs.Meaning.{WorkView, Came, Went, Fell, Unchanged, assigned, value_datum, integer_of}
use Rattle.sect_types.specs.Meaning.{result_of, fits, computed, done, paid, one, looks, found_at, Next, On, Off, going}
use Rattle.sect_types.specs.Meaning.{taken, next, is_true, begins_step}
use Rattle.sect_types.specs.Whole.{Left, Broken, body_of, FrameView, settled, failed, frame_after, begins_section}
use Rattle.sect_types.specs.Whole.{has_ended, is_standing, ahead}
use Rattle.sect_serial.specs.steps.{Moves.{Stepped, stepped, stepped_by}, Rests.{is_stop}, Frames.{IsReady}}
use Rattle.sect_types.proofs.shared.RunningAhead.{LeavesFuel, done_leaves, ahead_after_local}
use Rattle.sect_types.proofs.shared.{Joining.{sound_joined}, Starts.{settled_text}}
use Rattle.sect_types.proofs.shared.BodySteps.{looks_nowhere, left_after, step_keeps}
use Rattle.sect_types.specs.declared.expansion.action.Action.TheVariants as action
use Rattle.sect_types.specs.declared.meaning.store.Fault.TheVariants as fault

-- what follows a step is sound
pub sound_stepped : (e : Environment) (b : Bool) (p : ProgramView) (t : ℕ) (k : TextView) (found : Option ObjectView)
    (w : WorkView) (s : StoreView)
    → IsSound e b k → IsSound e b (stepped_by t k s (next p t k found w)).text
sound_stepped e b p t Stop found w s h = tt
sound_stepped e b p t (Do a k) found w s h = by (one p t a found w) where
  by : (came : Came) → IsSound e b (stepped_by t (Do a k) s (going k came)).text
  by (Went v c) = h.2
  by (Fell why v) = h
sound_stepped e b p t (Choose c y n k) found w s h = pay w.fuel where
  pay : (m : ℕ) → IsSound e b (stepped_by t (Choose c y n k) s (taken m c (joined y k) (joined n k) w)).text
  pay zero = h
  pay (suc m) = by (is_true w.locals c) where
    by : (holds : Bool) → IsSound e b (if holds then joined y k else joined n k)
    by true = sound_joined e b y k h.1 h.3
    by false = sound_joined e b n k h.2 h.3
sound_stepped e b p t (Loop c part k) found w s h = pay w.fuel where
  pay : (m : ℕ) → IsSound e b (stepped_by t (Loop c part k) s (taken m c (joined part (Loop c part k)) k w)).text
  pay zero = h
  pay (suc m) = by (is_true w.locals c) where
    by : (holds : Bool) → IsSound e b (if holds then joined part (Loop c part k) else k)
    by true = sound_joined e b part (Loop c part k) h.1 h
    by false = h.2
sound_stepped e b p t (Section i part k) found w s h = h.2

-- less fuel is left, unless it came to a fault
abbrev pub Spends : ℕ → Stepped → Type 0
Spends n r = r.fault ≡ None → r.work.fuel < n

-- a step that comes to no fault leaves less fuel
pub spends_stepped : (p : ProgramView) (t : ℕ) (k : TextView) (found : Option ObjectView) (w : WorkView) (s : StoreView)
    → begins_step k ≡ true
    → Spends w.fuel (stepped_by t k s (next p t k found w))
spends_stepped p t Stop found w s b = absurd (true≢false (sym b))
spends_stepped p t (Do a k) found w s b = pay w.fuel where
  come : (n : ℕ) (came : Came) → LeavesFuel n came → Spends (suc n) (stepped_by t (Do a k) s (going k came))
  come n (Went v c) e none = omega (arith, e)
  come n (Fell why v) e none = absurd (cc)

  pay : (n : ℕ) → Spends n (stepped_by t (Do a k) s (going k (paid n w (done p t a found))))
  pay zero none = absurd (cc)
  pay (suc n) none = come n (done p t a found (record w { fuel = n })) (done_leaves p t a found (record w { fuel = n }))
      none
spends_stepped p t (Choose c y z k) found w s b = pay w.fuel where
  pay : (n : ℕ) → Spends n (stepped_by t (Choose c y z k) s (taken n c (joined y k) (joined z k) w))
  pay zero none = absurd (cc)
  pay (suc n) none = omega arith
spends_stepped p t (Loop c part k) found w s b = pay w.fuel where
  pay : (n : ℕ) → Spends n (stepped_by t (Loop c part k) s (taken n c (joined part (Loop c part k)) k w))
  pay zero none = absurd (cc)
  pay (suc n) none = omega arith
spends_stepped p t (Section i part k) found w s b = absurd (true≢false (sym b))

-- what is left from here on
abbrev pub left_now : ProgramView → ℕ → TextView → WorkView → StoreView → Option Fault → Left
left_now p t k w s None = body_of p t k w s
left_now p t k w s (Some why) = Broken why w s

-- what is left after a step
abbrev left_from : ProgramView → ℕ → Stepped → Left
left_from p t r = left_now p t r.text r.work r.store r.fault

-- the same, seen from the definitions
left_alike : (p : ProgramView) (t : ℕ) (k : TextView) (s : StoreView) (n : Next)
    → left_after p t s n ≡ left_from p t (stepped_by t k s n)
left_alike p t k s (On rest w c) = refl
left_alike p t k s (Off why w) = refl

-- a step keeps what statements leave
pub left_stepped : (p : ProgramView) (t : ℕ) (k : TextView) (w : WorkView) (s : StoreView) (l : TextView) (v : WorkView)
    (r : StoreView) (f : Option Fault)
    → stepped l v r f ≡ stepped_by t k s (next p t k (found_at s (looks k w)) w)
    → body_of p t k w s ≡ left_now p t l v r f
left_stepped p t k w s l v r f e =
    step_keeps p t k w s ∙ left_alike p t k s (next p t k (found_at s (looks k w)) w) ∙ ap (left_from p t) (sym e)

-- and leaves the store as it is
pub store_local : (e : Environment) (p : ProgramView) (t : ℕ) (k : TextView) (found : Option ObjectView) (w : WorkView)
    (s : StoreView)
    → IsSound e false k → (stepped_by t k s (next p t k found w)).store ≡ s
store_local e p t Stop found w s h = refl
store_local e p t (Do a k) found w s h = pay w.fuel where
  came : (q : TextView) (a : Action) (v : WorkView) → StandsRight false a
      → (stepped_by t q s (going k (done p t a found v))).store ≡ s
  came q (action.Assign x u) v h = refl
  came q (action.Compute x l o r) v h =
      by (result_of o (integer_of (value_datum v.locals l)) (integer_of (value_datum v.locals r))) where
        by : (z : ℤ) → (stepped_by t q s (going k (computed x z v))).store ≡ s
        by z = fit (fits z) where
          fit : (b : Bool)
              → (stepped_by t q s
              (going k (if b then Went (assigned x (Number z) v) Unchanged else Fell fault.Overflow v))).store ≡ s
          fit true = refl
          fit false = refl
  came q (action.New x r site) v h = absurd (true≢false h)
  came q (action.Load x b f) v h = absurd (true≢false h)
  came q (action.Store b f u) v h = absurd (true≢false h)
  came q (action.Print u) v h = absurd (true≢false h)

  pay : (n : ℕ) → (stepped_by t (Do a k) s (going k (paid n w (done p t a found)))).store ≡ s
  pay zero = refl
  pay (suc n) = came (Do a k) a (record w { fuel = n }) h.1
store_local e p t (Choose c y z k) found w s h = pay w.fuel where
  pay : (n : ℕ) → (stepped_by t (Choose c y z k) s (taken n c (joined y k) (joined z k) w)).store ≡ s
  pay zero = refl
  pay (suc n) = refl
store_local e p t (Loop c part k) found w s h = pay w.fuel where
  pay : (n : ℕ) → (stepped_by t (Loop c part k) s (taken n c (joined part (Loop c part k)) k w)).store ≡ s
  pay zero = refl
  pay (suc n) = refl
store_local e p t (Section i part k) found w s h = refl

-- the frame after a step
abbrev pub frame_now : TextView → WorkView → Option Fault → FrameView
frame_now k w None = settled k w
frame_now k w (Some why) = failed why k w

-- the frame after what a step leaves
abbrev frame_from : Stepped → FrameView
frame_from r = frame_now r.text r.work r.fault

-- the same, seen from the definitions
frame_alike : (t : ℕ) (k : TextView) (s : StoreView) (n : Next) → frame_after k n ≡ frame_from (stepped_by t k s n)
frame_alike t k s (On rest w c) = refl
frame_alike t k s (Off why w) = refl

-- its local code run on is the same after a step of it
pub ahead_stepped : (e : Environment) (p : ProgramView) (t : ℕ) (f : FrameView) (s : StoreView) (l : TextView)
    (v : WorkView) (r : StoreView) (why : Option Fault)
    → IsSound e false f.text → f.ended ≡ None → begins_step f.text ≡ true
    → stepped l v r why ≡ stepped_by t f.text s (next p t f.text (found_at s (looks f.text f.work)) f.work)
    → ahead p t (frame_now l v why) ≡ ahead p t f
ahead_stepped e p t f s l v r why sound none steps is =
    ap (ahead p t) (ap frame_from (is
    ∙ ap (λ o. stepped_by t f.text s (next p t f.text (found_at s o) f.work)) (looks_nowhere e f.text f.work sound))
    ∙ sym (frame_alike t f.text s (next p t f.text None f.work)))
    ∙ ahead_after_local p t f none steps

-- a frame that does not stand has not ended, and has a step next
pub steps_outside : (f : FrameView) → is_standing f ≡ false → (has_ended f.ended ≡ false → is_stop f.text ≡ false)
    → (f.ended ≡ None) × (begins_step f.text ≡ true)
steps_outside f stands full = by f.text f.ended stands full where
  text : (k : TextView) → begins_section k ≡ false → is_stop k ≡ false → begins_step k ≡ true
  text Stop a b = absurd (true≢false b)
  text (Do a r) _ b = refl
  text (Choose c y z r) a b = refl
  text (Loop c l r) a b = refl
  text (Section i l r) a b = absurd (true≢false a)

  by : (k : TextView) (o : Option End) → (if has_ended o then true else begins_section k) ≡ false
      → (has_ended o ≡ false → is_stop k ≡ false)
      → (o ≡ None) × (begins_step k ≡ true)
  by k None stands full = (refl, text k stands (full refl))
  by k (Some end) stands full = absurd (true≢false stands)

-- a frame that is settled or has failed is ready
pub ready_settled : (k : TextView) (w : WorkView) → has_ended (settled k w).ended ≡ false
    → is_stop (settled k w).text ≡ false
ready_settled Stop w e = absurd (true≢false e)
ready_settled (Do a r) w e = refl
ready_settled (Choose c y z r) w e = refl
ready_settled (Loop c l r) w e = refl
ready_settled (Section i l r) w e = refl

-- how many steps a frame may still make, and one that ends it
abbrev pub room : FrameView → ℕ
room f = if has_ended f.ended then 0 else suc f.work.fuel

-- settling leaves no more room
room_settled : (k : TextView) (w : WorkView) → room (settled k w) ≤ suc w.fuel
room_settled Stop w = omega arith
room_settled (Do a r) w = omega arith
room_settled (Choose c y z r) w = omega arith
room_settled (Loop c l r) w = omega arith
room_settled (Section i l r) w = omega arith

-- a step outside sections: the frame g after it is ready, comes to what f comes to, and may make fewer steps
pub record Kept (e : Environment) (p : ProgramView) (t : ℕ) (f g : FrameView) : Type 0 where
  pub ready : IsReady e g
  pub same : ahead p t g ≡ ahead p t f
  pub less : room g < room f

-- what a step outside sections keeps
pub kept : (e : Environment) (p : ProgramView) (t : ℕ) (f : FrameView) (s : StoreView) (l : TextView) (v : WorkView)
    (r : StoreView) (why : Option Fault)
    → is_standing f ≡ false → IsReady e f
    → stepped l v r why ≡ stepped_by t f.text s (next p t f.text (found_at s (looks f.text f.work)) f.work)
    → Kept e p t f (frame_now l v why)
kept e p t f s l v r why stands ready is = record {
  ready = now why;
  same = ahead_stepped e p t f s l v r why ready.0 outside.0 outside.1 is;
  less = less why refl;
} where
  outside : (f.ended ≡ None) × (begins_step f.text ≡ true)
  outside = steps_outside f stands ready.1

  sound : IsSound e false l
  sound =
      subst (IsSound e false) (sym (ap (λ (x : Stepped). x.text) is))
      (sound_stepped e false p t f.text (found_at s (looks f.text f.work)) f.work s ready.0)

  now : (o : Option Fault) → IsReady e (frame_now l v o)
  now None = (subst (IsSound e false) (sym (settled_text l v)) sound, ready_settled l v)
  now (Some x) = (sound, λ n. absurd (true≢false n))

  open_room : room f ≡ suc f.work.fuel
  open_room = ap (λ (o : Option End). if has_ended o then 0 else suc f.work.fuel) outside.0

  spends : why ≡ None → v.fuel < f.work.fuel
  spends none =
      let h = spends_stepped p t f.text (found_at s (looks f.text f.work)) f.work s outside.1
      (ap (λ (x : Stepped). x.fault) (sym is) ∙ none) in
      rw (ap (λ (x : Stepped). x.work.fuel) is) h

  less : (o : Option Fault) → why ≡ o → room (frame_now l v o) < room f
  less None none = omega (arith, room_settled l v, spends none, open_room)
  less (Some x) some = omega (arith, open_room)

-- what is known once a step of a thread that doesn't stand has been made, where g is the frame before it
pub record AfterStep (e : Environment) (p : ProgramView) (t : ℕ) (g : FrameView) (s : StoreView) (l : TextView)
    (v : WorkView) (r : StoreView) (why : Option Fault) : Type 0 where
  pub kept : Kept e p t g (frame_now l v why)
  pub none : g.ended ≡ None
  pub store : r ≡ s

-- and so it is, where f is the frame as the code has it
pub after_step : (e : Environment) (p : ProgramView) (t : ℕ) (f g : FrameView) (s : StoreView) (l : TextView)
    (v : WorkView) (r : StoreView) (o why : Option Fault) (b : Bool)
    → f ≡ g → b ≡ is_standing g → b ≡ false → IsReady e g → o ≡ why
    → stepped l v r o ≡ stepped_by t f.text s (next p t f.text (found_at s (looks f.text f.work)) f.work)
    → AfterStep e p t g s l v r why
after_step e p t f g s l v r o why b seen tells goes ready same is = record {
  kept = kept e p t g s l v r why stands ready now;
  none = (steps_outside g stands ready.1).0;
  store = ap (λ (x : Stepped). x.store) now
      ∙ store_local e p t g.text (found_at s (looks g.text g.work)) g.work s ready.0;
} where
  stands : is_standing g ≡ false
  stands = sym tells ∙ goes

  now : stepped l v r why ≡ stepped_by t g.text s (next p t g.text (found_at s (looks g.text g.work)) g.work)
  now =
      subst (λ (x : FrameView). stepped l v r why ≡ stepped_by t x.text s
      (next p t x.text (found_at s (looks x.text x.work)) x.work)) seen
      (ap (stepped l v r) (sym same) ∙ is)
