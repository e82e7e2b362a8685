-- A thread runs its local code and a whole section while all others stand outside.
use Rattle.std.proofs.Common.{true≢false, ◌≡◌, ◌≢◌, ◌≤◌, ◌++◌, ◌∙◌, refl, sym, ap, subst, arith, ℕ, zero, suc, inl, inr}
use Rattle.std.proofs.Common.{Bool, true, false, List, [], ◌∷◌, map, Option, Some, None, if◌then◌else◌}
use Rattle.std.proofs.{lemmas.Bool.{and_from}, lemmas.List.{append-nil, append_assoc}}
use Rattle.std.specs.{Prelude.{ℤ, slice_get}, List.{list_all}}
use Rattle.sect_lemmas.specs.Lists.{Has, put_at}
use Rattle.sect_lemmas.proofs.{Options.{some_injective, none_or_some}, Replaced.{put_same, at_map, map_put}}
use Rattle.sect_types.specs.{declared.meaning.store.End.{End}, declared.meaning.store.Fault.{Fault}}
use Rattle.sect_types.specs.{Programs.{ProgramView}, Statements.{TextView, Stop, Do, Choose, Loop, Section, joined}}
use Rattle.sect_types.specs.{Store.{ObjectView, StoreView}, declared.expansion.action.Condition.{Condition}}
use Rattle.sect_types.specs.Meaning.{WorkView, Came, Went, Fell, Change, Next, On, Off, after_change, going, paid, done}
use Rattle.sect_types.specs.Meaning.{taken, next, looks, found_at, begins_step}
use Rattle.sect_types.specs.Whole.{FrameView, RunView, Left, Through, Broken, body_of, ahead, up_to, local_step}
use Rattle.sect_types.specs.Whole.{is_standing, has_ended, begins_section, frame_left, store_left, printed_left}
use Rattle.sect_types.specs.Whole.{after_section, run_section, section_of_thread, section_by}
use Rattle.sect_types.proofs.shared.{BodySteps.{left_after, step_keeps}, RunningAhead.{LeavesFuel, done_leaves}}
use Rattle.sect_modes.specs.{declared.mode.Mode.{Mode}, declared.key.Key.{Key}}
use Rattle.sect_emit.specs.{declared.plan.Grip.{Grip}, Plan.{Ascends, meets, is_met, held_mode}}
use Rattle.sect_emit.specs.Compiled.{CompiledView, IsCompiled, program_of}
use Rattle.sect_emit.specs.State.{Position, Entered, Running, Faulted, ThreadState, State, IsThread, outside, plan_at}
use Rattle.sect_emit.proofs.shared.{Plans.{ascending_mode}, Modes.{at_least_itself}}
use Rattle.sect_world.specs.declared.event.Deed.{Deed}
use Rattle.sect_world.specs.declared.event.Deed.TheVariants.{Local, Enter, Take, Begin, Act, Leave}
use Rattle.sect_world.specs.declared.event.Event.{Event}
use Rattle.sect_world.specs.Events.{Happens, all_but, lets_in, acting, changed_by, step_in, grips_of}
use Rattle.sect_world.specs.{Runs.{IsRun, leaver, order_of}, Kept.{IsWellKept}}
use Rattle.sect_world.proofs.{KeptStates.{runs_are_well_kept}, LongerRuns.{run_on, order_of-more}}
use Rattle.sect_types.specs.declared.meaning.store.Fault.TheVariants as fault

-- an element that is put twice is put once
pub put_twice : {A : Type 0} (t : ℕ) (x y : A) (xs : List A) → put_at t y (put_at t x xs) ≡ put_at t y xs
put_twice t x y [] = refl
put_twice zero x y (z ∷ xs) = refl
put_twice (suc t) x y (z ∷ xs) = ap (λ zs. z ∷ zs) (put_twice t x y xs)

-- the element that is there, put there
pub put_back : {A : Type 0} (t : ℕ) (x : A) (xs : List A) → slice_get xs t ≡ Some x → put_at t x xs ≡ xs
put_back t x [] at = refl
put_back zero x (z ∷ xs) at = ap (λ y. y ∷ xs) (sym (some_injective z x at))
put_back (suc t) x (z ∷ xs) at = ap (λ zs. z ∷ zs) (put_back t x xs at)

-- threads outside hold no key
all_let : (k : Key) (m : Mode) (fs : List FrameView) → list_all (lets_in k m) (map outside fs) ≡ true
all_let k m [] = refl
all_let k m (f ∷ fs) = all_let k m fs

others_let : (k : Key) (m : Mode) (t : ℕ) (th : ThreadState) (fs : List FrameView)
    → all_but t (lets_in k m) (put_at t th (map outside fs)) ≡ true
others_let k m t th [] = refl
others_let k m zero th (f ∷ fs) = all_let k m fs
others_let k m (suc t) th (f ∷ fs) = others_let k m t th fs

-- what holds each key of a plan in its mode meets the plan
all_met : (held plan : List Grip) → ((g : Grip) → Has plan g → held_mode g.key held ≡ Some g.mode)
    → meets held plan ≡ true
all_met held [] each = refl
all_met held (g ∷ gs) each =
    and_from (is_met (held_mode g.key held) g.mode) (meets held gs)
    (ap (λ o. is_met o g.mode) (each g (inl refl)) ∙ at_least_itself g.mode)
    (all_met held gs (λ h there. each h (inr there)))

-- a plan meets itself
pub meets_itself : (plan : List Grip) → Ascends plan → meets plan plan ≡ true
meets_itself plan ascends = all_met plan plan (ascending_mode plan ascends)

-- a fault is no going on
IsOff : Next → Type 0
IsOff (On k u c) = ⊥
IsOff (Off why u) = Unit {0}

off_or_on : (why : Fault) (u : WorkView) (rest : TextView) (v : WorkView) (change : Change)
    → Off why u ≡ On rest v change → ⊥
unfolding IsOff
off_or_on why u rest v change is = subst IsOff is tt

-- the fuel that is left where statements go on
fuel_of : ℕ → Next → ℕ
fuel_of n (On k u c) = u.fuel
fuel_of n (Off why u) = n

-- a statement that goes on takes a unit of fuel, and so does a test
going_spends : (r : TextView) (n : ℕ) (came : Came) → LeavesFuel n came → (rest : TextView) (v : WorkView)
    (change : Change) → going r came ≡ On rest v change → v.fuel ≡ n
unfolding fuel_of
going_spends r n (Went u c) left rest v change is = sym (ap (fuel_of n) is) ∙ left
going_spends r n (Fell why u) left rest v change is = absurd (off_or_on why u rest v change is)

taken_spends : (n : ℕ) (c : Condition) (yes_part no_part : TextView) (w : WorkView) (rest : TextView) (v : WorkView)
    (change : Change) → taken n c yes_part no_part w ≡ On rest v change → suc v.fuel ≡ n
unfolding fuel_of
taken_spends zero c yes_part no_part w rest v change is = absurd (off_or_on fault.Fuel w rest v change is)
taken_spends (suc n) c yes_part no_part w rest v change is = ap suc (sym (ap (fuel_of n) is))

next_spends : (p : ProgramView) (t : ℕ) (k : TextView) (found : Option ObjectView) (w : WorkView) (rest : TextView)
    (v : WorkView) (change : Change)
    → begins_step k ≡ true → next p t k found w ≡ On rest v change → suc v.fuel ≡ w.fuel
next_spends p t Stop found w rest v change b is = absurd (true≢false (sym b))
next_spends p t (Do a r) found w rest v change b is = pay w.fuel is where
  pay : (n : ℕ) → going r (paid n w (done p t a found)) ≡ On rest v change → suc v.fuel ≡ n
  pay zero is = absurd (off_or_on fault.Fuel w rest v change is)
  pay (suc n) is = ap suc
      (going_spends r n (done p t a found (record w { fuel = n }))
      (done_leaves p t a found (record w { fuel = n })) rest v change is)
next_spends p t (Choose c y z r) found w rest v change b is =
    taken_spends w.fuel c (joined y r) (joined z r) w rest v change is
next_spends p t (Loop c l r) found w rest v change b is =
    taken_spends w.fuel c (joined l (Loop c l r)) r w rest v change is
next_spends p t (Section i l r) found w rest v change b is = absurd (true≢false (sym b))

-- a run comes to this state, and sections have been left in this order
pub record Reached (c : CompiledView) (fuel : ℕ) (order : List ℕ) (s : State) : Type 0 where
  pub trace : List Event
  pub run : IsRun c fuel trace s
  pub ordered : order_of trace ≡ order

-- one event more
came_on : (c : CompiledView) (fuel : ℕ) (order : List ℕ) (s after : State) (t : ℕ) (d : Deed) → Reached c fuel order s
    → Happens c s (record { thread = t; deed = d }) after → leaver t d ≡ [] → Reached c fuel order after
came_on c fuel order s after t d came happens stays = record {
  trace = came.trace ++ record { thread = t; deed = d } ∷ [];
  run = run_on c fuel came.trace s after (record { thread = t; deed = d }) came.run happens;
  ordered = order_of-more came.trace (record { thread = t; deed = d })
      ∙ (ap (λ os. order_of came.trace ++ os) stays ∙ (append-nil (order_of came.trace) ∙ came.ordered));
}

came_left : (c : CompiledView) (fuel : ℕ) (order : List ℕ) (s after : State) (t : ℕ) → Reached c fuel order s
    → Happens c s (record { thread = t; deed = Leave }) after → Reached c fuel (order ++ t ∷ []) after
came_left c fuel order s after t came happens = record {
  trace = came.trace ++ record { thread = t; deed = Leave } ∷ [];
  run = run_on c fuel came.trace s after (record { thread = t; deed = Leave }) came.run happens;
  ordered = order_of-more came.trace (record { thread = t; deed = Leave }) ∙ ap (λ os. os ++ t ∷ []) came.ordered;
}

-- all threads stand outside, with the frames of this state of whole sections
abbrev pub resting : RunView → State
resting r = record { store = r.store; output = r.output; threads = map outside r.frames }

-- what is left to work with
abbrev work_left : Left → WorkView
work_left (Through w s) = w
work_left (Broken why w s) = w

-- where a thread stands at the end of section i
abbrev at_end : ℕ → Left → Position
at_end i (Through w s) = Running i Stop
at_end i (Broken why w s) = Faulted i why

abbrev how_over : Left → Option Fault
how_over (Through w s) = None
how_over (Broken why w s) = Some why

-- a frame that doesn't stand hasn't ended, and has a step next
not_ended : (g : FrameView) → is_standing g ≡ false → g.ended ≡ None
not_ended g moves = by g.ended refl moves where
  by : (o : Option End) → g.ended ≡ o → (if has_ended o then true else begins_section g.text) ≡ false → g.ended ≡ None
  by None is e = is
  by (Some x) is e = absurd (true≢false e)

no_section : (g : FrameView) → is_standing g ≡ false → begins_section g.text ≡ false
no_section g moves = by g.ended moves where
  by : (o : Option End) → (if has_ended o then true else begins_section g.text) ≡ false → begins_section g.text ≡ false
  by None e = e
  by (Some x) e = absurd (true≢false e)

has_step : (k : TextView) → begins_section k ≡ false → k ≢ Stop → begins_step k ≡ true
has_step Stop none other = absurd (other refl)
has_step (Do a r) none other = refl
has_step (Choose c y z r) none other = refl
has_step (Loop c l r) none other = refl
has_step (Section i l r) none other = absurd (true≢false none)

-- thread t, the frame of which is f, while all others stand outside with these frames
module _ (c : CompiledView) (compiled : IsCompiled c) (fuel : ℕ) (order : List ℕ) (t : ℕ) (fs : List FrameView)
    (f : FrameView) (there : slice_get fs t ≡ Some f) where
  -- that thread is this
  abbrev lone : StoreView → List ℤ → ThreadState → State
  lone store output th = record { store = store; output = output; threads = put_at t th (map outside fs) }

  at_lone : (store : StoreView) (output : List ℤ) (th : ThreadState) → IsThread (lone store output th) t th
  at_lone store output th = put_same t (outside f) th (map outside fs) (at_map outside fs t f there)

  -- it becomes another
  put_lone : (store : StoreView) (output : List ℤ) (th next : ThreadState)
      → lone store output next
      ≡ record { store = store; output = output; threads = put_at t next (put_at t th (map outside fs)) }
  put_lone store output th next =
      ap (λ ths. record { store = store; output = output; threads = ths }) (sym (put_twice t th next (map outside fs)))

  kept : (s : State) → Reached c fuel order s → IsWellKept c s
  kept s came = runs_are_well_kept c compiled fuel came.trace s came.run

  -- a step of its local code
  one_local : (g : FrameView) (store : StoreView) (output : List ℤ) → is_standing g ≡ false
      → Reached c fuel order (lone store output (outside g))
      → Reached c fuel order (lone store output (outside (local_step (program_of c) t g)))
  one_local g store output moves came =
      let at = at_lone store output (outside g) in
      let none = not_ended g moves in
      let more = ((kept (lone store output (outside g)) came).threads t (outside g) at).at.1 none in
      came_on c fuel order (lone store output (outside g))
      (lone store output (outside (local_step (program_of c) t g))) t
      Local came (
        outside g,
        at,
        (
          (refl, none),
          has_step g.text (no_section g moves) more,
          put_lone store output (outside g) (outside (local_step (program_of c) t g)),
        ),
      ) refl

  -- it runs its local code
  pub local_on : (n : ℕ) (g : FrameView) (store : StoreView) (output : List ℤ)
      → Reached c fuel order (lone store output (outside g))
      → Reached c fuel order (lone store output (outside (up_to n (program_of c) t g)))
  local_on zero g store output came = came
  local_on (suc n) g store output came = by (is_standing g) refl
      (local_on n (local_step (program_of c) t g) store output)
    where
      by : (b : Bool) → is_standing g ≡ b
          → (Reached c fuel order (lone store output (outside (local_step (program_of c) t g)))
          → Reached c fuel order (lone store output
          (outside (up_to n (program_of c) t (local_step (program_of c) t g)))))
          → Reached c fuel order
          (lone store output (outside (if b then g else up_to n (program_of c) t (local_step (program_of c) t g))))
      by true stands later = came
      by false moves later = later (one_local g store output moves came)

  -- it has entered, wants these keys and holds those
  abbrev entered : FrameView → List Grip → List Grip → ThreadState
  entered g ws hs = record { position = Entered; frame = g; wanted = ws; held = hs }

  -- it takes all keys that it wants
  take_all : (g : FrameView) (store : StoreView) (output : List ℤ) (ws hs : List Grip)
      → Reached c fuel order (lone store output (entered g ws hs))
      → Reached c fuel order (lone store output (entered g [] (hs ++ ws)))
  take_all g store output [] hs came =
      subst (λ held. Reached c fuel order (lone store output (entered g [] held))) (sym (append-nil hs)) came
  take_all g store output (w ∷ ws) hs came =
      subst (λ held. Reached c fuel order (lone store output (entered g [] held))) (append_assoc hs (w ∷ []) ws)
      (take_all g store output ws (hs ++ w ∷ [])
      (came_on c fuel order (lone store output (entered g (w ∷ ws) hs))
      (lone store output (entered g ws (hs ++ w ∷ []))) t (Take w.key w.mode) came (
        entered g (w ∷ ws) hs,
        at_lone store output (entered g (w ∷ ws) hs),
        (
          ws,
          refl,
          refl,
          others_let w.key w.mode t (entered g (w ∷ ws) hs) fs,
          put_lone store output (entered g (w ∷ ws) hs) (entered g ws (hs ++ w ∷ [])),
        ),
      ) refl))

  -- it runs section i, of which k is left, with these keys, and is to go on with the rest
  abbrev inside : ℕ → TextView → TextView → WorkView → List Grip → ThreadState
  inside i k rest w hs = record {
    position = Running i k;
    frame = record { text = rest; work = w; ended = None };
    wanted = [];
    held = hs;
  }

  -- it is at the end of section i, where this is left
  abbrev over : ℕ → TextView → Left → List Grip → ThreadState
  over i rest left hs = record {
    position = at_end i left;
    frame = record { text = rest; work = work_left left; ended = None };
    wanted = [];
    held = hs;
  }

  ReachedEnd : ℕ → TextView → List ℤ → Left → Type 0
  ReachedEnd i rest output left = (hs : List Grip)
      × Reached c fuel order (lone (store_left left) output (over i rest left hs))

  -- one step in the section, and what follows
  one_act : (i : ℕ) (k rest : TextView) (w : WorkView) (hs : List Grip) (store : StoreView) (output : List ℤ)
      → begins_step k ≡ true
      → ((l : TextView) (v : WorkView) (gs : List Grip) (after : StoreView) → suc v.fuel ≡ w.fuel
      → Reached c fuel order (lone after output (inside i l rest v gs))
      → ReachedEnd i rest output (body_of (program_of c) t l v after))
      → Reached c fuel order (lone store output (inside i k rest w hs))
      → ReachedEnd i rest output (body_of (program_of c) t k w store)
  unfolding ReachedEnd
  one_act i k rest w hs store output steps later came =
      subst (ReachedEnd i rest output) (sym (step_keeps (program_of c) t k w store))
      (by (step_in c t k w store) refl (came_on c fuel order (lone store output th)
      (record {
        store = changed_by t (step_in c t k w store) store;
        output = output;
        threads = put_at t (acting c t i (step_in c t k w store) th) (map outside fs);
      }) t Act came (
        th,
        at_lone store output th,
        (
          i,
          k,
          refl,
          steps,
          ap (λ ths. record { store = changed_by t (step_in c t k w store) store; output = output; threads = ths })
              (sym (put_twice t th (acting c t i (step_in c t k w store) th) (map outside fs))),
        ),
      ) refl)) where
        th : ThreadState
        th = inside i k rest w hs

        by : (n : Next) → step_in c t k w store ≡ n
            → Reached c fuel order
            (record {
              store = changed_by t n store;
              output = output;
              threads = put_at t (acting c t i n th) (map outside fs);
            })
            → ReachedEnd i rest output (left_after (program_of c) t store n)
        by (On l v change) is next_came =
            later l v (hs ++ grips_of c t w.made change) (after_change t store change)
            (next_spends (program_of c) t k (found_at store (looks k w)) w l v change steps is) next_came
        by (Off why v) is next_came = (hs, next_came)

  -- it runs what is left of the section, as long as there is fuel
  act_on : (n : ℕ) (i : ℕ) (k rest : TextView) (w : WorkView) (hs : List Grip) (store : StoreView) (output : List ℤ)
      → w.fuel ≤ n → Reached c fuel order (lone store output (inside i k rest w hs))
      → ReachedEnd i rest output (body_of (program_of c) t k w store)
  unfolding ReachedEnd
  act_on n i Stop rest w hs store output le came = (hs, came)
  act_on n i (Section j l r) rest w hs store output le came =
      let th : ThreadState = inside i (Section j l r) rest w hs in
      let own = (kept (lone store output th) came).threads t th (at_lone store output th) in
      absurd (true≢false own.at.sound.0)
  act_on zero i (Do a r) rest w hs store output le came = one_act i (Do a r) rest w hs store output refl
      (λ l v gs after spent next. absurd (omega (arith, le, spent))) came
  act_on zero i (Choose d y z r) rest w hs store output le came = one_act i (Choose d y z r) rest w hs store output refl
      (λ l v gs after spent next. absurd (omega (arith, le, spent))) came
  act_on zero i (Loop d l r) rest w hs store output le came = one_act i (Loop d l r) rest w hs store output refl
      (λ l v gs after spent next. absurd (omega (arith, le, spent))) came
  act_on (suc n) i (Do a r) rest w hs store output le came = one_act i (Do a r) rest w hs store output refl
      (λ l v gs after spent next. act_on n i l rest v gs after output (omega (arith, le, spent)) next) came
  act_on (suc n) i (Choose d y z r) rest w hs store output le came =
      one_act i (Choose d y z r) rest w hs store output refl
      (λ l v gs after spent next. act_on n i l rest v gs after output (omega (arith, le, spent)) next) came
  act_on (suc n) i (Loop d l r) rest w hs store output le came = one_act i (Loop d l r) rest w hs store output refl
      (λ l v gs after spent next. act_on n i l rest v gs after output (omega (arith, le, spent)) next) came

  -- it leaves the section
  leave : (i : ℕ) (rest : TextView) (left : Left) (output : List ℤ) (hs : List Grip)
      → Reached c fuel order (lone (store_left left) output (over i rest left hs))
      → Reached c fuel (order ++ t ∷ [])
      (lone (store_left left) (output ++ printed_left left) (outside (frame_left rest left)))
  leave i rest (Through w s) output hs came =
      let th : ThreadState = over i rest (Through w s) hs in
      came_left c fuel order (lone s output th)
      (lone s (output ++ w.printed) (outside (frame_left rest (Through w s)))) t came (
        th,
        at_lone s output th,
        (
          None,
          (i, refl),
          put_lone s (output ++ w.printed) th (outside (frame_left rest (Through w s))),
        ),
      )
  leave i rest (Broken why w s) output hs came =
      let th : ThreadState = over i rest (Broken why w s) hs in
      came_left c fuel order (lone s output th)
      (lone s (output ++ w.printed) (outside (frame_left rest (Broken why w s)))) t came (
        th,
        at_lone s output th,
        (
          Some why,
          (i, refl),
          put_lone s (output ++ w.printed) th (outside (frame_left rest (Broken why w s))),
        ),
      )

  -- it enters a section, takes all keys of its plan, and goes through
  go_through : (i : ℕ) (body rest : TextView) (w : WorkView) (store : StoreView) (output : List ℤ)
      → Reached c fuel order
      (lone store output (outside (record { text = Section i body rest; work = w; ended = None })))
      → Reached c fuel (order ++ t ∷ [])
      (lone (store_left (body_of (program_of c) t body w store))
      (output ++ printed_left (body_of (program_of c) t body w store))
      (outside (frame_left rest (body_of (program_of c) t body w store))))
  unfolding ReachedEnd
  go_through i body rest w store output came =
      let g : FrameView = record { text = Section i body rest; work = w; ended = None } in
      let plan : List Grip = plan_at c i store w.locals in
      let in_first = came_on c fuel order (lone store output (outside g))
      (lone store output (entered g plan [])) t Enter
      came (
        outside g,
        at_lone store output (outside g),
        (
          i,
          body,
          rest,
          (refl, refl),
          refl,
          put_lone store output (outside g) (entered g plan []),
        ),
      ) refl in
      let all = take_all g store output plan [] in_first in
      let th : ThreadState = entered g [] plan in
      let placed = ((kept (lone store output th) all).threads t th (at_lone store output th)).asks in
      let begun = came_on c fuel order (lone store output th) (lone store output (inside i body rest w plan)) t Begin
      all (
        th,
        at_lone store output th,
        (
          i,
          body,
          rest,
          record { entered = refl; wanted = refl; text = refl },
          meets_itself plan (subst Ascends (append-nil plan) placed.1),
          put_lone store output th (inside i body rest w plan),
        ),
      ) refl in
      let ran = act_on w.fuel i body rest w plan store output (omega arith) begun in
      leave i rest (body_of (program_of c) t body w store) output ran.0 ran.1

-- a thread's next whole section can be run by the machine alone
pub whole_section : (c : CompiledView) → IsCompiled c → (fuel : ℕ) (order : List ℕ) (t : ℕ) (r after : RunView)
    → Reached c fuel order (resting r) → run_section (program_of c) t r ≡ Some after
    → Reached c fuel (order ++ t ∷ []) (resting after)
whole_section c compiled fuel order t r after came is = by (slice_get r.frames t) refl is where
  parts : (f : FrameView) → slice_get r.frames t ≡ Some f → (text : TextView) (w : WorkView) (ended : Option End)
      → Reached c fuel order (record {
        store = r.store;
        output = r.output;
        threads = put_at t (outside (record { text = text; work = w; ended = ended })) (map outside r.frames);
      })
      → (if has_ended ended then None else section_by (program_of c) t text w r) ≡ Some after
      → Reached c fuel (order ++ t ∷ []) (resting after)
  parts f at text w (Some e) came is = absurd (none_or_some after is)
  parts f at Stop w None came is = absurd (none_or_some after is)
  parts f at (Do a k) w None came is = absurd (none_or_some after is)
  parts f at (Choose d y z k) w None came is = absurd (none_or_some after is)
  parts f at (Loop d l k) w None came is = absurd (none_or_some after is)
  parts f at (Section i body rest) w None came is =
      let left = body_of (program_of c) t body w r.store in
      subst (λ (x : RunView). Reached c fuel (order ++ t ∷ []) (resting x))
      (some_injective (after_section t rest left r) after is)
      (subst (λ ths. Reached c fuel (order ++ t ∷ []) (record {
        store = store_left left;
        output = r.output ++ printed_left left;
        threads = ths;
      })) (sym (map_put outside t (frame_left rest left) r.frames))
      (go_through c compiled fuel order t r.frames f at i body rest w r.store r.output came))

  by : (o : Option FrameView) → slice_get r.frames t ≡ o → section_of_thread (program_of c) t o r ≡ Some after
      → Reached c fuel (order ++ t ∷ []) (resting after)
  by None at is = absurd (none_or_some after is)
  by (Some f) at is =
      let g = ahead (program_of c) t f in
      let first = subst
      (λ ths. Reached c fuel order (record { store = r.store; output = r.output; threads = ths }))
      (sym (put_back t (outside f) (map outside r.frames) (at_map outside r.frames t f at))) came in
      parts f at g.text g.work g.ended
      (local_on c compiled fuel order t r.frames f at (suc f.work.fuel) f r.store r.output first) is
