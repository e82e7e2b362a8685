-- The replay of a section under a step of its own thread, and under a step of another.
use Rattle.std.proofs.Common.{true≢false, ◌≡◌, ◌≢◌, ℕ, zero, suc, ◌<◌, ◌++◌, List, length, Some, None, Bool, true}
use Rattle.std.proofs.Common.{false, refl, sym, ap, ◌∙◌, subst}
use Rattle.sect_types.specs.{Statements.{TextView}, Programs.{ProgramView}}
use Rattle.sect_types.specs.{declared.meaning.store.ObjectName.{ObjectName}, Store.{StoreView, count, object_at}}
use Rattle.sect_types.specs.Meaning.{WorkView, Change, after_change, found_at, Next, On, Off, next, looks}
use Rattle.sect_types.specs.Whole.{Left, Through, Broken, body_of}
use Rattle.sect_emit.specs.{declared.plan.Grip.{Grip}, Compiled.{CompiledView, program_of}}
use Rattle.sect_emit.specs.State.{Position, Outside, Entered, Running, Faulted, ThreadState}
use Rattle.sect_emit.specs.{ModeTests.{is_writing, is_reading_object}, Plan.{held_mode}}
use Rattle.sect_world.specs.Events.{grips_of, acting, changed_by, step_in}
use Rattle.sect_world.specs.Held.{may_read, may_write, Access, Loading, next_access, may}
use Rattle.sect_world.specs.{Replay.{Phase, stage_after, one_on, replay}, Accesses.{change_in, Asks}}
use Rattle.sect_world.proofs.SerialFrames.{Agrees, Replayed}
use Rattle.sect_world.proofs.StepChanges.{is_new, touches, object_after, count_after, object_at-after, count-after_own}
use Rattle.sect_world.proofs.StepChanges.{count-after_other, rows-after, untouched, new_whatever, untouched_is_old}
use Rattle.sect_world.proofs.{StepChanges.{change_is_asked, same_step}, AllowedChanges.{IsAllowed, asked_is_allowed}}
use Rattle.sect_world.proofs.AccessRights.{own_test, own_grows, other_test, other_grows, touched_is_written}
use Rattle.sect_modes.specs.Mode.{is_reading}
use Rattle.sect_types.proofs.shared.BodySteps.{left_after, step_keeps}
use Rattle.sect_modes.specs.declared.key.Key.TheVariants as key

-- what a section leaves once what is still to run of it has run
abbrev pub still_left : ProgramView → ℕ → Position → WorkView → StoreView → Left
still_left p t Outside w s = Through w s
still_left p t Entered w s = Through w s
still_left p t (Running i k) w s = body_of p t k w s
still_left p t (Faulted i why) w s = Broken why w s

-- what is left at a phase
abbrev pub left_at : ProgramView → ℕ → Phase → Left
left_at p t x = still_left p t x.position x.work x.store

-- the same for the phase after a step
left_at_stage : (p : ProgramView) (t i : ℕ) (n : Next) (s : StoreView)
    → left_after p t s n ≡ left_at p t (stage_after t i n s)
left_at_stage p t i (On k w ch) s = refl
left_at_stage p t i (Off why w) s = refl

-- a step on leaves the same
one_keeps : (p : ProgramView) (t : ℕ) (q : Position) (w : WorkView) (s : StoreView)
    → still_left p t q w s ≡ left_at p t (one_on p t q w s)
one_keeps p t Outside w s = refl
one_keeps p t Entered w s = refl
one_keeps p t (Running i k) w s = step_keeps p t k w s ∙ left_at_stage p t i (next p t k (found_at s (looks k w)) w) s
one_keeps p t (Faulted i why) w s = refl

-- and so does a replay
pub replay_keeps : (n : ℕ) (p : ProgramView) (t : ℕ) (x : Phase) → left_at p t x ≡ left_at p t (replay n p t x)
replay_keeps zero p t x = refl
replay_keeps (suc n) p t x =
    replay_keeps n p t x ∙ one_keeps p t (replay n p t x).position (replay n p t x).work (replay n p t x).store

-- what fails afterwards failed before, where what holds goes on to hold
pub not_before : (a b : Bool) → (a ≡ true → b ≡ true) → b ≡ false → a ≡ false
not_before true b h e = absurd (true≢false (sym (h refl) ∙ e))
not_before false b h e = refl

-- what is as good for a thread that may read more is as good for it before
pub agrees_before : (c : CompiledView) (t : ℕ) (held more : List Grip) (store after other serial : StoreView)
    → ((o : ObjectName) → may_read c store held o ≡ true → may_read c after more o ≡ true)
    → Agrees c t more after other serial → Agrees c t held store other serial
agrees_before c t held more store after other serial grows a =
    record { objects = λ o h. a.objects o (grows o h); own = a.own; rows = a.rows }

-- a replay of the section takes a step of its own thread
pub own_step : (c : CompiledView) (t i j : ℕ) (k : TextView) (th : ThreadState) (s : StoreView) (body : TextView)
    (work : WorkView) (from : StoreView)
    → t < length s.made → t < length from.made → th.frame.work.made ≡ count s t
    → held_mode (key.Made t (count s t)) th.held ≡ None
    → th.position ≡ Running i k → ((a : Access) → next_access k th.frame.work ≡ Some a → may c s th.held a ≡ true)
    → Replayed c t th s j body work from
    → Replayed c t (acting c t i (step_in c t k th.frame.work s) th) (changed_by t (step_in c t k th.frame.work s) s) j
    body work from
own_step c t i j k th s body work from le le_from made free at holds r = by (step_in c t k th.frame.work s) refl where
  now : replay (suc r.steps) (program_of c) t (record { position = Running j body; work = work; store = from })
      ≡ stage_after t i (step_in c t k th.frame.work s) r.here
  now =
      ap (λ (x : Phase). one_on (program_of c) t x.position x.work x.store) r.done
      ∙ ap (λ q. one_on (program_of c) t q th.frame.work r.here) at
      ∙ ap (λ n. stage_after t i n r.here)
      (same_step (program_of c) t k th.frame.work r.here s (λ o e. r.agrees o (holds (Loading o) e)))

  le_here : t < length r.here.made
  le_here = subst (λ n. t < n) (sym r.rows) le_from

  by : (n : Next) → step_in c t k th.frame.work s ≡ n
      → Replayed c t (acting c t i n th) (changed_by t n s) j body work from
  by (Off why w) e = record {
    here = r.here;
    steps = suc r.steps;
    done = now ∙ ap (λ n. stage_after t i n r.here) e;
    agrees = r.agrees;
    kept = r.kept;
    own = r.own;
    others = r.others;
    rows = r.rows;
  }
  by (On l w ch) e = record {
    here = after_change t r.here ch;
    steps = suc r.steps;
    done = now ∙ ap (λ n. stage_after t i n r.here) e;
    agrees = λ o h. on_both_sides o (reads o h);
    kept = kept;
    own = count-after_own r.here t ch le_here ∙ ap (count_after ch) r.own ∙ sym (count-after_own s t ch le);
    others = λ u other. count-after_other r.here t u ch other ∙ r.others u other;
    rows = rows-after r.here t ch ∙ r.rows;
  } where
    granted : IsAllowed c s th.held ch
    granted =
        asked_is_allowed c s th.held ch (next_access k th.frame.work)
        (subst (λ n. Asks (change_in n) (next_access k th.frame.work)) e
        (change_is_asked (program_of c) t k (found_at s (looks k th.frame.work)) th.frame.work))
        holds

    -- the keys afterwards, by the number of objects made that the store says
    keys : (o : ObjectName) (test : List Grip → Bool) (b : Bool)
        → test (th.held ++ grips_of c t th.frame.work.made ch) ≡ b
        → test (th.held ++ grips_of c t (count s t) ch) ≡ b
    keys o test b h = ap (λ n. test (th.held ++ grips_of c t n ch)) (sym made) ∙ h

    reads : (o : ObjectName) → may_read c (after_change t s ch) (th.held ++ grips_of c t th.frame.work.made ch) o ≡ true
        → (is_new t (count s t) ch o ≡ false → may_read c s th.held o ≡ true)
    reads o h old =
        sym (own_test c is_reading_object is_reading s t ch th.held o le old)
        ∙ keys o (λ held. may_read c (after_change t s ch) held o) true h

    on_both_sides : (o : ObjectName) → (is_new t (count s t) ch o ≡ false → may_read c s th.held o ≡ true)
        → object_at (after_change t r.here ch) o ≡ object_at (after_change t s ch) o
    on_both_sides o read =
        object_at-after r.here t ch o le_here
        ∙ ap (λ n. object_after t n ch o (object_at r.here o)) r.own
        ∙ sides (is_new t (count s t) ch o) refl
        ∙ sym (object_at-after s t ch o le) where
          sides : (b : Bool) → is_new t (count s t) ch o ≡ b
              → object_after t (count s t) ch o (object_at r.here o) ≡ object_after t (count s t) ch o (object_at s o)
          sides true new = new_whatever t (count s t) ch o (object_at r.here o) (object_at s o) new
          sides false old = ap (object_after t (count s t) ch o) (r.agrees o (read old))

    kept : (o : ObjectName) → may_write c (after_change t s ch) (th.held ++ grips_of c t th.frame.work.made ch) o
        ≡ false
        → object_at (after_change t r.here ch) o ≡ object_at from o
    kept o h =
        object_at-after r.here t ch o le_here
        ∙ ap (λ n. object_after t n ch o (object_at r.here o)) r.own
        ∙ untouched t (count s t) ch o (object_at r.here o) untouching
        ∙ r.kept o (not_before (may_write c s th.held o)
        (may_write c (after_change t s ch) (th.held ++ grips_of c t (count s t) ch) o)
        (own_grows c is_writing is_writing s t ch th.held o le) unwritten) where
          unwritten : may_write c (after_change t s ch) (th.held ++ grips_of c t (count s t) ch) o ≡ false
          unwritten = keys o (λ held. may_write c (after_change t s ch) held o) false h

          untouching : touches t (count s t) ch o ≡ false
          untouching =
              not_before (touches t (count s t) ch o)
              (may_write c (after_change t s ch) (th.held ++ grips_of c t (count s t) ch) o)
              (touched_is_written c s t ch th.held o le free granted) unwritten

-- a replay of the section of thread t stands a change by thread v that touches nothing that t may read
pub others_step : (c : CompiledView) (t v j : ℕ) (ch : Change) (th : ThreadState) (s : StoreView) (body : TextView)
    (work : WorkView) (from : StoreView)
    → v < length s.made → v ≢ t → ((o : ObjectName) → may_read c (after_change v s ch) th.held o ≡ true
    → touches v (count s v) ch o ≡ false)
    → Replayed c t th s j body work from → Replayed c t th (after_change v s ch) j body work from
others_step c t v j ch th s body work from le other apart r = record {
  here = r.here;
  steps = r.steps;
  done = r.done;
  agrees = agrees;
  kept = λ o h. r.kept o (not_before (may_write c s th.held o) (may_write c (after_change v s ch) th.held o)
      (other_grows c is_writing is_writing s v ch th.held o le) h);
  own = r.own ∙ sym (count-after_other s v t ch other);
  others = r.others;
  rows = r.rows;
} where
  agrees : (o : ObjectName) → may_read c (after_change v s ch) th.held o ≡ true
      → object_at r.here o ≡ object_at (after_change v s ch) o
  agrees o h =
      let still : touches v (count s v) ch o ≡ false = apart o h in
      r.agrees o
      (sym (other_test c is_reading_object is_reading s v ch th.held o le
      (untouched_is_old v (count s v) ch o still)) ∙ h)
      ∙ sym (object_at-after s v ch o le ∙ untouched v (count s v) ch o (object_at s o) still)
