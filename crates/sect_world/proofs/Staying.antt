-- While a thread is in a section and makes no event, all that it may read stays.
use Rattle.std.proofs.Common.{true≢false, ◌≡◌, ◌≢◌, ℕ, ◌<◌, ◌++◌, List, [], ◌∷◌, length, Option, Some, None, Bool, true}
use Rattle.std.proofs.Common.{false, refl, sym}
use Rattle.std.proofs.Common.{ap, ◌∙◌, subst}
use Rattle.std.specs.Prelude.{ℤ}
use Rattle.sect_types.specs.{Statements.{TextView}, declared.meaning.store.ObjectName.{ObjectName}}
use Rattle.sect_types.specs.{declared.meaning.store.ObjectName.TheVariants.{Made}, Store.{StoreView, count, object_at}}
use Rattle.sect_types.specs.Meaning.{after_change, found_at, Next, On, Off, looks}
use Rattle.sect_types.specs.{Whole.{local_step}}
use Rattle.sect_lemmas.specs.Lists.{put_at}
use Rattle.sect_lemmas.proofs.Replaced.{put_same, put_other}
use Rattle.sect_emit.specs.{Compiled.{CompiledView, IsCompiled, program_of}, ModeTests.{is_writing, is_reading_object}}
use Rattle.sect_emit.specs.{Plan.{held_mode}}
use Rattle.sect_modes.specs.{declared.mode.Mode.{Mode}}
use Rattle.sect_emit.specs.State.{Running, ThreadState, State, IsThread, start}
use Rattle.sect_modes.specs.Mode.{is_reading}
use Rattle.sect_world.specs.{declared.event.Deed.{Deed}, declared.event.Event.{Event}}
use Rattle.sect_world.specs.declared.event.Deed.TheVariants.{Local, Enter, Take, Begin, Again, Act, Leave}
use Rattle.sect_world.specs.Events.{Happens, MayDo, grips_of, acting, after_act, step_in}
use Rattle.sect_world.specs.{Runs.{RunsTo, IsRun}, Held.{may_read, may_write, may, Access, next_access}}
use Rattle.sect_world.specs.Accesses.{change_in, Asks}
use Rattle.sect_world.specs.{Excluding.{IsInSection, Excludes}, Staying.{AreOthers, HeldObjectsStay}}
use Rattle.sect_world.proofs.{Tidy.{IsTidy}, LongerRuns.{run_on}, GoodRuns.{accesses_are_held}}
use Rattle.sect_world.proofs.Closing.{runs_are_tidy, runs_exclude}
use Rattle.sect_types.proofs.shared.Stores.{next_is_free}
use Rattle.sect_lemmas.proofs.Options.{none_or_some}
use Rattle.sect_world.proofs.StepChanges.{touches, object_at-after, untouched, change_is_asked}
use Rattle.sect_world.proofs.AllowedChanges.{IsAllowed, asked_is_allowed}
use Rattle.sect_world.proofs.AccessRights.{other_grows, touched_is_written}
use Rattle.sect_modes.specs.declared.key.Key.TheVariants as key

-- the key of the next object that a thread makes isn't held
next_key_is_free : (s : State) (t : ℕ) (th : ThreadState) → IsThread s t th → IsTidy s
    → held_mode (key.Made t (count s.store t)) th.held ≡ None
next_key_is_free s t th is tidy = by (held_mode (key.Made t (count s.store t)) th.held) refl where
  by : (m : Option Mode) → held_mode (key.Made t (count s.store t)) th.held ≡ m → m ≡ None
  by None e = refl
  by (Some m) e = let there = tidy.held t th is (Made t (count s.store t)) m e in
      absurd (none_or_some there.0 (sym (next_is_free s.store t) ∙ there.1))

-- thread t stays, and so does what it may read, which it may read then too
abbrev Stays : CompiledView → State → State → ℕ → ThreadState → Type 0
Stays c s after t th =
    IsThread after t th
    × ((o : ObjectName) → may_read c s.store th.held o ≡ true
    → (object_at after.store o ≡ object_at s.store o) × (may_read c after.store th.held o ≡ true))

-- where another thread becomes another, and the store is as it was
quiet : (c : CompiledView) (s after : State) (u : ℕ) (new : ThreadState) (output : List ℤ)
    → after ≡ record { store = s.store; output = output; threads = put_at u new s.threads }
    → (t : ℕ) (th : ThreadState) → IsThread s t th → u ≢ t → Stays c s after t th
quiet c s after u new output is t th at other = (
  subst (λ z. IsThread z t th) (sym is) (put_other u t new s.threads other ∙ at),
  λ o reads. (
    ap (λ (z : State). object_at z.store o) is,
    subst (λ (z : State). may_read c z.store th.held o ≡ true) (sym is) reads,
  ),
)

-- where another thread takes a step in its section
acted : (c : CompiledView) (s : State) (u i : ℕ) (k : TextView) (x : ThreadState) → IsThread s u x → IsTidy s
    → ((a : Access) → next_access k x.frame.work ≡ Some a → may c s.store x.held a ≡ true)
    → (n : Next) → step_in c u k x.frame.work s.store ≡ n → Excludes c (after_act c u i x n s)
    → (t : ℕ) (th : ThreadState) → IsThread s t th → u ≢ t → Stays c s (after_act c u i x n s) t th
acted c s u i k x is tidy enough (Off why w) e apart t th at other =
    quiet c s (after_act c u i x (Off why w) s) u (acting c u i (Off why w) x) s.output refl t th at other
acted c s u i k x is tidy enough (On l w ch) e apart t th at other = (still, stays) where
  le : u < length s.store.made
  le = tidy.rows u x is

  still : IsThread (after_act c u i x (On l w ch) s) t th
  still = put_other u t (acting c u i (On l w ch) x) s.threads other ∙ at

  granted : IsAllowed c s.store x.held ch
  granted =
      asked_is_allowed c s.store x.held ch (next_access k x.frame.work)
      (subst (λ n. Asks (change_in n) (next_access k x.frame.work)) e
      (change_is_asked (program_of c) u k (found_at s.store (looks k x.frame.work)) x.frame.work))
      enough

  touched : (o : ObjectName) → touches u (count s.store u) ch o ≡ true
      → may_write c (after_change u s.store ch) (x.held ++ grips_of c u x.frame.work.made ch) o ≡ true
  touched o h =
      ap (λ n. may_write c (after_change u s.store ch) (x.held ++ grips_of c u n ch) o) (tidy.counts u x is)
      ∙ touched_is_written c s.store u ch x.held o le (next_key_is_free s u x is tidy) granted h

  grows : (o : ObjectName) → may_read c s.store th.held o ≡ true
      → may_read c (after_change u s.store ch) th.held o ≡ true
  grows o reads = other_grows c is_reading_object is_reading s.store u ch th.held o le reads

  unread : (o : ObjectName) → may_read c s.store th.held o ≡ true → (b : Bool) → touches u (count s.store u) ch o ≡ b
      → touches u (count s.store u) ch o ≡ false
  unread o reads true h =
      absurd (apart t u th (acting c u i (On l w ch) x) (λ same. other (sym same)) still
      (put_same u x (acting c u i (On l w ch) x) s.threads is) o (grows o reads) (touched o h))
  unread o reads false h = h

  stays : (o : ObjectName) → may_read c s.store th.held o ≡ true
      → (object_at (after_change u s.store ch) o ≡ object_at s.store o)
      × (may_read c (after_change u s.store ch) th.held o ≡ true)
  stays o reads = (
    object_at-after s.store u ch o le
        ∙ untouched u (count s.store u) ch o (object_at s.store o)
        (unread o reads (touches u (count s.store u) ch o) refl),
    grows o reads,
  )

-- one event of another thread
one_stays : (c : CompiledView) → IsCompiled c → (fuel : ℕ) (trace : List Event) (s after : State) (e : Event)
    → IsRun c fuel trace s → Happens c s e after → (t : ℕ) (th : ThreadState) → IsThread s t th → e.thread ≢ t
    → Stays c s after t th
one_stays c ok fuel trace s after e run happens t th at other =
    by e.deed happens.2 (runs_exclude c ok fuel (trace ++ e ∷ []) after (run_on c fuel trace s after e run happens))
  where
    by : (d : Deed) → MayDo c s e.thread happens.0 d after → Excludes c after → Stays c s after t th
    by Local m apart = quiet c s after e.thread _ s.output m.2 t th at other
    by Enter m apart = quiet c s after e.thread _ s.output m.5 t th at other
    by (Take k m') m apart = quiet c s after e.thread _ s.output m.4 t th at other
    by Begin m apart = quiet c s after e.thread _ s.output m.5 t th at other
    by Again m apart = quiet c s after e.thread _ s.output m.5 t th at other
    by Act m apart =
        subst (λ z. Stays c s z t th) (sym m.4)
        (acted c s e.thread m.0 m.1 happens.0 happens.1 (runs_are_tidy c ok fuel trace s run)
        (λ a asks. accesses_are_held c ok fuel trace s run e.thread happens.0 m.0 m.1 a happens.1 m.2 asks)
        (step_in c e.thread m.1 happens.0.frame.work s.store) refl (subst (Excludes c) m.4 apart) t th at other)
    by Leave m apart = quiet c s after e.thread _ _ m.2 t th at other

-- so of others' events
pub held_stays : (c : CompiledView) → IsCompiled c → HeldObjectsStay c
held_stays c ok fuel trace [] s after run leads t th at inside others =
    (subst (λ z. IsThread z t th) leads at, λ o reads. ap (λ (z : State). object_at z.store o) (sym leads))
held_stays c ok fuel trace (e ∷ es) s after run leads t th at inside others =
    let one = one_stays c ok fuel trace s leads.0 e run leads.1 t th at others.0 in
    let rest = held_stays c ok fuel (trace ++ e ∷ []) es leads.0 after
    (run_on c fuel trace s leads.0 e run leads.1) leads.2 t th one.0 inside others.1 in
    (rest.0, λ o reads. rest.1 o (one.1 o reads).1 ∙ (one.1 o reads).0)
