-- Every complete run is serial.
use Rattle.std.proofs.Common.{◌≡◌, ℕ, zero, suc, ◌++◌, List, [], ◌∷◌, map, Option, Some, None, true, refl, sym}
use Rattle.std.proofs.Common.{ap, ◌∙◌, subst, arith, slice_get, if◌then◌else◌}
use Rattle.std.proofs.lemmas.List.{length-map}
use Rattle.sect_types.specs.{Programs.{ProgramView}, declared.meaning.store.End.{End}, Store.{StoreView}}
use Rattle.sect_types.specs.Whole.{FrameView, ahead, all_ahead, is_standing, has_ended, begins_section, RunView}
use Rattle.sect_types.specs.Whole.{run_section, option_then, in_order, first_store, first_frames, begun, SerialEndView}
use Rattle.sect_types.specs.Whole.{EndsAs}
use Rattle.sect_world.specs.declared.event.Deed.{Deed}
use Rattle.sect_world.specs.declared.event.Deed.TheVariants.{Local, Enter, Take, Begin, Again, Act, Leave}
use Rattle.sect_world.specs.{declared.event.Event.{Event}, Events.{MayDo, Happens}}
use Rattle.sect_world.specs.{Runs.{RunsTo, IsRun, leaver, order_of, ends_of, IsComplete}, Held.{HoldsEnough}}
use Rattle.sect_world.specs.Laws.{AccessesAreHeld, EveryRunIsSerial}
use Rattle.sect_world.specs.Excluding.{IsInSection, Excludes, ReadersAndWritersExclude}
use Rattle.sect_world.specs.SerialFacts.{OnlySectionsDiffer, IsReplayed, SectionsAreReplayed}
use Rattle.sect_emit.specs.Compiled.{CompiledView, program_of}
use Rattle.sect_emit.specs.State.{Position, Outside, Entered, Running, Faulted, ThreadState, State, IsThread, outside}
use Rattle.sect_emit.specs.State.{start, plan_at}
use Rattle.sect_world.proofs.Tidy.{IsTidy, StatesAreTidy}
use Rattle.sect_world.proofs.SerialFrames.{Replayed, IsApart, IsInside, Follows, HasFrame, Serializes}
use Rattle.sect_world.proofs.Following.{inside_of, local, enter, take, begin, again, act, leave}
use Rattle.sect_world.proofs.Listing.{none_in_both}
use Rattle.sect_lemmas.proofs.{Options.{mapped, IsThere, some_injective}, Elements.{same_elements}}
use Rattle.sect_types.proofs.shared.{Stores.{same_store}, RunningAhead.{ahead_standing, get-all_ahead}}
use Rattle.sect_world.proofs.shared.LongerRuns.{leads_more}

-- the serial state after these threads' sections follows the state
abbrev pub Reaches : CompiledView → List ℕ → RunView → State → Type 0
Reaches c order serial s = (next : RunView) × (in_order (program_of c) order serial ≡ Some next) × Serializes c s next

-- one event
pub follows_event : (c : CompiledView) (s after : State) (serial : RunView) (t : ℕ) (th : ThreadState) (d : Deed)
    → IsThread s t th → MayDo c s t th d after
    → HoldsEnough c s t → IsTidy s → Excludes c s → Excludes c after → Serializes c s serial
    → Reaches c (leaver t d) serial after
follows_event c s after serial t th Local is does holds tidy apart apart' ser = (
  serial,
  refl,
  subst (λ (x : State). Serializes c x serial) (sym does.2)
      (local c s serial t th is does.0 does.1 ser),
)
follows_event c s after serial t th Enter is does holds tidy apart apart' ser = (
  serial,
  refl,
  subst (λ (x : State). Serializes c x serial) (sym does.5)
      (enter c s serial t th (plan_at c does.0 s.store th.frame.work.locals) is does.3 ser),
)
follows_event c s after serial t th (Take k m) is does holds tidy apart apart' ser = (
  serial,
  refl,
  subst (λ (x : State). Serializes c x serial) (sym does.4)
      (take c s serial t th k m does.0 is does.1 ser),
)
follows_event c s after serial t th Begin is does holds tidy apart apart' ser = (
  serial,
  refl,
  subst (λ (x : State). Serializes c x serial) (sym does.5)
      (begin c s serial t does.0 does.1 does.2 th is does.3 (subst (Excludes c) does.5 apart') ser),
)
follows_event c s after serial t th Again is does holds tidy apart apart' ser = (
  serial,
  refl,
  subst (λ (x : State). Serializes c x serial) (sym does.5)
      (again c s serial t th is does.3.entered ser),
)
follows_event c s after serial t th Act is does holds tidy apart apart' ser = (
  serial,
  refl,
  subst (λ (x : State). Serializes c x serial) (sym does.4)
      (act c s serial t does.0 does.1 th is does.2 holds tidy (subst (Excludes c) does.4 apart') ser),
)
follows_event c s after serial t th Leave is does holds tidy apart apart' ser =
    let left = leave c s serial t does.0 th is does.1 apart ser in (
      left.0,
      ap (λ x. option_then x (in_order (program_of c) [])) left.1,
      subst (λ (x : State). Serializes c x left.0) (sym does.2) left.2,
    )

-- ---- all events, one after another

-- sections in one order and then in another
in_order-append : (p : ProgramView) (ts us : List ℕ) (serial : RunView)
    → in_order p (ts ++ us) serial ≡ option_then (in_order p ts serial) (in_order p us)
in_order-append p [] us serial = refl
in_order-append p (t ∷ ts) us serial = by (run_section p t serial) (in_order-append p ts us) where
  by : (next : Option RunView) → ((from : RunView)
      → in_order p (ts ++ us) from ≡ option_then (in_order p ts from) (in_order p us))
      → option_then next (in_order p (ts ++ us)) ≡ option_then (option_then next (in_order p ts)) (in_order p us)
  by None rest = refl
  by (Some next) rest = rest next

-- from a state of a run on, the serial state follows all events
pub follows_events : (c : CompiledView) → AccessesAreHeld c → StatesAreTidy c → ReadersAndWritersExclude c
    → (fuel : ℕ) (before es : List Event) (s after : State) (serial : RunView) → IsRun c fuel before s
    → RunsTo c s es after
    → Serializes c s serial → Reaches c (order_of es) serial after
follows_events c held tidy apart fuel before [] s after serial run leads ser =
    (serial, refl, subst (λ (x : State). Serializes c x serial) leads ser)
follows_events c held tidy apart fuel before (e ∷ es) s after serial run leads ser =
    let happens : Happens c s e leads.0 = leads.1 in
    let more : IsRun c fuel (before ++ e ∷ []) leads.0 = leads_more c (start c fuel) s leads.0 before e run happens in
    let first : Reaches c (leaver e.thread e.deed) serial leads.0 =
    follows_event c s leads.0 serial e.thread happens.0 e.deed happens.1 happens.2 (held fuel before s run e.thread)
    (tidy fuel before s run)
    (apart fuel before s run) (apart fuel (before ++ e ∷ []) leads.0 more) ser in
    let rest : Reaches c (order_of es) first.0 after =
    follows_events c held tidy apart fuel (before ++ e ∷ []) es leads.0 after first.0 more leads.2 first.2 in (
      rest.0,
      in_order-append (program_of c) (leaver e.thread e.deed) (order_of es) serial
          ∙ ap (λ x. option_then x (in_order (program_of c) (order_of es))) first.1 ∙ rest.1,
      rest.2,
    )

-- ---- the start

-- nothing has happened: the serial state is the same
starts : (c : CompiledView) (fuel : ℕ) → Serializes c (start c fuel) (begun (program_of c) fuel)
starts c fuel = record {
  output = refl;
  rows = refl;
  threads = length-map (first_frames fuel (program_of c).texts (program_of c).locals) outside;
  each = each (first_frames fuel (program_of c).texts (program_of c).locals);
  store = λ o nobody. refl;
} where
  get : (fs : List FrameView) (t : ℕ) (th : ThreadState) → slice_get (map outside fs) t ≡ Some th
      → (f : FrameView) × (slice_get fs t ≡ Some f) × (th ≡ outside f)
  get [] t th e = absurd (subst IsThere (sym e) tt)
  get (f ∷ fs) zero th e = (f, refl, sym (some_injective (outside f) th e))
  get (f ∷ fs) (suc t) th e = get fs t th e

  each : (fs : List FrameView) (t : ℕ) (th : ThreadState) → slice_get (map outside fs) t ≡ Some th
      → (f : FrameView) × (slice_get fs t ≡ Some f)
      × Follows c t th.position th (first_store (program_of c)) (first_store (program_of c)) f
  each fs t th e =
      let g = get fs t th e in (
        g.0,
        g.1,
        subst (λ (x : ThreadState). Follows c t x.position x (first_store (program_of c)) (first_store (program_of c))
            g.0) (sym g.2)
            (record { frame = refl; count = refl }),
      )

-- ---- the end

-- a thread that has ended is outside sections, and its frame is where the serial one comes to
ended_frame : (c : CompiledView) (t : ℕ) (th : ThreadState) (store serial : StoreView) (f : FrameView) (e : End)
    → th.frame.ended ≡ Some e
    → Follows c t th.position th store serial f → IsApart (program_of c) t th store serial f × (th.position ≡ Outside)
ended_frame c t th store serial f e ended fo = by th.position refl fo where
  not_both : th.frame.ended ≡ None → ⊥
  not_both alive = none_some (sym alive ∙ ended) where
    none_some : None ≡ Some e → ⊥
    none_some e = cc

  by : (q : Position) → th.position ≡ q → Follows c t q th store serial f → IsApart (program_of c) t th store serial f
      × (th.position ≡ Outside)
  by Outside e fo = (fo, e)
  by Entered e fo = absurd (not_both fo.alive)
  by (Running i k) e fo = absurd (not_both fo.alive)
  by (Faulted i why) e fo = absurd (not_both fo.alive)

-- an element of a mapped list
get-map : {A B : Type 0} → (g : A → B) (xs : List A) (i : ℕ) → slice_get (map g xs) i ≡ mapped g (slice_get xs i)
get-map g [] i = refl
get-map g (x ∷ xs) zero = refl
get-map g (x ∷ xs) (suc i) = get-map g xs i

-- how a frame has ended
abbrev end_of : FrameView → Option End
end_of f = f.ended

-- and a thread
abbrev thread_end : ThreadState → Option End
thread_end th = th.frame.ended

-- at the end of a complete run the serial state has come to the same
ends : (c : CompiledView) (s : State) (serial : RunView) (e : SerialEndView) → IsComplete s e → Serializes c s serial
    → EndsAs (program_of c) serial e
ends c s serial e complete ser = record {
  store = complete.store ∙ same_store s.store serial.store
      (λ o. ser.store o (λ t th is inside. absurd (nobody t th is inside))) ser.rows;
  output = complete.output ∙ ser.output;
  ends = same_elements (map end_of (all_ahead (program_of c) 0 serial.frames)) (ends_of s)
      (λ i. left i ∙ at i (slice_get s.threads i) refl ∙ sym (get-map thread_end s.threads i))
      ∙ complete.ends;
} where
  ended : (t : ℕ) (th : ThreadState) → IsThread s t th → (x : End) × (th.frame.ended ≡ Some x)
  ended t th is = by (slice_get e.ends t) refl where
    says : mapped thread_end (slice_get s.threads t) ≡ mapped Some (slice_get e.ends t)
    says = sym (get-map thread_end s.threads t) ∙ ap (λ l. slice_get l t) complete.ends ∙ get-map Some e.ends t

    by : (x : Option End) → slice_get e.ends t ≡ x → (x : End) × (th.frame.ended ≡ Some x)
    by None q = absurd (none_some (sym (ap (mapped thread_end) is) ∙ says ∙ ap (mapped Some) q)) where
      none_some : Some (th.frame.ended) ≡ None → ⊥
      none_some e = cc
    by (Some x) q = (
      x,
      some_injective th.frame.ended (Some x)
          (sym (ap (mapped thread_end) is) ∙ says ∙ ap (mapped Some) q),
    )

  apart : (t : ℕ) (th : ThreadState) (is : IsThread s t th)
      → IsApart (program_of c) t th s.store serial.store (ser.each t th is).0 × (th.position ≡ Outside)
  apart t th is =
      let x = ended t th is in
      let had : HasFrame c s.store serial t th = ser.each t th is in
      ended_frame c t th s.store serial.store had.0 x.0 x.1 had.2

  nobody : (t : ℕ) (th : ThreadState) → IsThread s t th → IsInSection th.position → ⊥
  nobody t th is inside = subst IsInSection (apart t th is).1 inside

  left : (i : ℕ) → slice_get (map end_of (all_ahead (program_of c) 0 serial.frames)) i ≡ mapped end_of
      (mapped (ahead (program_of c) i) (slice_get serial.frames i))
  left i =
      get-map end_of (all_ahead (program_of c) 0 serial.frames) i
      ∙ ap (mapped end_of) (get-all_ahead (program_of c) 0 serial.frames i
      ∙ ap (λ n. mapped (ahead (program_of c) n) (slice_get serial.frames i)) (omega arith))

  at : (i : ℕ) (x : Option ThreadState) → slice_get s.threads i ≡ x
      → mapped end_of (mapped (ahead (program_of c) i) (slice_get serial.frames i)) ≡ mapped thread_end
      (slice_get s.threads i)
  at i None q =
      ap (λ f. mapped end_of (mapped (ahead (program_of c) i) f)) (none_in_both s.threads serial.frames i ser.threads q)
      ∙ sym (ap (mapped thread_end) q)
  at i (Some th) q =
      let had : HasFrame c s.store serial i th = ser.each i th q in
      let x = ended i th q in
      ap (λ f. mapped end_of (mapped (ahead (program_of c) i) f)) had.1
      ∙ ap (λ (f : FrameView). Some (f.ended))
      ((apart i th q).0.frame ∙ ahead_standing (program_of c) i th.frame (stands th.frame x.0 x.1))
      ∙ sym (ap (mapped thread_end) q) where
        stands : (f : FrameView) (y : End) → f.ended ≡ Some y → is_standing f ≡ true
        stands f y h = ap (λ e. if has_ended e then true else begins_section f.text) h

-- ---- the laws

-- the serial state of each run
pub serial_store_follows : (c : CompiledView) → AccessesAreHeld c → StatesAreTidy c → ReadersAndWritersExclude c
    → (fuel : ℕ) (trace : List Event) (s : State) → IsRun c fuel trace s
    → Reaches c (order_of trace) (begun (program_of c) fuel) s
serial_store_follows c held tidy apart fuel trace s run =
    follows_events c held tidy apart fuel [] trace (start c fuel) s (begun (program_of c) fuel) refl run (starts c fuel)

-- its store differs only where sections in progress may write
pub only_sections_differ : (c : CompiledView) → AccessesAreHeld c → StatesAreTidy c → ReadersAndWritersExclude c
    → OnlySectionsDiffer c
only_sections_differ c held tidy apart fuel trace s run =
    let reached = serial_store_follows c held tidy apart fuel trace s run in
    (reached.0, reached.1, reached.2.store)

-- and sections in progress can be replayed from it
pub sections_are_replayed : (c : CompiledView) → AccessesAreHeld c → StatesAreTidy c → ReadersAndWritersExclude c
    → SectionsAreReplayed c
sections_are_replayed c held tidy apart fuel trace s run =
    let reached = serial_store_follows c held tidy apart fuel trace s run in
    (reached.0, reached.1, λ t th is inside. replayed reached.0 reached.2 t th is inside) where
      replayed : (serial : RunView) → Serializes c s serial → (t : ℕ) (th : ThreadState) → IsThread s t th
          → IsInSection th.position → IsReplayed c s.store serial t th
      replayed serial ser t th is inside =
          let had : HasFrame c s.store serial t th = ser.each t th is in
          let at : IsInside c t th s.store serial.store had.0 =
          inside_of c s serial t th th.position inside had.0 had.2 in
          let r : Replayed c t th s.store at.section at.body at.work serial.store =
          at.replayed serial.store (record { objects = λ o h. refl; own = refl; rows = refl }) in
          record {
            frame = had.0;
            is_frame = had.1;
            section = at.section;
            body = at.body;
            work = at.work;
            before = at.before;
            steps = r.steps;
            here = r.here;
            done = r.done;
            agrees = r.agrees;
          }

-- each complete run comes to what whole sections come to, one after another in the order of the `leave` events
pub every_run_is_serial : (c : CompiledView) → AccessesAreHeld c → StatesAreTidy c → ReadersAndWritersExclude c
    → EveryRunIsSerial c
every_run_is_serial c held tidy apart fuel trace s e run complete =
    let reached = serial_store_follows c held tidy apart fuel trace s run in
    (reached.0, reached.1, ends c s reached.0 e complete reached.2)
