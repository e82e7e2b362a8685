-- The serial store follows each event.
use Rattle.std.proofs.Common.{true≢false, ◌≡◌, ◌≢◌, ℕ, ◌<◌, ◌++◌, List, length, Option, Some, None, Bool, true, false}
use Rattle.std.proofs.Common.{refl, sym, ap, ◌∙◌, subst, append-nil, slice_get}
use Rattle.sect_types.specs.{Statements.{TextView, Section}, declared.meaning.store.ObjectName.{ObjectName}}
use Rattle.sect_types.specs.{declared.meaning.store.ObjectName.TheVariants.{Made}, declared.meaning.store.Fault.{Fault}}
use Rattle.sect_types.specs.Store.{ObjectView, StoreView, count, object_at}
use Rattle.sect_types.specs.Meaning.{Change, Unchanged, after_change, found_at, Next, On, Off, looks, begins_step}
use Rattle.sect_types.specs.Whole.{FrameView, ahead, local_step, RunView, after_section, section_in, section_of_thread}
use Rattle.sect_types.specs.Whole.{run_section}
use Rattle.sect_emit.specs.{declared.plan.Grip.{Grip}, Compiled.{CompiledView, program_of}}
use Rattle.sect_emit.specs.State.{Position, Outside, Entered, Running, Faulted, ThreadState, State, IsThread}
use Rattle.sect_emit.specs.{State.{with_thread}, Plan.{held_mode}, ModeTests.{is_writing, is_reading_object}}
use Rattle.sect_modes.specs.{declared.mode.Mode.{Mode}, declared.key.Key.{Key}, Mode.{is_reading}}
use Rattle.sect_lemmas.specs.Lists.{put_at}
use Rattle.sect_world.specs.Events.{grips_of, IsFree, IsReady, IsOver, entering, taking, beginning, giving_back}
use Rattle.sect_world.specs.Events.{with_frame, acting, changed_by, after_act, frame_out, after_leave, step_in}
use Rattle.sect_world.specs.Held.{may_read, may_write, Access, next_access, may, HoldsEnough}
use Rattle.sect_world.specs.{Excluding.{IsInSection, Excludes}, Replay.{NobodyWrites}, Accesses.{change_in, Asks}}
use Rattle.sect_world.proofs.Tidy.{IsTidy}
use Rattle.sect_world.proofs.SerialFrames.{Agrees, Replayed, IsApart, IsBefore, IsInside, Follows, HasFrame, Serializes}
use Rattle.sect_world.proofs.StepChanges.{touches, object_at-after, count-after_other, rows-after, untouched}
use Rattle.sect_world.proofs.{StepChanges.{change_is_asked}, AllowedChanges.{IsAllowed, asked_is_allowed}}
use Rattle.sect_world.proofs.AccessRights.{own_grows, other_grows, writers_read, touched_is_written}
use Rattle.sect_world.proofs.Replaying.{still_left, left_at, replay_keeps, not_before, agrees_before, own_step}
use Rattle.sect_world.proofs.Replaying.{others_step}
use Rattle.sect_types.proofs.shared.{Stores.{next_is_free}, RunningAhead.{ahead_standing, ahead_after_local}}
use Rattle.sect_lemmas.proofs.Replaced.{put_same, put_other, each_put, each_before, length-put_at}
use Rattle.sect_lemmas.proofs.Options.{some_injective}
use Rattle.sect_modes.specs.declared.key.Key.TheVariants as key

-- not in a section
abbrev pub IsOut : Position → Type 0
IsOut q = IsInSection q → ⊥

-- ---- events that change neither the store nor what threads in sections hold

-- thread t, which is not in a section, becomes another
pub quiet : (c : CompiledView) (s : State) (serial : RunView) (t : ℕ) (th new : ThreadState) → IsThread s t th
    → IsOut th.position
    → HasFrame c s.store serial t new → Serializes c s serial → Serializes c (with_thread t new s) serial
quiet c s serial t th new is out own ser = record {
  output = ser.output;
  rows = ser.rows;
  threads = length-put_at t new s.threads ∙ ser.threads;
  each = each_put (HasFrame c s.store serial) t th new s.threads is own (λ u x other at. ser.each u x at);
  store = λ o nobody. ser.store o
      (each_before (free o) (free o) t th new s.threads is nobody (λ h inside. absurd (out inside))
      (λ u x other at h. h));
} where
  free : ObjectName → ℕ → ThreadState → Type 0
  free o u x = IsInSection x.position → may_write c s.store x.held o ≡ false

-- ---- a step in a section

-- thread t, which is in a section, makes a change and may write what it has touched
pub change : (c : CompiledView) (s : State) (serial : RunView) (t : ℕ) (th new : ThreadState) (ch : Change)
    → IsThread s t th
    → IsInSection new.position → new.held ≡ th.held ++ grips_of c t (count s.store t) ch → t < length s.store.made
    → ((o : ObjectName) → touches t (count s.store t) ch o ≡ true
    → may_write c (after_change t s.store ch) new.held o ≡ true)
    → Excludes c (record { store = after_change t s.store ch; output = s.output; threads = put_at t new s.threads })
    → HasFrame c (after_change t s.store ch) serial t new → Serializes c s serial
    → Serializes c (record { store = after_change t s.store ch; output = s.output; threads = put_at t new s.threads })
    serial
change c s serial t th new ch is inside held le touched apart own ser = record {
  output = ser.output;
  rows = rows-after s.store t ch ∙ ser.rows;
  threads = length-put_at t new s.threads ∙ ser.threads;
  each = each_put (HasFrame c after serial) t th new s.threads is own others;
  store = λ o nobody. same o nobody
      ∙ ser.store o (each_before (free s.store o) (free after o) t th new s.threads is nobody (mine o) (theirs o));
} where
  after : StoreView
  after = after_change t s.store ch

  free : StoreView → ObjectName → ℕ → ThreadState → Type 0
  free store o u x = IsInSection x.position → may_write c store x.held o ≡ false

  untouching : (o : ObjectName) → may_write c after new.held o ≡ false → touches t (count s.store t) ch o ≡ false
  untouching o h = not_before (touches t (count s.store t) ch o) (may_write c after new.held o) (touched o) h

  same : (o : ObjectName) → ((u : ℕ) (x : ThreadState) → slice_get (put_at t new s.threads) u ≡ Some x
      → free after o u x)
      → object_at after o ≡ object_at s.store o
  same o nobody =
      object_at-after s.store t ch o le
      ∙ untouched t (count s.store t) ch o (object_at s.store o)
      (untouching o (nobody t new (put_same t th new s.threads is) inside))

  mine : (o : ObjectName) → free after o t new → free s.store o t th
  mine o h was =
      not_before (may_write c s.store th.held o) (may_write c after (th.held ++ grips_of c t (count s.store t) ch) o)
      (own_grows c is_writing is_writing s.store t ch th.held o le)
      (ap (λ g. may_write c after g o) (sym held) ∙ h inside)

  theirs : (o : ObjectName) (u : ℕ) (x : ThreadState) → t ≢ u → slice_get s.threads u ≡ Some x → free after o u x
      → free s.store o u x
  theirs o u x other at h was =
      not_before (may_write c s.store x.held o) (may_write c after x.held o)
      (other_grows c is_writing is_writing s.store t ch x.held o le) (h was)

  -- another thread in a section may not read what is touched
  unread : (u : ℕ) (x : ThreadState) → t ≢ u → slice_get s.threads u ≡ Some x → IsInSection x.position
      → (o : ObjectName) → may_read c after x.held o ≡ true → touches t (count s.store t) ch o ≡ false
  unread u x other at in_section o read = by (touches t (count s.store t) ch o) refl where
    by : (b : Bool) → touches t (count s.store t) ch o ≡ b → b ≡ false
    by true e =
        absurd (apart u t x new (λ e. other (sym e)) (put_other t u new s.threads other ∙ at)
        (put_same t th new s.threads is) o read (touched o e))
    by false e = refl

  stay_in : (u : ℕ) (x : ThreadState) (f : FrameView) → t ≢ u → slice_get s.threads u ≡ Some x → IsInSection x.position
      → IsInside c u x s.store serial.store f → IsInside c u x after serial.store f
  stay_in u x f other at in_section fo = record {
    section = fo.section;
    body = fo.body;
    work = fo.work;
    before = fo.before;
    alive = fo.alive;
    replayed = λ from a. others_step c u t fo.section ch x s.store fo.body fo.work from le other
        (unread u x other at in_section)
        (fo.replayed from (agrees_before c u x.held x.held s.store after from serial.store
        (λ o. other_grows c is_reading_object is_reading s.store t ch x.held o le) a));
  }

  stay_out : (u : ℕ) (x : ThreadState) (f : FrameView) → t ≢ u → IsApart (program_of c) u x s.store serial.store f
      → IsApart (program_of c) u x after serial.store f
  stay_out u x f other fo = record { frame = fo.frame; count = fo.count ∙ sym (count-after_other s.store t u ch other) }

  others : (u : ℕ) (x : ThreadState) → t ≢ u → slice_get s.threads u ≡ Some x → HasFrame c after serial u x
  others u x other at =
      let had : HasFrame c s.store serial u x = ser.each u x at in
      (had.0, had.1, by x.position refl had.0 had.2) where
        by : (q : Position) → x.position ≡ q → (f : FrameView) → Follows c u q x s.store serial.store f
            → Follows c u q x after serial.store f
        by Outside e f fo = stay_out u x f other fo
        by Entered e f fo = record { apart = stay_out u x f other fo.apart; alive = fo.alive }
        by (Running i k) e f fo = stay_in u x f other at (subst IsInSection (sym e) tt) fo
        by (Faulted i why) e f fo = stay_in u x f other at (subst IsInSection (sym e) tt) fo

-- the key of the next object that a thread makes isn't held
next_key_is_free : (s : State) (t : ℕ) (th : ThreadState) → IsThread s t th → IsTidy s
    → held_mode (key.Made t (count s.store t)) th.held ≡ None
next_key_is_free s t th is tidy = by (held_mode (key.Made t (count s.store t)) th.held) refl where
  by : (m : Option Mode) → held_mode (key.Made t (count s.store t)) th.held ≡ m → m ≡ None
  by None e = refl
  by (Some m) e = let there = tidy.held t th is (Made t (count s.store t)) m e in
      absurd (none_some (sym (next_is_free s.store t) ∙ there.1)) where
        none_some : {x : ObjectView} → None ≡ Some x → ⊥
        none_some e = cc

-- a thread in a section takes a step
pub act : (c : CompiledView) (s : State) (serial : RunView) (t i : ℕ) (k : TextView) (th : ThreadState)
    → IsThread s t th → th.position ≡ Running i k
    → HoldsEnough c s t → IsTidy s → Excludes c (after_act c t i th (step_in c t k th.frame.work s.store) s)
    → Serializes c s serial → Serializes c (after_act c t i th (step_in c t k th.frame.work s.store) s) serial
act c s serial t i k th is at holds tidy apart ser = by (step_in c t k th.frame.work s.store) refl apart own where
  le : t < length s.store.made
  le = tidy.rows t th is

  free : held_mode (key.Made t (count s.store t)) th.held ≡ None
  free = next_key_is_free s t th is tidy

  enough : (a : Access) → next_access k th.frame.work ≡ Some a → may c s.store th.held a ≡ true
  enough a e = holds th i k a is at e

  had : HasFrame c s.store serial t th
  had = ser.each t th is

  inside : IsInside c t th s.store serial.store had.0
  inside = subst (λ q. Follows c t q th s.store serial.store had.0) at had.2

  own : (from : StoreView) → Agrees c t th.held s.store from serial.store
      → Replayed c t (acting c t i (step_in c t k th.frame.work s.store) th)
      (changed_by t (step_in c t k th.frame.work s.store) s.store) inside.section inside.body inside.work from
  own from a =
      own_step c t i inside.section k th s.store inside.body inside.work from le
      (subst (λ n. t < n) (ser.rows ∙ sym a.rows) le) (tidy.counts t th is) free at enough
      (inside.replayed from a)

  by : (n : Next) → step_in c t k th.frame.work s.store ≡ n → Excludes c (after_act c t i th n s)
      → ((from : StoreView) → Agrees c t th.held s.store from serial.store
      → Replayed c t (acting c t i n th) (changed_by t n s.store) inside.section inside.body inside.work from)
      → Serializes c (after_act c t i th n s) serial
  by (Off why w) e apart own =
      change c s serial t th (acting c t i (Off why w) th) Unchanged is tt (sym (append-nil th.held)) le
      (λ o h. absurd (true≢false (sym h))) apart (
        had.0,
        had.1,
        record {
          section = inside.section;
          body = inside.body;
          work = inside.work;
          before = inside.before;
          alive = inside.alive;
          replayed = own;
        },
      ) ser
  by (On l w ch) e apart own =
      change c s serial t th (acting c t i (On l w ch) th) ch is tt
      (ap (λ n. th.held ++ grips_of c t n ch) (tidy.counts t th is)) le touched apart (
        had.0,
        had.1,
        record {
          section = inside.section;
          body = inside.body;
          work = inside.work;
          before = inside.before;
          alive = inside.alive;
          replayed = λ from a. own from (agrees_before c t th.held (th.held ++ grips_of c t th.frame.work.made ch)
              s.store (after_change t s.store ch) from serial.store grows a);
        },
      ) ser where
        granted : IsAllowed c s.store th.held ch
        granted =
            asked_is_allowed c s.store th.held ch (next_access k th.frame.work)
            (subst (λ n. Asks (change_in n) (next_access k th.frame.work)) e
            (change_is_asked (program_of c) t k (found_at s.store (looks k th.frame.work)) th.frame.work))
            enough

        keys : (th.held ++ grips_of c t (count s.store t) ch) ≡ (th.held ++ grips_of c t th.frame.work.made ch)
        keys = ap (λ n. th.held ++ grips_of c t n ch) (sym (tidy.counts t th is))

        touched : (o : ObjectName) → touches t (count s.store t) ch o ≡ true
            → may_write c (after_change t s.store ch) (th.held ++ grips_of c t th.frame.work.made ch) o ≡ true
        touched o h =
            ap (λ g. may_write c (after_change t s.store ch) g o) (sym keys)
            ∙ touched_is_written c s.store t ch th.held o le free granted h

        grows : (o : ObjectName) → may_read c s.store th.held o ≡ true
            → may_read c (after_change t s.store ch) (th.held ++ grips_of c t th.frame.work.made ch) o ≡ true
        grows o h =
            ap (λ g. may_read c (after_change t s.store ch) g o) (sym keys)
            ∙ own_grows c is_reading_object is_reading s.store t ch th.held o le h

-- ---- events outside sections

-- a thread that is where nobody is in a section is in none
out_at : (p q : Position) → p ≡ q → IsOut q → IsOut p
out_at p q e out inside = out (subst IsInSection e inside)

-- a thread takes a step of its local code
pub local : (c : CompiledView) (s : State) (serial : RunView) (t : ℕ) (th : ThreadState) → IsThread s t th → IsFree th
    → begins_step th.frame.text ≡ true
    → Serializes c s serial → Serializes c (with_thread t (with_frame (local_step (program_of c) t th.frame) th) s)
    serial
local c s serial t th is free steps ser =
    quiet c s serial t th (with_frame (local_step (program_of c) t th.frame) th) is
    (out_at th.position Outside free.0 (λ h. h)) (had.0, had.1, follows) ser where
      had : HasFrame c s.store serial t th
      had = ser.each t th is

      was : IsApart (program_of c) t th s.store serial.store had.0
      was = subst (λ q. Follows c t q th s.store serial.store had.0) free.0 had.2

      now : IsApart (program_of c) t (with_frame (local_step (program_of c) t th.frame) th) s.store serial.store had.0
      now = record {
        frame = was.frame ∙ sym (ahead_after_local (program_of c) t th.frame free.1 steps);
        count =
            was.count;
      }

      follows : Follows c t th.position (with_frame (local_step (program_of c) t th.frame) th) s.store serial.store
          had.0
      follows = subst (λ q. Follows c t q (with_frame (local_step (program_of c) t th.frame) th) s.store serial.store
          had.0) (sym free.0) now

-- a thread comes to a section
pub enter : (c : CompiledView) (s : State) (serial : RunView) (t : ℕ) (th : ThreadState) (plan : List Grip)
    → IsThread s t th → IsFree th
    → Serializes c s serial → Serializes c (with_thread t (entering plan th) s) serial
enter c s serial t th plan is free ser =
    quiet c s serial t th (entering plan th) is (out_at th.position Outside free.0 (λ h. h))
    (had.0, had.1, record { apart = record { frame = was.frame; count = was.count }; alive = free.1 }) ser where
      had : HasFrame c s.store serial t th
      had = ser.each t th is

      was : IsApart (program_of c) t th s.store serial.store had.0
      was = subst (λ q. Follows c t q th s.store serial.store had.0) free.0 had.2

-- a thread that has entered becomes another with the same frame that has entered too
pub take : (c : CompiledView) (s : State) (serial : RunView) (t : ℕ) (th : ThreadState) (k : Key) (m : Mode)
    (rest : List Grip) → IsThread s t th
    → th.position ≡ Entered → Serializes c s serial → Serializes c (with_thread t (taking k m rest th) s) serial
take c s serial t th k m rest is at ser =
    quiet c s serial t th (taking k m rest th) is (out_at th.position Entered at (λ h. h))
    (had.0, had.1, subst (λ q. Follows c t q (taking k m rest th) s.store serial.store had.0) (sym at) now) ser where
      had : HasFrame c s.store serial t th
      had = ser.each t th is

      was : IsBefore (program_of c) t th s.store serial.store had.0
      was = subst (λ q. Follows c t q th s.store serial.store had.0) at had.2

      now : IsBefore (program_of c) t (taking k m rest th) s.store serial.store had.0
      now = record { apart = record { frame = was.apart.frame; count = was.apart.count }; alive = was.alive }

-- a thread that has entered gives all back
pub again : (c : CompiledView) (s : State) (serial : RunView) (t : ℕ) (th : ThreadState) → IsThread s t th
    → th.position ≡ Entered
    → Serializes c s serial → Serializes c (with_thread t (giving_back th) s) serial
again c s serial t th is at ser =
    quiet c s serial t th (giving_back th) is (out_at th.position Entered at (λ h. h))
    (had.0, had.1, record { frame = was.apart.frame; count = was.apart.count }) ser where
      had : HasFrame c s.store serial t th
      had = ser.each t th is

      was : IsBefore (program_of c) t th s.store serial.store had.0
      was = subst (λ q. Follows c t q th s.store serial.store had.0) at had.2

-- ---- a section begins

-- what it may read agrees with the serial store, since nobody else in a section may write it
pub begin : (c : CompiledView) (s : State) (serial : RunView) (t i : ℕ) (body rest : TextView) (th : ThreadState)
    → IsThread s t th
    → IsReady th i body rest → Excludes c (with_thread t (beginning i body rest th) s)
    → Serializes c s serial → Serializes c (with_thread t (beginning i body rest th) s) serial
begin c s serial t i body rest th is ready apart ser =
    quiet c s serial t th new is out (had.0, had.1, now) ser where
      new : ThreadState
      new = beginning i body rest th

      out : IsOut th.position
      out = out_at th.position Entered ready.entered (λ h. h)

      had : HasFrame c s.store serial t th
      had = ser.each t th is

      was : IsBefore (program_of c) t th s.store serial.store had.0
      was = subst (λ q. Follows c t q th s.store serial.store had.0) ready.entered had.2

      stands : ahead (program_of c) t th.frame
          ≡ record { text = Section i body rest; work = th.frame.work; ended = None }
      stands =
          ap (λ e. ahead (program_of c) t (record { text = e; work = th.frame.work; ended = th.frame.ended }))
          ready.text
          ∙ ap (λ e. ahead (program_of c) t (record { text = Section i body rest; work = th.frame.work; ended = e }))
          was.alive
          ∙ ahead_standing (program_of c) t (record { text = Section i body rest; work = th.frame.work; ended = None })
          refl

      -- what the thread may read now no other thread in a section may write
      unwritten : (o : ObjectName) → may_read c s.store th.held o ≡ true → NobodyWrites c s o
      unwritten o read u x at inside = by (may_write c s.store x.held o) refl where
        other : t ≢ u
        other e = out (subst (λ (y : ThreadState). IsInSection y.position)
            (some_injective x th (sym at ∙ ap (slice_get s.threads) (sym e) ∙ is)) inside)

        by : (b : Bool) → may_write c s.store x.held o ≡ b → b ≡ false
        by true e = absurd (apart t u new x other (put_same t th new s.threads is)
            (put_other t u new s.threads other ∙ at) o read e)
        by false e = refl

      now : IsInside c t new s.store serial.store had.0
      now = record {
        section = i;
        body = body;
        work = th.frame.work;
        before = was.apart.frame ∙ stands;
        alive = was.alive;
        replayed = λ from a. record {
          here = from;
          steps = 0;
          done = refl;
          agrees = λ o h. a.objects o h ∙ sym (ser.store o (unwritten o h));
          kept = λ o h. refl;
          own = a.own ∙ was.apart.count;
          others = λ u other. refl;
          rows = refl;
        };
      }

-- ---- a section ends

-- the serial state once thread t has run its section, which leads from the serial store to this one
abbrev pub serial_after : ℕ → Option Fault → ThreadState → StoreView → RunView → RunView
serial_after t how th here serial = record {
  store = here;
  output = serial.output ++ th.frame.work.printed;
  frames = put_at t (frame_out how th.frame) serial.frames;
}

-- the replay from the serial store is that section
left_whole : (c : CompiledView) (serial : RunView) (t : ℕ) (how : Option Fault) (th : ThreadState) (here : StoreView)
    → IsOver th.position how
    → Some (after_section t th.frame.text (still_left (program_of c) t th.position th.frame.work here) serial) ≡ Some
    (serial_after t how th here serial)
left_whole c serial t None th here over =
    ap (λ q. Some (after_section t th.frame.text (still_left (program_of c) t q th.frame.work here) serial)) over.1
left_whole c serial t (Some why) th here over =
    ap (λ q. Some (after_section t th.frame.text (still_left (program_of c) t q th.frame.work here) serial)) over.1

-- a section that is over has been in progress
inside_at : (how : Option Fault) (q : Position) → IsOver q how → IsInSection q
inside_at None q over = subst IsInSection (sym over.1) tt
inside_at (Some why) q over = subst IsInSection (sym over.1) tt

-- a thread in a section can be replayed
pub inside_of : (c : CompiledView) (s : State) (serial : RunView) (t : ℕ) (th : ThreadState) (q : Position)
    → IsInSection q → (f : FrameView)
    → Follows c t q th s.store serial.store f → IsInside c t th s.store serial.store f
inside_of c s serial t th Outside h f fo = absurd h
inside_of c s serial t th Entered h f fo = absurd h
inside_of c s serial t th (Running i k) h f fo = fo
inside_of c s serial t th (Faulted i why) h f fo = fo

-- the section is run whole: its replay from the serial store is just that
pub leave : (c : CompiledView) (s : State) (serial : RunView) (t : ℕ) (how : Option Fault) (th : ThreadState)
    → IsThread s t th → IsOver th.position how
    → Excludes c s → Serializes c s serial
    → (next : RunView) × (run_section (program_of c) t serial ≡ Some next) × Serializes c (after_leave t how th s) next
leave c s serial t how th is over apart ser = (
  serial_after t how th r.here serial,
  runs,
  record {
    output = ap (λ out. out ++ th.frame.work.printed) ser.output;
    rows = ser.rows ∙ sym r.rows;
    threads = length-put_at t new s.threads ∙ ser.threads
        ∙ sym (length-put_at t (frame_out how th.frame) serial.frames);
    each = each_put (HasFrame c s.store (serial_after t how th r.here serial)) t th new s.threads is (
      frame_out how th.frame,
      put_same t had.0 (frame_out how th.frame) serial.frames had.1,
      record { frame = refl; count = r.own },
    ) others;
    store = λ o nobody. by o nobody (may_write c s.store th.held o) refl;
  },
) where
  new : ThreadState
  new = with_frame (frame_out how th.frame) (giving_back th)

  had : HasFrame c s.store serial t th
  had = ser.each t th is

  inside : IsInside c t th s.store serial.store had.0
  inside = inside_of c s serial t th th.position (inside_at how th.position over) had.0 had.2

  r : Replayed c t th s.store inside.section inside.body inside.work serial.store
  r = inside.replayed serial.store (record { objects = λ o h. refl; own = refl; rows = refl })

  runs : run_section (program_of c) t serial ≡ Some (serial_after t how th r.here serial)
  runs =
      ap (λ f. section_of_thread (program_of c) t f serial) had.1
      ∙ ap (λ f. section_in (program_of c) t f serial) inside.before
      ∙ ap (λ l. Some (after_section t th.frame.text l serial))
      (replay_keeps r.steps (program_of c) t
      (record { position = Running inside.section inside.body; work = inside.work; store = serial.store })
      ∙ ap (left_at (program_of c) t) r.done)
      ∙ left_whole c serial t how th r.here over

  -- what another thread in a section may read is in the serial store as it was
  as_before : (u : ℕ) (x : ThreadState) → t ≢ u → slice_get s.threads u ≡ Some x → IsInSection x.position
      → (o : ObjectName) → may_read c s.store x.held o ≡ true → object_at r.here o ≡ object_at serial.store o
  as_before u x other at in_section o read = r.kept o (by (may_write c s.store th.held o) refl) where
    by : (b : Bool) → may_write c s.store th.held o ≡ b → b ≡ false
    by true e = absurd (apart u t x th (λ e. other (sym e)) at is o read e)
    by false e = refl

  stay_in : (u : ℕ) (x : ThreadState) (f : FrameView) → t ≢ u → slice_get s.threads u ≡ Some x → IsInSection x.position
      → IsInside c u x s.store serial.store f → IsInside c u x s.store r.here f
  stay_in u x f other at in_section fo = record {
    section = fo.section;
    body = fo.body;
    work = fo.work;
    before = fo.before;
    alive = fo.alive;
    replayed = λ from a. fo.replayed from (record {
      objects = λ o h. a.objects o h ∙ as_before u x other at in_section o h;
      own = a.own ∙ r.others u other;
      rows = a.rows ∙ r.rows;
    });
  }

  stay_out : (u : ℕ) (x : ThreadState) (f : FrameView) → t ≢ u → IsApart (program_of c) u x s.store serial.store f
      → IsApart (program_of c) u x s.store r.here f
  stay_out u x f other fo = record { frame = fo.frame; count = r.others u other ∙ fo.count }

  others : (u : ℕ) (x : ThreadState) → t ≢ u → slice_get s.threads u ≡ Some x
      → HasFrame c s.store (serial_after t how th r.here serial) u x
  others u x other at =
      let held : HasFrame c s.store serial u x = ser.each u x at in
      (held.0, put_other t u (frame_out how th.frame) serial.frames other ∙ held.1, by x.position refl held.0 held.2)
    where
      by : (q : Position) → x.position ≡ q → (f : FrameView) → Follows c u q x s.store serial.store f
          → Follows c u q x s.store r.here f
      by Outside e f fo = stay_out u x f other fo
      by Entered e f fo = record { apart = stay_out u x f other fo.apart; alive = fo.alive }
      by (Running i k) e f fo = stay_in u x f other at (subst IsInSection (sym e) tt) fo
      by (Faulted i why) e f fo = stay_in u x f other at (subst IsInSection (sym e) tt) fo

  free : ObjectName → ℕ → ThreadState → Type 0
  free o u x = IsInSection x.position → may_write c s.store x.held o ≡ false

  by : (o : ObjectName) → NobodyWrites c (after_leave t how th s) o → (b : Bool) → may_write c s.store th.held o ≡ b
      → object_at s.store o ≡ object_at r.here o
  by o nobody true e = sym (r.agrees o (writers_read c s.store th.held o e))
  by o nobody false e =
      ser.store o (each_before (free o) (free o) t th new s.threads is nobody (λ h inside. e) (λ u x other at h. h))
      ∙ sym (r.kept o e)
