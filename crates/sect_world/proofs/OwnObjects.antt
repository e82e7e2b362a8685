-- What a section in progress has made is its own: no other thread refers to it, and no section that goes together with
-- it asks for its key.
use Rattle.std.proofs.Common.{◌≡◌, ◌≢◌, ◌⊎◌, inl, inr, ℕ, ◌<◌, ◌≤◌, List, [], ◌∷◌, ◌++◌, length, Bool, true, false}
use Rattle.std.proofs.Common.{Option, Some, None, refl, sym, ap, ◌∙◌, subst, arith, append-nil}
use Rattle.std.proofs.lemmas.Option.{slice_get_within, slice_get-get_or}
use Rattle.std.specs.Prelude.{⊤, ℤ, slice_get, slice_index_or}
use Rattle.sect_lemmas.specs.Lists.{Has}
use Rattle.sect_lemmas.proofs.{Membership.{Has-cases, Has-left, Has-right}, Options.{none_or_some, some_injective}}
use Rattle.sect_lemmas.proofs.Replaced.{each_put, put_other}
use Rattle.sect_types.specs.{Statements.{TextView, Section}, Sections.{sections_of}}
use Rattle.sect_types.specs.{declared.expansion.action.Field.{Field}, declared.meaning.store.Fault.{Fault}}
use Rattle.sect_types.specs.declared.meaning.store.ObjectName.{ObjectName}
use Rattle.sect_types.specs.declared.meaning.store.ObjectName.TheVariants.{Global, Made}
use Rattle.sect_types.specs.declared.meaning.store.Datum.{Datum}
use Rattle.sect_types.specs.declared.meaning.store.Datum.TheVariants.{Number, Null, Refers}
use Rattle.sect_types.specs.Store.{ObjectView, StoreView, object_at, row, count}
use Rattle.sect_types.specs.Meaning.{WorkView, Change, Unchanged, Written, Added, after_change, found_at, looks, next}
use Rattle.sect_types.specs.{Meaning.{Next, On, Off}, Whole.{FrameView, local_step, settled}}
use Rattle.sect_points.specs.Paths.{PathView, var, dot}
use Rattle.sect_names.specs.{declared.lock.Effect.{Effect}, Needed.{end_of}, Along.{NeededIn, GoesBy}}
use Rattle.sect_names.proofs.shared.Walking.{needed_walk, section_stands}
use Rattle.sect_modes.specs.{declared.mode.Mode.{Mode}, declared.key.Key.{Key}, Mode.{are_compatible}}
use Rattle.sect_emit.specs.declared.plan.Grip.{Grip}
use Rattle.sect_emit.specs.Plan.{grip, key_of, held_mode, meets, IsFixedPart, field_datum, field_of, path_datum}
use Rattle.sect_emit.specs.Compiled.{CompiledView, IsCompiled, AreSetsLeast, program_of}
use Rattle.sect_emit.specs.State.{Position, Outside, Entered, Running, Faulted, ThreadState, State, IsThread, start}
use Rattle.sect_emit.specs.{State.{plan_at}, ModeTests.{is_writing}}
use Rattle.sect_emit.proofs.shared.{Modes.{sharing_turned}, Plans.{mode_is_there, ascending_mode, ascends_right}}
use Rattle.sect_emit.proofs.shared.{PlanModes.{plan_object}, TypedPrograms.{typed_program}}
use Rattle.sect_types.proofs.shared.Data.{refers_injective, null_refers}
use Rattle.sect_conflicts.specs.Laws.{IsSectionOver, PlansNeverClash}
use Rattle.sect_world.specs.declared.event.Deed.{Deed}
use Rattle.sect_world.specs.declared.event.Deed.TheVariants.{Local, Enter, Take, Begin, Again, Act, Leave}
use Rattle.sect_world.specs.declared.event.Event.{Event}
use Rattle.sect_world.specs.Events.{guard_at, fresh_grip, grips_of, entering, taking, beginning, giving_back}
use Rattle.sect_world.specs.Events.{with_frame, acting, after_act, frame_out, step_in, MayDo}
use Rattle.sect_world.specs.{Accesses.{change_in, Asks}, Excluding.{IsInSection}}
use Rattle.sect_world.specs.Held.{locked_object, may_read, may_write, Loading, next_access}
use Rattle.sect_world.specs.{Kept.{HaveTheirClass, IsPlaced, IsWellKept}, Runs.{RunsTo, IsRun}}
use Rattle.sect_world.specs.Secured.{AllSecured, Good}
use Rattle.sect_world.specs.Together.{IsIn, HasEntered, GoTogether, taken_by, taken_after, ClashOnNoHeldKey}
use Rattle.sect_world.proofs.AllowedChanges.{IsAllowed, asked_is_allowed, LeavesAlone, left_alone, next_is_none}
use Rattle.sect_world.proofs.Denoting.{path_stays}
use Rattle.sect_world.proofs.Excluding.{reader_and_writer_clash, readers_and_writers_exclude}
use Rattle.sect_world.proofs.{GoodRuns.{runs_are_good, good_holds_enough}, GoodStates.{met_plan_secures_all}}
use Rattle.sect_world.proofs.KeptPointed.{pointed_thread, its_section}
use Rattle.sect_world.proofs.{KeptStates.{plan_kept, plan_classes, runs_are_well_kept}, LeastPaths.{path_is_needed}}
use Rattle.sect_world.proofs.{LoneSteps.{meets_itself}, LongerRuns.{run_on}, MetPlans.{beginnings_are_held}}
use Rattle.sect_world.proofs.Planning.{plan_at_ascends}
use Rattle.sect_world.proofs.References.{HasReference, FieldRefers, Writes, work_after, frame_work, next_refers}
use Rattle.sect_world.proofs.References.{next_writes, field_after}
use Rattle.sect_world.proofs.AccessRights.{at_locked, own_grows, other_grows, touched_is_written}
use Rattle.sect_world.proofs.SecuredSteps.{next_not_held}
use Rattle.sect_world.proofs.StepChanges.{count_after, count-after_own, count-after_other, change_is_asked}
use Rattle.sect_world.proofs.Together.{state_with, taken_next, each_taken, starts_outside, IsAsked, AllFollow}
use Rattle.sect_world.proofs.Together.{same_stays, deed_follows, all_follow, clash_on_no_taken_key}
use Rattle.sect_points.specs.declared.holders.Variable.TheVariants as variable
use Rattle.sect_names.specs.declared.lock.Lock.TheVariants as lock
use Rattle.sect_modes.specs.declared.key.Key.TheVariants as key

-- a path that begins with `q.f` goes by the field f of q
goes_before : (p q : PathView) (f g : Field) → GoesBy p (dot q f) g → GoesBy p q f
goes_before (var v) q f g h = absurd h
goes_before (dot e k) q f g (inl (is, same)) = inr (subst (λ r. GoesBy r q f) is (inl (refl, refl)))
goes_before (dot e k) q f g (inr h) = inr (goes_before e q f g h)

-- an object that thread t has made is locked for itself or for none that was made
locked_made : (c : CompiledView) (s : StoreView) (z : ObjectName) (t n : ℕ) → locked_object c s z ≡ Made t n
    → z ≡ Made t n
locked_made c s z t n = at_locked (λ l. l ≡ Made t n → z ≡ Made t n) c z (object_at s z) (λ e. e) (λ g e. absurd cc)

-- the objects from that number on aren't there
none_from : (s : StoreView) (t n : ℕ) (x : ObjectView) → count s t ≤ n → object_at s (Made t n) ≡ Some x → ⊥
none_from s t n x past at = omega (arith, past, slice_get_within (row s t) n x at)

-- the keys that come by a change are those of the object that it makes
fresh_key : (c : CompiledView) (t n : ℕ) (ch : Change) (g : Grip) → Has (grips_of c t n ch) g → g.key ≡ key.Made t n
fresh_key c t n Unchanged g h = absurd h
fresh_key c t n (Written z f d) g h = absurd h
fresh_key c t n (Added x) g h = by (guard_at c x.site) h
  where
    by : (o : Option ℕ) → Has (fresh_grip o t n) g → g.key ≡ key.Made t n
    by None (inl e) = sym (ap (λ (k : Grip). k.key) e)
    by None (inr none) = absurd none
    by (Some guard) none = absurd none

-- a thread makes no fewer objects
counts_more : (ch : Change) (n : ℕ) → n ≤ count_after ch n
counts_more Unchanged n = omega arith
counts_more (Written z f d) n = omega arith
counts_more (Added x) n = omega arith

-- who leaves keeps the locals
locals_out : (how : Option Fault) (f : FrameView) → (frame_out how f).work.locals ≡ f.work.locals
locals_out None f = by f.text
  where
    by : (text : TextView) → (settled text (record f.work { printed = [] })).work.locals ≡ f.work.locals
    by text = ap (λ (w : WorkView). w.locals) (frame_work text (On text (record f.work { printed = [] }) Unchanged))
locals_out (Some why) f = refl

-- who is in a section has entered none
in_or_entered : (p : Position) → IsInSection p → p ≡ Entered → ⊥
in_or_entered p inside is = subst IsInSection is inside

section_in : (i : ℕ) (p : Position) → IsIn i p → IsInSection p
section_in i Outside inside = inside
section_in i Entered inside = inside
section_in i (Running j k) inside = tt
section_in i (Faulted j why) inside = tt

module _ (c : CompiledView) where
  -- thread t has made objects from one number on, and another thread refers to none of them
  abbrev pub IsUnseen : ℕ → ℕ → ThreadState → Type 0
  IsUnseen t born other = (n : ℕ) → born ≤ n → HasReference other.frame.work.locals (Made t n) → ⊥

  -- nor does it ask for them, where its section goes together with that of thread t
  abbrev pub IsUnasked : ℕ → ℕ → ThreadState → ThreadState → Type 0
  IsUnasked t born th other =
      (n i j : ℕ) (m : Mode) → born ≤ n → IsIn i th.position → HasEntered j other → GoTogether c i j
      → Has other.wanted (grip (key.Made t n) m) → ⊥

  -- the key of an object that the thread has made in the section that is in progress
  abbrev pub IsOwnKey : ℕ → ℕ → ThreadState → Grip → Type 0
  IsOwnKey t born th g = IsInSection th.position × ((n : ℕ) × (born ≤ n) × (g.key ≡ key.Made t n))

  -- what thread t makes in the section that is in progress are the objects from this number on: what it holds else it
  -- has taken; references to such objects are in objects that it may write, and no other thread has one or asks for one
  pub record KeepsItsOwn (s : State) (t : ℕ) (th : ThreadState) (gs : List Grip) : Type 0 where
    pub born : ℕ
    pub counted : born ≤ count s.store t
    pub keys : (g : Grip) → Has th.held g → Has gs g ⊎ IsOwnKey t born th g
    pub fields : (n : ℕ) → born ≤ n → (z : ObjectName) (x : ObjectView) → object_at s.store z ≡ Some x
        → FieldRefers x (Made t n) → may_write c s.store th.held z ≡ true
    pub others : (u : ℕ) (other : ThreadState) → t ≢ u → IsThread s u other
        → IsUnseen t born other × IsUnasked t born th other

  abbrev pub AllKeep : State → (ℕ → List Grip) → Type 0
  AllKeep s gs = (t : ℕ) (th : ThreadState) → IsThread s t th → KeepsItsOwn s t th (gs t)

  -- the mode of a key that a thread asks for
  wanted_mode : (s : State) (kept : IsWellKept c s) (u : ℕ) (other : ThreadState) → IsThread s u other
      → other.position ≡ Entered → (k : Key) (m : Mode) → Has other.wanted (grip k m)
      → held_mode k other.wanted ≡ Some m
  wanted_mode s kept u other at entered k m has =
      let placed = subst (λ p. IsPlaced p other) entered (kept.threads u other at).asks in
      ascending_mode other.wanted (ascends_right other.held other.wanted placed.1) (grip k m) has

  -- where a thread has made nothing in a section, its own objects are those that aren't there
  anew : (s : State) → IsWellKept c s → (t : ℕ) (th : ThreadState) (gs : List Grip)
      → ((g : Grip) → Has th.held g → Has gs g) → KeepsItsOwn s t th gs
  anew s kept t th gs keys = record {
    born = count s.store t;
    counted = omega arith;
    keys = λ g h. inl (keys g h);
    fields = λ n past z x at h. (let y = kept.store.pointed.fields z x h.0 at (Made t n) h.1 in
        absurd (none_from s.store t n y.0 past y.1));
    others = λ u other apart at. (
      λ n past h. (let y = (kept.threads u other at).work.locals h.0 (Made t n) h.1 in
          none_from s.store t n y.0 past y.1),
      λ n i j m past inside entered together has. (
          let wants = wanted_mode s kept u other at entered.0 (key.Made t n) m has in
          let y = ((kept.threads u other at).wanted (Made t n) m wants).0 in none_from s.store t n y.0 past y.1),
    );
  }

  module _ (ok : IsCompiled c) (least : AreSetsLeast c) (never : PlansNeverClash c) where
    -- thread t is in section i, and thread u stands before section j, which goes together with it
    module _ (s : State) (good : Good c s) (t u : ℕ) (th other : ThreadState) (apart : t ≢ u) (at : IsThread s t th)
        (there : IsThread s u other) (gs : List Grip) (i j : ℕ)
        (asked : IsAsked c s.store th gs i) (together : GoTogether c i j) (body rest : TextView)
        (text : other.frame.text ≡ Section j body rest) where
      abbrev asker : List Datum
      asker = other.frame.work.locals

      abbrev asks : List Grip
      asks = plan_at c j s.store asker

      placed : slice_get (sections_of (program_of c).texts) j ≡ Some (record { thread = u; body = body })
      placed = its_section c s good.kept u other there j body rest text

      pointed_over : IsSectionOver c j s.store other.frame.work
      pointed_over = record {
        section = record { thread = u; body = body };
        at = placed;
        pointed = pointed_thread c s good.kept u other there;
      }

      -- what thread t has taken goes together with what u is to ask for
      taken_shares : (k : Key) (m n : Mode) → Has asks (grip k m) → Has gs (grip k n) → are_compatible m n ≡ true
      taken_shares k m n mine theirs = by (are_compatible m n) refl
        where
          by : (b : Bool) → are_compatible m n ≡ b → are_compatible m n ≡ true
          by true e = e
          by false e = absurd (elim together [
            | inl first ↦ never i j first asked.before s.store s.store asked.work other.frame.work asked.over
                pointed_over asked.stay (same_stays c s.store)
                (k, n, m, asked.had (grip k n) theirs, mine, sharing_turned n m ∙ e)
            | inr second ↦ never j i second s.store asked.before s.store other.frame.work asked.work pointed_over
                asked.over (same_stays c s.store) asked.stay
                (k, m, n, mine, asked.had (grip k n) theirs, e)
          ])

    -- thread u stands before section j, the plan of which goes together with what thread t has taken, as to these keys
    module _ (s : State) (good : Good c s) (t u : ℕ) (th other : ThreadState) (apart : t ≢ u) (at : IsThread s t th)
        (there : IsThread s u other) (gs : List Grip) (own : KeepsItsOwn s t th gs) (j : ℕ) (body rest : TextView)
        (text : other.frame.text ≡ Section j body rest)
        (near : Key → Type 0)
        (shares : (k : Key) (m n : Mode) → near k → Has (plan_at c j s.store other.frame.work.locals) (grip k m)
        → Has gs (grip k n) → are_compatible m n ≡ true) where
      abbrev locals : List Datum
      locals = other.frame.work.locals

      abbrev plan : List Grip
      plan = plan_at c j s.store locals

      stands : slice_get (sections_of (program_of c).texts) j ≡ Some (record { thread = u; body = body })
      stands = its_section c s good.kept u other there j body rest text

      classes : HaveTheirClass c s.store plan
      classes = plan_classes c ok s.store u j body other.frame.work good.kept.store
          (good.kept.threads u other there).work stands

      secured : AllSecured c s.store u j locals plan body
      secured = met_plan_secures_all c ok s good u other there plan
          (plan_kept c ok s.store u j body other.frame.work good.kept.store (good.kept.threads u other there).work
          stands)
          j body rest text (meets_itself plan (plan_at_ascends c ok j s.store locals))

      -- so does all that it holds, but for the keys of its own objects
      held_shares : (k : Key) (m n : Mode) → ((e : ℕ) → own.born ≤ e → k ≡ key.Made t e → ⊥) → near k
          → held_mode k plan ≡ Some m → held_mode k th.held ≡ Some n → are_compatible m n ≡ true
      held_shares k m n old is_near mine theirs = elim (own.keys (grip k n) (mode_is_there k n th.held theirs)) [
        | inl has ↦ shares k m n is_near (mode_is_there k m plan mine) has
        | inr (inside, (e, past, is)) ↦ absurd (old e past is)
      ]

      -- the beginnings of a path that section j needs denote none of the objects that t has made
      module _ (p : PathView) (effect : Effect)
          (needed : NeededIn c.scheme u (end_of c.scheme j) body (lock.Path p effect)) (r : PathView)
          (within : (q : PathView) (f : Field) → GoesBy r q f → GoesBy p q f)
          (nears : (q : PathView) (f : Field) (z : ObjectName) → GoesBy r q f → path_datum s.store locals q ≡ Refers z
          → (k : Key) → ((o : ObjectName) → k ≡ key_of o → o ≡ locked_object c s.store z) → near k) where
        -- what a beginning denotes is there, and its keys allow to read it
        readable : (q : PathView) (f : Field) → GoesBy r q f → (z : ObjectName)
            → path_datum s.store locals q ≡ Refers z
            → ((x : ObjectView) × (object_at s.store z ≡ Some x)) × (may_read c s.store plan z ≡ true)
        readable q f goes z at_z = beginnings_are_held c ok.scheme (typed_program c ok) u s.store other.frame.work
            (pointed_thread c s good.kept u other there) plan j body (section_stands c.scheme j _ stands) secured p
            q f effect needed (within q f goes) z at_z

        -- by a field that the path goes by no such object is reached, where none was reached before
        by_field : (q : PathView) (f : Field) → GoesBy r q f
            → ((n : ℕ) → own.born ≤ n → path_datum s.store locals q ≡ Refers (Made t n) → ⊥) → (n : ℕ)
            → own.born ≤ n → path_datum s.store locals (dot q f) ≡ Refers (Made t n) → ⊥
        by_field q f goes before n past is = by (path_datum s.store locals q) refl is
          where
            from : (z : ObjectName) → path_datum s.store locals q ≡ Refers z → (x : Option ObjectView)
                → object_at s.store z ≡ x → field_datum x f.number ≡ Refers (Made t n) → ⊥
            from z at_z None found e = null_refers (Made t n) e
            from z at_z (Some x) found e =
                let writes = own.fields n past z x found (f.number, e) in
                let reads = (readable q f goes z at_z).1 in
                reader_and_writer_clash c s.store plan th.held classes (good.classes t th at) z
                (λ k a b one. held_shares k a b (λ m born_m is_m.
                let same = locked_made c s.store z t m (sym (one (Made t m) is_m)) in
                before m born_m (at_z ∙ ap Refers same)) (nears q f z goes at_z k one)) reads writes

            by : (d : Datum) → path_datum s.store locals q ≡ d
                → field_of s.store d f.number ≡ Refers (Made t n) → ⊥
            by (Number k) at_d e = null_refers (Made t n) e
            by Null at_d e = null_refers (Made t n) e
            by (Refers z) at_d e = from z at_d (object_at s.store z) refl e

        unreached : (q : PathView) → ((q ≡ r) ⊎ ((f : Field) × GoesBy r q f)) → (n : ℕ) → own.born ≤ n
            → path_datum s.store locals q ≡ Refers (Made t n) → ⊥
        unreached (var (variable.Global g)) begins n past is =
            let same : Global g ≡ Made t n = refers_injective (Global g) (Made t n) is in absurd cc
        unreached (var (variable.Local v x)) begins n past is =
            (own.others u other apart there).0 n past (x, is)
        unreached (dot q f) begins n past is =
            let goes : GoesBy r q f = elim begins [
              | inl whole ↦ subst (λ e. GoesBy e q f) whole (inl (refl, refl))
              | inr (g, h) ↦ goes_before r q f g h
            ] in
            by_field q f goes (λ m born_m at_m. unreached q (inr (f, goes)) m born_m at_m) n past is

        untouched : (z : ObjectName) (x : ObjectView) → object_at s.store z ≡ Some x → (d : Change)
            → IsAllowed c s.store th.held d → (may_write c s.store th.held z ≡ true → ⊥) → LeavesAlone t s.store d z
        untouched z x found Unchanged allows never_writes = tt
        untouched z x found (Written y f d) allows never_writes =
            λ e. never_writes (subst (λ q. may_write c s.store th.held q ≡ true) e allows)
        untouched z x found (Added new) allows never_writes =
            next_is_none t s.store (pointed_thread c s good.kept t th at).row z x found

        -- so a change by thread t leaves what the path denotes
        pub way_stays : (change : Change) → IsAllowed c s.store th.held change
            → path_datum (after_change t s.store change) locals r ≡ path_datum s.store locals r
        way_stays change allows = path_stays s.store (after_change t s.store change) locals r (λ q f z goes at_z.
            let held = readable q f goes z at_z in
            left_alone t s.store (pointed_thread c s good.kept t th at).row change z
            (untouched z held.0.0 held.0.1 change allows (λ writes.
            reader_and_writer_clash c s.store plan th.held classes (good.classes t th at) z
            (λ k a b one. held_shares k a b (λ m born_m is_m.
            let same = locked_made c s.store z t m (sym (one (Made t m) is_m)) in
            unreached q (inr (f, goes)) m born_m (at_z ∙ ap Refers same)) (nears q f z goes at_z k one)) held.1
            writes)))

      -- so its plan asks for none of them
      pub plan_unasked : ((k : Key) → near k) → (n : ℕ) (m : Mode) → own.born ≤ n → Has plan (grip (key.Made t n) m) → ⊥
      plan_unasked always n m past has =
          let within = slice_get_within (sections_of (program_of c).texts) j _ stands in
          let locks = slice_index_or c.sets j [] in
          let part = slice_index_or c.parts j [] in
          let sets = ok.set_count in
          let parts = ok.part_count in
          let locks_at : slice_get c.sets j ≡ Some locks = slice_get-get_or c.sets j [] (omega (arith, within, sets)) in
          let part_at : slice_get c.parts j ≡ Some part = slice_get-get_or c.parts j [] (omega (arith, within, parts))
          in
          let planned : IsFixedPart c.scheme locks part = ok.planned j locks part locks_at part_at in
          let of = plan_object c.scheme part locks s.store locals planned (grip (key.Made t n) m) (Made t n) has refl in
          path_is_needed c.scheme u (end_of c.scheme j) body locks (least j _ locks stands locks_at).0 of.0 of.1 of.2
          (λ f needed. unreached of.0 f ((needed_walk c.scheme u (end_of c.scheme j) body (lock.Path of.0 f)).0 needed)
          of.0 (λ q g goes. goes) (λ q g z goes is k one. always k) of.0 (inl refl) n past of.3)

    -- thread v does a deed
    module _ (s : State) (good : Good c s) (gs : ℕ → List Grip) (follow : AllFollow c s gs) (all : AllKeep s gs) (v : ℕ)
        (old : ThreadState) (at : IsThread s v old) where
      mine : KeepsItsOwn s v old (gs v)
      mine = all v old at

      -- outside sections it holds what it has taken
      taken_alone : (IsInSection old.position → ⊥) → (g : Grip) → Has old.held g → Has (gs v) g
      taken_alone out g h = elim (mine.keys g h) [ inl has ↦ has | inr (inside, own) ↦ absurd (out inside) ]

      -- another thread keeps its own, where the store keeps the references to it, and v learns of none
      other_keeps : (store : StoreView) (output : List ℤ) (new : ThreadState) (t : ℕ) (th : ThreadState) → v ≢ t
          → IsThread s t th → (k : KeepsItsOwn s t th (gs t)) → k.born ≤ count store t
          → ((n : ℕ) → k.born ≤ n → (z : ObjectName) (x : ObjectView) → object_at store z ≡ Some x
          → FieldRefers x (Made t n) → may_write c store th.held z ≡ true)
          → IsUnseen t k.born new × IsUnasked t k.born th new
          → KeepsItsOwn (state_with store output v new s) t th (gs t)
      other_keeps store output new t th other is k counted fields hidden = record {
        born = k.born;
        counted = counted;
        keys = k.keys;
        fields = fields;
        others = λ u x differs there.
            each_put (λ w y. t ≢ w → IsUnseen t k.born y × IsUnasked t k.born th y) v old new s.threads at
            (λ differs. hidden) (λ w y apart was differs. k.others w y differs was) u x there differs;
      }

      -- a deed that changes no object
      quiet : (d : Deed) (output : List ℤ) (new : ThreadState) → IsWellKept c (state_with s.store output v new s)
          → ((g : Grip) → Has new.held g → Has (taken_by d (gs v)) g)
          → ((t : ℕ) (th : ThreadState) → v ≢ t → IsThread s t th → (k : KeepsItsOwn s t th (gs t))
          → IsUnseen t k.born new × IsUnasked t k.born th new)
          → AllKeep (state_with s.store output v new s) (taken_next v d gs)
      quiet d output new kept keys hidden =
          let after = state_with s.store output v new s in
          each_taken (λ u x ks. KeepsItsOwn after u x ks) v d gs old new s.threads at
          (anew after kept v new (taken_by d (gs v)) keys)
          (λ t th other is.
          let k = all t th is in
          other_keeps s.store output new t th other is k k.counted k.fields (hidden t th other is k))

      -- and what it knew it knew before
      unseen_before : (new : ThreadState) → new.frame.work.locals ≡ old.frame.work.locals → (t : ℕ) (th : ThreadState)
          → v ≢ t → IsThread s t th → (k : KeepsItsOwn s t th (gs t)) → IsUnseen t k.born new
      unseen_before new same t th other is k n past h =
          (k.others v old (λ e. other (sym e)) at).0 n past (subst (λ ls. HasReference ls (Made t n)) same h)

      -- a step in a section: what it changes and comes to
      module _ (ch : Change) (new : ThreadState) (inside : IsInSection new.position) (was_in : IsInSection old.position)
          (stays : (i : ℕ) → IsIn i new.position → IsIn i old.position)
          (held : new.held ≡ old.held ++ grips_of c v (count s.store v) ch) (allowed : IsAllowed c s.store old.held ch)
          (refers : (t n : ℕ) → v ≢ t → HasReference new.frame.work.locals (Made t n)
          → HasReference old.frame.work.locals (Made t n)
          ⊎ ((z : ObjectName) × (x : ObjectView) × (object_at s.store z ≡ Some x) × FieldRefers x (Made t n)
          × (may_read c s.store old.held z ≡ true)))
          (writes : (t n : ℕ) → v ≢ t → Writes ch (Made t n) → HasReference old.frame.work.locals (Made t n)) where
        abbrev store : StoreView
        store = after_change v s.store ch

        abbrev changed : State
        changed = state_with store s.output v new s

        room : v < length s.store.made
        room = (pointed_thread c s good.kept v old at).row

        free : held_mode (key.Made v (count s.store v)) old.held ≡ None
        free = next_not_held v s.store room old.held (good.kept.threads v old at).held

        may_write_then : (z : ObjectName)
            → may_write c store (old.held ++ grips_of c v (count s.store v) ch) z ≡ true
            → may_write c store new.held z ≡ true
        may_write_then z h = subst (λ ks. may_write c store ks z ≡ true) (sym held) h

        own_after : KeepsItsOwn changed v new (gs v)
        own_after = record {
          born = mine.born;
          counted = (let more = counts_more ch (count s.store v) in let is = count-after_own s.store v ch room in
              let had = mine.counted in omega (arith, more, is, had));
          keys = λ g h. elim (Has-cases old.held (grips_of c v (count s.store v) ch) g
              (subst (λ ks. Has ks g) held h)) [
                | inl before ↦ elim (mine.keys g before)
                    [ inl has ↦ inl has | inr (in_section, own) ↦ inr (inside, own) ]
                | inr fresh ↦ inr
                    (inside, (count s.store v, mine.counted, fresh_key c v (count s.store v) ch g fresh))
              ];
          fields = λ n past z x there h. may_write_then z (elim (field_after s.store v ch room z x (Made v n) there h) [
            | inl (y, was, had) ↦ own_grows c is_writing is_writing s.store v ch old.held z room
                (mine.fields n past z y was had)
            | inr (touched, wrote) ↦ touched_is_written c s.store v ch old.held z room free allowed touched
          ]);
          others = λ u x apart there. (let was = mine.others u x apart (sym (put_other v u new s.threads apart) ∙ there)
              in (was.0, λ n i j m past in_i. was.1 n i j m past (stays i in_i)));
        }

        others_after : (t : ℕ) (th : ThreadState) → v ≢ t → IsThread s t th → KeepsItsOwn changed t th (gs t)
        others_after t th other is = other_keeps store s.output new t th other is k
            (let had = k.counted in let same = count-after_other s.store v t ch other in omega (arith, had, same))
            (λ n past z x there h. elim (field_after s.store v ch room z x (Made t n) there h) [
              | inl (y, was, had) ↦ other_grows c is_writing is_writing s.store v ch th.held z room
                  (k.fields n past z y was had)
              | inr (touched, wrote) ↦ absurd (unseen n past (writes t n other wrote))
            ]) (
              λ n past h. elim (refers t n other h) [
                | inl had ↦ unseen n past had
                | inr (z, x, there, field, reads) ↦
                    readers_and_writers_exclude c s good.kept v t old th other at is (good.classes v old at)
                    (good.classes t th is) z reads (k.fields n past z x there field)
              ],
              λ n i j m past in_i entered together has. in_or_entered new.position inside entered.0,
            )
          where
            k : KeepsItsOwn s t th (gs t)
            k = all t th is

            unseen : IsUnseen t k.born old
            unseen = (k.others v old (λ e. other (sym e)) at).0

        acted : AllKeep changed (taken_next v Act gs)
        acted = each_taken (λ u x ks. KeepsItsOwn changed u x ks) v Act gs old new s.threads at own_after others_after

      -- a thread of which this is still to run in section i
      module _ (i : ℕ) (k : TextView) (running : old.position ≡ Running i k) where
        abbrev work : WorkView
        work = old.frame.work

        -- what it refers to after the step it did refer to, or it loads it from an object that it may read
        step_refers : (x : Next) → step_in c v k work s.store ≡ x → (t n : ℕ) → v ≢ t
            → HasReference (work_after x).locals (Made t n)
            → HasReference work.locals (Made t n)
            ⊎ ((z : ObjectName) × (y : ObjectView) × (object_at s.store z ≡ Some y) × FieldRefers y (Made t n)
            × (may_read c s.store old.held z ≡ true))
        step_refers x e t n other h =
            elim (next_refers (program_of c) v t n other k (found_at s.store (looks k work)) work
            (subst (λ (y : Next). HasReference (work_after y).locals (Made t n)) (sym e) h)) [
              | inl had ↦ inl had
              | inr (y, found, field, loads) ↦ by y field loads (looks k work) refl found
            ]
          where
            by : (y : ObjectView) → FieldRefers y (Made t n)
                → ((z : ObjectName) → looks k work ≡ Some z → next_access k work ≡ Some (Loading z))
                → (o : Option ObjectName) → looks k work ≡ o → found_at s.store o ≡ Some y
                → HasReference work.locals (Made t n)
                ⊎ ((z : ObjectName) × (y : ObjectView) × (object_at s.store z ≡ Some y) × FieldRefers y (Made t n)
                × (may_read c s.store old.held z ≡ true))
            by y field loads None looks_is found = absurd (none_or_some y found)
            by y field loads (Some z) looks_is found =
                inr (
                  z,
                  y,
                  found,
                  field,
                  good_holds_enough c ok s good v old i k (Loading z) at running
                      (loads z looks_is),
                )

        step_writes : (x : Next) → step_in c v k work s.store ≡ x → (t n : ℕ) → v ≢ t
            → Writes (change_in x) (Made t n) → HasReference work.locals (Made t n)
        step_writes x e t n other h =
            next_writes (program_of c) v t n other k (found_at s.store (looks k work)) work
            (subst (λ (y : Next). Writes (change_in y) (Made t n)) (sym e) h)

        step_allowed : (x : Next) → step_in c v k work s.store ≡ x → IsAllowed c s.store old.held (change_in x)
        step_allowed x e =
            asked_is_allowed c s.store old.held (change_in x) (next_access k work)
            (subst (λ (y : Next). Asks (change_in y) (next_access k work)) e
            (change_is_asked (program_of c) v k (found_at s.store (looks k work)) work))
            (λ a is. good_holds_enough c ok s good v old i k a at running is)

        was_inside : IsInSection old.position
        was_inside = subst IsInSection (sym running) tt

        act_keeps : (x : Next) → step_in c v k work s.store ≡ x
            → AllKeep (after_act c v i old x s) (taken_next v Act gs)
        act_keeps (On rest w ch) e = acted ch (acting c v i (On rest w ch) old) tt was_inside
            (λ j h. subst (IsIn j) (sym running) h)
            (ap (λ m. old.held ++ grips_of c v m ch) (good.kept.threads v old at).work.made)
            (step_allowed (On rest w ch) e) (step_refers (On rest w ch) e) (step_writes (On rest w ch) e)
        act_keeps (Off why w) e = acted Unchanged (acting c v i (Off why w) old) tt was_inside
            (λ j h. subst (IsIn j) (sym running) h) (sym (append-nil old.held)) tt (step_refers (Off why w) e)
            (step_writes (Off why w) e)

      -- a thread's locals after a step outside sections
      local_unseen : (t : ℕ) (th : ThreadState) → v ≢ t → IsThread s t th → (k : KeepsItsOwn s t th (gs t))
          → IsUnseen t k.born (with_frame (local_step (program_of c) v old.frame) old)
      local_unseen t th other is k n past h =
          elim (next_refers (program_of c) v t n other old.frame.text None old.frame.work
          (subst (λ (w : WorkView). HasReference w.locals (Made t n))
          (frame_work old.frame.text (next (program_of c) v old.frame.text None old.frame.work)) h)) [
            | inl had ↦ (k.others v old (λ e. other (sym e)) at).0 n past had
            | inr (y, found, field, loads) ↦ none_or_some y found
          ]

      -- each deed leaves to each thread its own
      deed_keeps : (d : Deed) (after : State) → MayDo c s v old d after → IsWellKept c after
          → AllKeep after (taken_next v d gs)
      deed_keeps Local after (free, begins, is) kept =
          let new = with_frame (local_step (program_of c) v old.frame) old in
          subst (λ x. AllKeep x (taken_next v Local gs)) (sym is)
          (quiet Local s.output new (subst (IsWellKept c) is kept)
          (taken_alone (λ inside. subst IsInSection free.0 inside))
          (λ t th other there k. (
            local_unseen t th other there k,
            λ n i j m past in_i entered together has. let e = entered.0 in let o = free.0 in absurd cc,
          )))
      deed_keeps Enter after (i, body, rest, free, text, is) kept =
          let new = entering (plan_at c i s.store old.frame.work.locals) old in
          subst (λ x. AllKeep x (taken_next v Enter gs)) (sym is)
          (quiet Enter s.output new (subst (IsWellKept c) is kept)
          (taken_alone (λ inside. subst IsInSection free.0 inside))
          (λ t th other there k. (
            unseen_before new refl t th other there k,
            λ n a b m past in_a entered together has.
                let same : i ≡ b = let e = entered.1.2 in cc in
                plan_unasked s good t v th old (λ e. other (sym e)) there at (gs t) k i body rest text
                (λ x. ⊤) (λ x x1 x2 any. taken_shares s good t v th old (λ e. other (sym e)) there at (gs t) a i
                ((follow t th there).inside a in_a)
                (subst (GoTogether c a) (sym same) together) body rest text x x1 x2) (λ x. tt) n m past has,
          )))
      deed_keeps (Take k m) after (rest, entered, wanted, lets, is) kept =
          let new = taking k m rest old in
          subst (λ x. AllKeep x (taken_next v (Take k m) gs)) (sym is)
          (quiet (Take k m) s.output new (subst (IsWellKept c) is kept)
          (λ g h. elim (Has-cases old.held (grip k m ∷ []) g h) [
            | inl was ↦ Has-left (gs v) (grip k m ∷ []) g
                (taken_alone (λ inside. subst IsInSection entered inside) g was)
            | inr last ↦ Has-right (gs v) (grip k m ∷ []) g last
          ])
          (λ t th other there own. (
            unseen_before new refl t th other there own,
            λ n a b asked past in_a enters together has. (own.others v old (λ e. other (sym e)) at).1 n a b asked past
                in_a (entered, enters.1) together
                (subst (λ ks. Has ks (grip (key.Made t n) asked)) (sym wanted) (inr has)),
          )))
      deed_keeps Begin after (i, body, rest, ready, meets, is) kept =
          let new = beginning i body rest old in
          subst (λ x. AllKeep x (taken_next v Begin gs)) (sym is)
          (quiet Begin s.output new (subst (IsWellKept c) is kept)
          (taken_alone (λ inside. subst IsInSection ready.entered inside))
          (λ t th other there k. (
            unseen_before new refl t th other there k,
            λ n a b m past in_a entered together has. let e = entered.0 in absurd cc,
          )))
      deed_keeps Again after (i, body, rest, ready, meets, is) kept =
          let new = giving_back old in
          subst (λ x. AllKeep x (taken_next v Again gs)) (sym is)
          (quiet Again s.output new (subst (IsWellKept c) is kept) (λ g h. absurd h)
          (λ t th other there k. (
            unseen_before new refl t th other there k,
            λ n a b m past in_a entered together has. let e = entered.0 in absurd cc,
          )))
      deed_keeps Act after (i, k, running, begins, is) kept =
          subst (λ x. AllKeep x (taken_next v Act gs)) (sym is)
          (act_keeps i k running (step_in c v k old.frame.work s.store) refl)
      deed_keeps Leave after (how, over, is) kept =
          let new = with_frame (frame_out how old.frame) (giving_back old) in
          subst (λ x. AllKeep x (taken_next v Leave gs)) (sym is)
          (quiet Leave (s.output ++ old.frame.work.printed) new (subst (IsWellKept c) is kept) (λ g h. absurd h)
          (λ t th other there k. (
            unseen_before new (locals_out how old.frame) t th other there k,
            λ n a b m past in_a entered together has. let e = entered.0 in absurd cc,
          )))

    module _ (fuel : ℕ) where
      events_keep : (before : List Event) (s : State) → IsRun c fuel before s → (gs : ℕ → List Grip) → AllFollow c s gs
          → AllKeep s gs → (es : List Event) (after : State) → RunsTo c s es after
          → AllKeep after (λ t. taken_after t es (gs t))
      events_keep before s run gs follow all [] after is = subst (λ x. AllKeep x gs) is all
      events_keep before s run gs follow all (e ∷ es) after (between, (th, at, does), more) =
          let good = runs_are_good c ok fuel before s run in
          let longer = run_on c fuel before s between e run (th, at, does) in
          events_keep (before ++ e ∷ []) between longer (taken_next e.thread e.deed gs)
          (deed_follows c s good.kept gs follow e.thread th at e.deed between does)
          (deed_keeps s good gs follow all e.thread th at e.deed between does
          (runs_are_well_kept c ok fuel (before ++ e ∷ []) between longer)) es after more

      -- at the start no thread holds a key
      starts_keep : AllKeep (start c fuel) (λ t. [])
      starts_keep t th at =
          let kept = runs_are_well_kept c ok fuel [] (start c fuel) refl in
          let placed = subst (λ p. IsPlaced p th) (starts_outside c fuel t th at) (kept.threads t th at).asks in
          anew (start c fuel) kept t th [] (λ g h. absurd (subst (λ ks. Has ks g) placed.0 h))

      pub all_keep : (trace : List Event) (s : State) → IsRun c fuel trace s → AllKeep s (λ t. taken_after t trace [])
      all_keep trace s run = events_keep [] (start c fuel) refl (λ t. []) (all_follow c ok fuel [] (start c fuel) refl)
          starts_keep trace s run

    -- a section that goes together with another never waits for what that holds
    pub clash_on_no_held_key : ClashOnNoHeldKey c
    clash_on_no_held_key fuel trace s run t u th other at there i j together mine theirs k m n has wants =
        let keeps = all_keep fuel trace s run t th at in
        let differ : t ≢ u = λ same. (let one : th ≡ other =
        some_injective th other (sym at ∙ ap (slice_get s.threads) same ∙ there) in
        in_or_entered th.position (section_in i th.position mine)
        (ap (λ (x : ThreadState). x.position) one ∙ theirs.0)) in
        elim (keeps.keys (grip k m) has) [
          | inl took ↦ clash_on_no_taken_key c ok never fuel trace s run t u th other at there i j together mine theirs k
              m n took wants
          | inr (inside, (o, past, is)) ↦ absurd
              ((keeps.others u other differ there).1 o i j n past mine theirs together
              (subst (λ l. Has l (grip (key.Made t o) n)) (sym wants.1) (inl (ap (λ x. grip x n) is))))
        ]
