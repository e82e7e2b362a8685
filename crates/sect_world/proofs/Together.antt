-- Sections of two threads at one time.
use Rattle.std.proofs.Common.{◌≡◌, ◌≢◌, ℕ, List, [], ◌∷◌, ◌++◌, Bool, true, false, Some, refl, sym, ap, ◌∙◌, subst, inl}
use Rattle.std.proofs.Common.{inr, true≢false}
use Rattle.std.specs.Prelude.{if◌then◌else◌, ℤ, slice_get}
use Rattle.sect_lemmas.specs.{Lists.{Has, put_at}, Numbers.{same_number}}
use Rattle.sect_lemmas.proofs.Membership.{Has-cases}
use Rattle.sect_lemmas.proofs.Replaced.{each_put, same_number-refl, same_number-false, slice_get-map}
use Rattle.sect_types.specs.{Statements.{TextView, Section}, Store.{StoreView}, Meaning.{WorkView, Next, On, Off}}
use Rattle.sect_types.specs.Whole.{first_frames, local_step}
use Rattle.sect_modes.specs.{declared.mode.Mode.{Mode}, declared.key.Key.{Key}, Mode.{are_compatible, is_at_least}}
use Rattle.sect_emit.specs.{declared.plan.Grip.{Grip}, Plan.{grip, held_mode, meets}, Pointed.{ObjectsStay}}
use Rattle.sect_emit.specs.Compiled.{CompiledView, IsCompiled, program_of}
use Rattle.sect_emit.specs.State.{Outside, Entered, Running, ThreadState, State, IsThread, outside, start, plan_at}
use Rattle.sect_emit.proofs.shared.{Modes.{at_least_along, sharing_turned}, PlanModes.{met}, Grips.{held_append}}
use Rattle.sect_conflicts.specs.{Conflicts.{AlwaysAsks}, Laws.{IsSectionOver, PlansNeverClash}}
use Rattle.sect_conflicts.proofs.shared.Stronger.{both_stronger}
use Rattle.sect_world.specs.declared.event.Deed.{Deed}
use Rattle.sect_world.specs.declared.event.Deed.TheVariants.{Local, Enter, Take, Begin, Again, Act, Leave}
use Rattle.sect_world.specs.declared.event.Event.{Event}
use Rattle.sect_world.specs.Events.{entering, taking, beginning, giving_back, with_frame, acting, after_act, frame_out}
use Rattle.sect_world.specs.{Events.{grips_of, step_in, changed_by, MayDo}, Kept.{IsWellKept}, Runs.{RunsTo, IsRun}}
use Rattle.sect_world.specs.Together.{IsIn, HasEntered, taken_by, taken_after, ClashingSectionsExclude}
use Rattle.sect_world.specs.Together.{ClashOnNoTakenKey}
use Rattle.sect_world.proofs.{AllowedChanges.{sites_stay}, KeptPointed.{pointed_thread, its_section}}
use Rattle.sect_world.proofs.{KeptStates.{runs_are_well_kept}, LongerRuns.{run_on}}

-- a state in which thread t is replaced and the store may have changed
abbrev pub state_with : StoreView → List ℤ → ℕ → ThreadState → State → State
state_with store output t new s = record { store = store; output = output; threads = put_at t new s.threads }

-- a thread that is outside is in no section
not_in : (i : ℕ) (th : ThreadState) → th.position ≡ Outside → IsIn i th.position → ⊥
not_in i th out inside = subst (IsIn i) out inside

not_yet_in : (i : ℕ) (th : ThreadState) → th.position ≡ Entered → IsIn i th.position → ⊥
not_yet_in i th entered inside = subst (IsIn i) entered inside

-- what the threads have taken after a deed of thread t
abbrev pub taken_next : ℕ → Deed → (ℕ → List Grip) → ℕ → List Grip
taken_next t d gs u = if same_number t u then taken_by d (gs u) else gs u

-- it is so of each thread, where it is of the one that does the deed and of the others
pub each_taken : (P : ℕ → ThreadState → List Grip → Type 0) (t : ℕ) (d : Deed) (gs : ℕ → List Grip)
    (old new : ThreadState) (threads : List ThreadState) → slice_get threads t ≡ Some old → P t new (taken_by d (gs t))
    → ((u : ℕ) (x : ThreadState) → t ≢ u → slice_get threads u ≡ Some x → P u x (gs u))
    → (u : ℕ) (x : ThreadState) → slice_get (put_at t new threads) u ≡ Some x → P u x (taken_next t d gs u)
each_taken P t d gs old new threads at own others =
    each_put (λ u x. P u x (taken_next t d gs u)) t old new threads at
    (subst (P t new) (sym (ap (λ b. if b then taken_by d (gs t) else gs t) (same_number-refl t))) own)
    (λ u x other was. subst (P u x)
    (sym (ap (λ b. if b then taken_by d (gs u) else gs u) (same_number-false t u other))) (others u x other was))

-- at the start each thread is outside
pub starts_outside : (c : CompiledView) (fuel t : ℕ) (th : ThreadState) → IsThread (start c fuel) t th
    → th.position ≡ Outside
starts_outside c fuel t th at =
    let f = slice_get-map outside (first_frames fuel (program_of c).texts (program_of c).locals) t th at in
    ap (λ (x : ThreadState). x.position) (sym f.2)

module _ (c : CompiledView) where
  -- the key is held at least so strongly
  abbrev Holds : List Grip → Key → Mode → Type 0
  Holds held k m = (n : Mode) × (held_mode k held ≡ Some n) × (is_at_least n m ≡ true)

  -- a thread in a section holds what the section asks for in every state
  abbrev HoldsAlways : ThreadState → Type 0
  HoldsAlways th = (i : ℕ) → IsIn i th.position → (k : Key) (m : Mode) → AlwaysAsks c i k m → Holds th.held k m

  abbrev AllHold : State → Type 0
  AllHold s = (t : ℕ) (th : ThreadState) → IsThread s t th → HoldsAlways th

  plan_held : (i : ℕ) (store : StoreView) (w : WorkView) (held : List Grip)
      → meets held (plan_at c i store w.locals) ≡ true → (k : Key) (m : Mode) → AlwaysAsks c i k m → Holds held k m
  plan_held i store w held all k m asks =
      let g = asks store w.locals in
      let h = met held (plan_at c i store w.locals) all (grip k g.0) g.1 in
      (h.0, h.1, at_least_along h.0 g.0 m h.2 g.2)

  module _ (s : State) (all : AllHold s) (t : ℕ) (th : ThreadState) (at : IsThread s t th) where
    hold_with : (store : StoreView) (output : List ℤ) (new : ThreadState) → HoldsAlways new
        → AllHold (state_with store output t new s)
    hold_with store output new own u x is =
        each_put (λ v y. HoldsAlways y) t th new s.threads at own (λ v y other was. all v y was) u x is

    deed_holds : (d : Deed) (after : State) → MayDo c s t th d after → AllHold after
    deed_holds Local after (free, begins, is) =
        subst AllHold (sym is) (hold_with s.store s.output (with_frame (local_step (program_of c) t th.frame) th)
        (λ i inside k m asks. absurd (not_in i th free.0 inside)))
    deed_holds Enter after (i, body, rest, free, text, is) =
        subst AllHold (sym is) (hold_with s.store s.output (entering (plan_at c i s.store th.frame.work.locals) th)
        (λ j inside k m asks. absurd inside))
    deed_holds (Take key mode) after (rest, entered, wanted, lets, is) =
        subst AllHold (sym is) (hold_with s.store s.output (taking key mode rest th)
        (λ i inside k m asks. absurd (not_yet_in i th entered inside)))
    deed_holds Begin after (i, body, rest, ready, meets, is) =
        subst AllHold (sym is) (hold_with s.store s.output (beginning i body rest th)
        (λ j inside k m asks. plan_held i s.store th.frame.work th.held meets k m
        (subst (λ n. AlwaysAsks c n k m) (sym inside) asks)))
    deed_holds Again after (i, body, rest, ready, meets, is) =
        subst AllHold (sym is) (hold_with s.store s.output (giving_back th) (λ j inside k m asks. absurd inside))
    deed_holds Act after (i, k, running, begins, is) =
        subst AllHold (sym is) (by (step_in c t k th.frame.work s.store))
      where
        by : (n : Next) → AllHold (after_act c t i th n s)
        by (On rest w change) = hold_with (changed_by t (On rest w change) s.store) s.output
            (acting c t i (On rest w change) th)
            (λ j inside key m asks.
            let h = all t th at j (subst (IsIn j) (sym running) inside) key m asks in
            (h.0, held_append key th.held (grips_of c t th.frame.work.made change) h.0 h.1, h.2))
        by (Off why w) = hold_with s.store s.output (acting c t i (Off why w) th)
            (λ j inside key m asks. all t th at j (subst (IsIn j) (sym running) inside) key m asks)
    deed_holds Leave after (how, over, is) =
        subst AllHold (sym is) (hold_with s.store (s.output ++ th.frame.work.printed)
        (with_frame (frame_out how th.frame) (giving_back th)) (λ j inside k m asks. absurd inside))

  events_hold : (es : List Event) (s after : State) → AllHold s → RunsTo c s es after → AllHold after
  events_hold [] s after all is = subst AllHold is all
  events_hold (e ∷ es) s after all (between, (th, at, does), more) =
      events_hold es between after (deed_holds s all e.thread th at e.deed between does) more

  all_hold : (fuel : ℕ) (trace : List Event) (s : State) → IsRun c fuel trace s → AllHold s
  all_hold fuel trace s = events_hold trace (start c fuel) s
      (λ t th at i inside k m asks. absurd (not_in i th (starts_outside c fuel t th at) inside))

  -- sections that clash in every state exclude each other
  pub clashing_exclude : IsCompiled c → ClashingSectionsExclude c
  clashing_exclude ok fuel trace s run t u th other apart at there i j mine theirs k (m, n, asks, also, differ) =
      let x = all_hold fuel trace s run t th at i mine k m asks in
      let y = all_hold fuel trace s run u other there j theirs k n also in
      let kept = runs_are_well_kept c ok fuel trace s run in
      true≢false (sym (kept.compatible t u th other k x.0 y.0 apart at there x.1 y.1)
      ∙ both_stronger x.0 y.0 m n x.2 y.2 differ)

  -- what the thread has taken for section i, and what it still wants, is of a plan of the section that was made in an
  -- earlier state
  pub record IsAsked (now : StoreView) (th : ThreadState) (gs : List Grip) (i : ℕ) : Type 0 where
    pub before : StoreView
    pub work : WorkView
    pub over : IsSectionOver c i before work
    pub stay : ObjectsStay before now
    pub had : (g : Grip) → Has gs g → Has (plan_at c i before work.locals) g
    pub wants : (g : Grip) → Has th.wanted g → Has (plan_at c i before work.locals) g

  -- for the section that it has entered or that is in progress; outside it has taken nothing
  pub record Follows (now : StoreView) (th : ThreadState) (gs : List Grip) : Type 0 where
    pub nothing : th.position ≡ Outside → gs ≡ []
    pub entered : (i : ℕ) → HasEntered i th → IsAsked now th gs i
    pub inside : (i : ℕ) → IsIn i th.position → IsAsked now th gs i

  abbrev pub AllFollow : State → (ℕ → List Grip) → Type 0
  AllFollow s gs = (t : ℕ) (th : ThreadState) → IsThread s t th → Follows s.store th (gs t)

  stays_on : (a b d : StoreView) → ObjectsStay a b → ObjectsStay b d → ObjectsStay a d
  stays_on a b d f g o x at = let y = f o x at in let z = g o y.0 y.1 in (z.0, z.1, z.2 ∙ y.2)

  asked_on : (now later : StoreView) (th new : ThreadState) (gs : List Grip) (i : ℕ) → ObjectsStay now later
      → new.wanted ≡ th.wanted → IsAsked now th gs i → IsAsked later new gs i
  asked_on now later th new gs i stay same a = record {
    before = a.before;
    work = a.work;
    over = a.over;
    stay = stays_on a.before now later a.stay stay;
    had = a.had;
    wants = λ g h. a.wants g (subst (λ l. Has l g) same h);
  }

  follows_on : (now later : StoreView) (th : ThreadState) (gs : List Grip) → ObjectsStay now later
      → Follows now th gs → Follows later th gs
  follows_on now later th gs stay f = record {
    nothing = f.nothing;
    entered = λ i h. asked_on now later th th gs i stay refl (f.entered i h);
    inside = λ i h. asked_on now later th th gs i stay refl (f.inside i h);
  }

  pub same_stays : (now : StoreView) → ObjectsStay now now
  same_stays now o x at = (x, at, refl)

  -- outside with nothing
  follows_outside : (now : StoreView) (th : ThreadState) → th.position ≡ Outside → Follows now th []
  follows_outside now th out = record {
    nothing = λ e. refl;
    entered = λ i h. (let e = h.0 in absurd cc);
    inside = λ i h. absurd (not_in i th out h);
  }

  module _ (s : State) (kept : IsWellKept c s) (gs : ℕ → List Grip) (all : AllFollow s gs) (t : ℕ) (th : ThreadState)
      (at : IsThread s t th) where
    follow_with : (d : Deed) (store : StoreView) (output : List ℤ) (new : ThreadState) → ObjectsStay s.store store
        → Follows store new (taken_by d (gs t)) → AllFollow (state_with store output t new s) (taken_next t d gs)
    follow_with d store output new stay own = each_taken (λ v y ks. Follows store y ks) t d gs th new s.threads at own
        (λ v y other was. follows_on s.store store y (gs v) stay (all v y was))

    mine : Follows s.store th (gs t)
    mine = all t th at

    -- with nothing, where it was outside
    still_outside : (new : ThreadState) → th.position ≡ Outside → new.position ≡ Outside → Follows s.store new (gs t)
    still_outside new out stays =
        subst (Follows s.store new) (sym (mine.nothing out)) (follows_outside s.store new stays)

    enters : (i : ℕ) (body rest : TextView) → th.position ≡ Outside → th.frame.text ≡ Section i body rest
        → Follows s.store (entering (plan_at c i s.store th.frame.work.locals) th) (gs t)
    enters i body rest out text = record {
      nothing = λ e. absurd cc;
      entered = λ j h. (let at_j = h.1.2 in
          let same : i ≡ j = cc in
          record {
            before = s.store;
            work = th.frame.work;
            over = record {
              section = record { thread = t; body = h.1.0 };
              at = its_section c s kept t th at j h.1.0 h.1.1 at_j;
              pointed = pointed_thread c s kept t th at;
            };
            stay = same_stays s.store;
            had = λ g has. absurd (subst (λ l. Has l g) (mine.nothing out) has);
            wants = λ g has. subst (λ n. Has (plan_at c n s.store th.frame.work.locals) g) same has;
          });
      inside = λ j h. absurd h;
    }

    takes : (k : Key) (m : Mode) (rest : List Grip) → th.position ≡ Entered → th.wanted ≡ grip k m ∷ rest
        → Follows s.store (taking k m rest th) (gs t ++ grip k m ∷ [])
    takes k m rest entered wanted = record {
      nothing = λ e. absurd cc;
      entered = λ j h. (let a = mine.entered j h in record {
        before = a.before;
        work = a.work;
        over = a.over;
        stay = a.stay;
        had = λ g has. elim (Has-cases (gs t) (grip k m ∷ []) g has) [
          | inl b ↦ a.had g b
          | inr (inl e) ↦ a.wants g (subst (λ l. Has l g) (sym wanted) (inl e))
          | inr (inr none) ↦ absurd none
        ];
        wants = λ g has. a.wants g (subst (λ l. Has l g) (sym wanted) (inr has));
      });
      inside = λ j h. absurd (not_yet_in j th entered h);
    }

    begins : (i : ℕ) (body rest : TextView) → th.position ≡ Entered → th.frame.text ≡ Section i body rest
        → Follows s.store (beginning i body rest th) (gs t)
    begins i body rest entered text = record {
      nothing = λ e. absurd cc;
      entered = λ j h. (let e = h.0 in absurd cc);
      inside = λ j h. asked_on s.store s.store th (beginning i body rest th) (gs t) j (same_stays s.store) refl
          (mine.entered j (entered, (body, rest, subst (λ n. th.frame.text ≡ Section n body rest) h text)));
    }

    acts : (i : ℕ) (k : TextView) → th.position ≡ Running i k → (n : Next)
        → Follows (changed_by t n s.store) (acting c t i n th) (gs t)
    acts i k running (On rest w change) = record {
      nothing = λ e. absurd cc;
      entered = λ j h. (let e = h.0 in absurd cc);
      inside = λ j h. asked_on s.store (changed_by t (On rest w change) s.store) th (acting c t i (On rest w change) th)
          (gs t) j (sites_stay t s.store (pointed_thread c s kept t th at).row change) refl
          (mine.inside j (subst (IsIn j) (sym running) h));
    }
    acts i k running (Off why w) = record {
      nothing = λ e. absurd cc;
      entered = λ j h. (let e = h.0 in absurd cc);
      inside = λ j h. asked_on s.store s.store th (acting c t i (Off why w) th) (gs t) j (same_stays s.store) refl
          (mine.inside j (subst (IsIn j) (sym running) h));
    }

    stay_by : (n : Next) → ObjectsStay s.store (changed_by t n s.store)
    stay_by (On rest w change) = sites_stay t s.store (pointed_thread c s kept t th at).row change
    stay_by (Off why w) = same_stays s.store

    pub deed_follows : (d : Deed) (after : State) → MayDo c s t th d after → AllFollow after (taken_next t d gs)
    deed_follows Local after (free, begins, is) =
        let new = with_frame (local_step (program_of c) t th.frame) th in
        subst (λ x. AllFollow x (taken_next t Local gs)) (sym is)
        (follow_with Local s.store s.output new (same_stays s.store) (still_outside new free.0 free.0))
    deed_follows Enter after (i, body, rest, free, text, is) =
        subst (λ x. AllFollow x (taken_next t Enter gs)) (sym is)
        (follow_with Enter s.store s.output (entering (plan_at c i s.store th.frame.work.locals) th)
        (same_stays s.store) (enters i body rest free.0 text))
    deed_follows (Take k m) after (rest, entered, wanted, lets, is) =
        subst (λ x. AllFollow x (taken_next t (Take k m) gs)) (sym is)
        (follow_with (Take k m) s.store s.output (taking k m rest th) (same_stays s.store)
        (takes k m rest entered wanted))
    deed_follows Begin after (i, body, rest, ready, meets, is) =
        subst (λ x. AllFollow x (taken_next t Begin gs)) (sym is)
        (follow_with Begin s.store s.output (beginning i body rest th) (same_stays s.store)
        (begins i body rest ready.entered ready.text))
    deed_follows Again after (i, body, rest, ready, meets, is) =
        subst (λ x. AllFollow x (taken_next t Again gs)) (sym is)
        (follow_with Again s.store s.output (giving_back th) (same_stays s.store)
        (follows_outside s.store (giving_back th) refl))
    deed_follows Act after (i, k, running, begins, is) =
        let n = step_in c t k th.frame.work s.store in
        subst (λ x. AllFollow x (taken_next t Act gs)) (sym is)
        (follow_with Act (changed_by t n s.store) s.output (acting c t i n th) (stay_by n) (acts i k running n))
    deed_follows Leave after (how, over, is) =
        let new = with_frame (frame_out how th.frame) (giving_back th) in
        subst (λ x. AllFollow x (taken_next t Leave gs)) (sym is)
        (follow_with Leave s.store (s.output ++ th.frame.work.printed) new (same_stays s.store)
        (follows_outside s.store new refl))

  module _ (ok : IsCompiled c) (fuel : ℕ) where
    events_follow : (before : List Event) (s : State) → IsRun c fuel before s → (gs : ℕ → List Grip) → AllFollow s gs
        → (es : List Event) (after : State) → RunsTo c s es after → AllFollow after (λ t. taken_after t es (gs t))
    events_follow before s run gs all [] after is = subst (λ x. AllFollow x gs) is all
    events_follow before s run gs all (e ∷ es) after (between, (th, at, does), more) =
        let longer = run_on c fuel before s between e run (th, at, does) in
        events_follow (before ++ e ∷ []) between longer
        (taken_next e.thread e.deed gs)
        (deed_follows s (runs_are_well_kept c ok fuel before s run) gs all e.thread th at e.deed between does) es after
        more

    pub all_follow : (trace : List Event) (s : State) → IsRun c fuel trace s → AllFollow s (λ t. taken_after t trace [])
    all_follow trace s run = events_follow [] (start c fuel) refl (λ t. [])
        (λ t th at. follows_outside (start c fuel).store th (starts_outside c fuel t th at)) trace s run

  -- a section that goes together with another never waits for what that has taken
  pub clash_on_no_taken_key : IsCompiled c → PlansNeverClash c → ClashOnNoTakenKey c
  clash_on_no_taken_key ok never fuel trace s run t u th other at there i j together mine theirs k m n has wants =
      by (are_compatible m n) refl
    where
      a : IsAsked s.store th (taken_after t trace []) i
      a = (all_follow ok fuel trace s run t th at).inside i mine

      b : IsAsked s.store other (taken_after u trace []) j
      b = (all_follow ok fuel trace s run u other there).entered j theirs

      wanted : Has (plan_at c j b.before b.work.locals) (grip k n)
      wanted = b.wants (grip k n) (subst (λ l. Has l (grip k n)) (sym wants.1) (inl refl))

      by : (x : Bool) → are_compatible m n ≡ x → are_compatible m n ≡ true
      by true e = e
      by false e = absurd (elim together [
        | inl first ↦ never i j first a.before b.before s.store a.work b.work a.over b.over a.stay b.stay
            (k, m, n, a.had (grip k m) has, wanted, e)
        | inr second ↦ never j i second b.before a.before s.store b.work a.work b.over a.over b.stay a.stay
            (k, n, m, wanted, a.had (grip k m) has, sharing_turned n m ∙ e)
      ])
