-- Each event keeps a state good.
use Rattle.std.proofs.Common.{◌≡◌, ◌≢◌, inl, inr, ℕ, List, [], ◌∷◌, ◌++◌, true, Some, None, refl, sym, ap, ◌∙◌, subst}
use Rattle.std.proofs.{Common.{arith}, lemmas.Option.{slice_get_within, slice_get-get_or}, lemmas.Bool.{false≢true}}
use Rattle.std.specs.Prelude.{ℤ, slice_get, slice_index_or}
use Rattle.sect_types.specs.{Statements.{TextView, Section}, Sections.{sections_of}}
use Rattle.sect_types.specs.{declared.meaning.store.ObjectName.{ObjectName}, Store.{ObjectView, StoreView, count}}
use Rattle.sect_types.specs.Meaning.{WorkView, Change, Added, after_change, found_at, looks, Next, On, Off, begins_step}
use Rattle.sect_types.specs.Whole.{local_step}
use Rattle.sect_points.specs.Paths.{PathView}
use Rattle.sect_names.specs.{declared.lock.Effect.{Effect}, Records.{IsTypedProgram}, Needed.{end_of}, Along.{NeededIn}}
use Rattle.sect_names.proofs.shared.{Ends.{end_needable}, Walking.{needed_walk, section_stands}}
use Rattle.sect_names.proofs.shared.Needing.{needed_needable}
use Rattle.sect_emit.proofs.shared.{Securing.{next_does}, Plans.{mode_is_there, ascending_across}}
use Rattle.sect_emit.proofs.shared.{Grips.{held_append, held_split}, TypedPrograms.{typed_program}}
use Rattle.sect_modes.specs.{declared.mode.Mode.{Mode}, declared.mode.Mode.TheVariants.{Exclusive}}
use Rattle.sect_modes.specs.{declared.key.Key.{Key}, Key.{is_key_below}}
use Rattle.sect_emit.specs.{declared.plan.Grip.{Grip}, Plan.{grip, key_of, held_mode, Ascends, meets, path_datum}}
use Rattle.sect_emit.specs.Compiled.{CompiledView, program_of, IsCompiled}
use Rattle.sect_emit.specs.{State.{Running, ThreadState, State, IsThread, plan_at}, ModeTests.{is_writing}}
use Rattle.sect_world.specs.declared.event.Deed.{Deed}
use Rattle.sect_world.specs.declared.event.Deed.TheVariants.{Local, Enter, Take, Begin, Again, Act, Leave}
use Rattle.sect_world.specs.declared.event.Event.{Event}
use Rattle.sect_world.specs.Events.{guard_at, fresh_grip, grips_of, entering, taking, beginning, giving_back}
use Rattle.sect_world.specs.Events.{with_frame, acting, after_act, frame_out, step_in, MayDo, Happens, changed_by}
use Rattle.sect_world.specs.Kept.{HoldsClassOf, HaveTheirClass, IsPlaced, IsAt, IsWellKept, AreGripsKept}
use Rattle.sect_world.specs.{Secured.{AllSecured, Good}, Accesses.{change_in, Asks}, Held.{class_mode_in, next_access}}
use Rattle.sect_lemmas.specs.Lists.{put_at}
use Rattle.sect_lemmas.proofs.Replaced.{at-put_at, put_same}
use Rattle.sect_world.proofs.KeptPointed.{pointed_thread, stands_inside, its_section, held_kept}
use Rattle.sect_world.proofs.{MetPlans.{a_met_plan_secures}, AllowedChanges.{IsAllowed, asked_is_allowed}}
use Rattle.sect_world.proofs.{Holding.{passes_in, in_passes, class_is}, StepChanges.{change_is_asked}}
use Rattle.sect_world.proofs.HeldAccesses.{next_access_is_held}
use Rattle.sect_world.proofs.SecuredSteps.{MayChange, classes_stay, others_leave_needed_paths_alone}
use Rattle.sect_world.proofs.SecuredSteps.{others_leave_secured, step_keeps_secured, step_keeps_classes}
use Rattle.sect_names.specs.declared.lock.Lock.TheVariants as lock
use Rattle.sect_modes.specs.declared.key.Key.TheVariants as key
use Rattle.sect_types.specs.declared.meaning.store.ObjectName.TheVariants as object

-- a state in which thread u is replaced and the store may have changed
abbrev state_with : StoreView → List ℤ → ℕ → ThreadState → State → State
state_with store output u new s = record { store = store; output = output; threads = put_at u new s.threads }

module _ (c : CompiledView) (s : State) (good : Good c s) (u : ℕ) (th : ThreadState) (at : IsThread s u th) where
  -- it is good where the new thread is, and the others are as they were
  good_with : (store : StoreView) (output : List ℤ) (new : ThreadState) → IsWellKept c (state_with store output u new s)
      → HaveTheirClass c store new.held
      → ((i : ℕ) (k : TextView) → new.position ≡ Running i k → AllSecured c store u i new.frame.work.locals new.held k)
      → ((t : ℕ) (x : ThreadState) → t ≢ u → IsThread s t x → HaveTheirClass c store x.held)
      → ((t : ℕ) (x : ThreadState) (i : ℕ) (k : TextView) → t ≢ u → IsThread s t x → x.position ≡ Running i k
      → AllSecured c store t i x.frame.work.locals x.held k)
      → Good c (state_with store output u new s)
  good_with store output new kept classes secured other_classes other_secured = record {
    kept = kept;
    classes = λ t x is. elim (at-put_at u t new x s.threads is) [
      | inl (same, mine) ↦ subst (λ (y : ThreadState). HaveTheirClass c store y.held) mine classes
      | inr (other, was) ↦ other_classes t x (λ e. other (sym e)) was
    ];
    secured = λ t x i k is running. elim (at-put_at u t new x s.threads is) [
      | inl (same, mine) ↦
          subst (λ n. AllSecured c store n i x.frame.work.locals x.held k) same
          (subst (λ (y : ThreadState). y.position ≡ Running i k → AllSecured c store u i y.frame.work.locals y.held k)
          mine (secured i k) running)
      | inr (other, was) ↦ other_secured t x i k (λ e. other (sym e)) was running
    ];
  }

  -- where the store is the same, the others are good as they were
  good_quiet : (output : List ℤ) (new : ThreadState) → IsWellKept c (state_with s.store output u new s)
      → HaveTheirClass c s.store new.held
      → ((i : ℕ) (k : TextView) → new.position ≡ Running i k
      → AllSecured c s.store u i new.frame.work.locals new.held k)
      → Good c (state_with s.store output u new s)
  good_quiet output new kept classes secured =
      good_with s.store output new kept classes secured (λ t x other was. good.classes t x was)
      (λ t x i k other was running. good.secured t x i k was running)

no_class_above : (o : ObjectName) (n : ℕ) → is_key_below (key_of o) (key.Class n) ≡ true → ⊥
no_class_above (object.Global g) n e = false≢true e
no_class_above (object.Made t m) n e = false≢true e

no_all_above : (o : ObjectName) → is_key_below (key_of o) key.All ≡ true → ⊥
no_all_above (object.Global g) e = false≢true e
no_all_above (object.Made t m) e = false≢true e

-- in an ascending list a key whose like isn't above one of the first part stands in that part
stands_first : (xs ys : List Grip) → Ascends (xs ++ ys) → (j k : Key) (m b : Mode) → held_mode j xs ≡ Some m
    → (is_key_below j k ≡ true → ⊥) → held_mode k (xs ++ ys) ≡ Some b → held_mode k xs ≡ Some b
stands_first xs ys up j k m b is never e = elim (held_split k xs ys b e) [
  | inl h ↦ h
  | inr h ↦
      absurd
      (never (ascending_across xs ys up (grip j m) (grip k b) (mode_is_there j m xs is) (mode_is_there k b ys h)))
]

-- of what is asked for, `all` comes before classes and the class of an object before the object, so a part that has the
-- object has the class
asking_holds : (c : CompiledView) (s : StoreView) (xs ys : List Grip) → Ascends (xs ++ ys)
    → HaveTheirClass c s (xs ++ ys) → HaveTheirClass c s xs
asking_holds c s xs ys up whole = record {
  objects = λ o x m is at. by o x m is (whole.objects o x m (held_append (key_of o) xs ys m is) at);
  classes = λ n m is. (let b = whole.classes n m (held_append (key.Class n) xs ys m is) in
      (b.0, stands_first xs ys up (key.Class n) key.All m b.0 is false≢true b.1, b.2));
}
  where
    by : (o : ObjectName) (x : ObjectView) (m : Mode) → held_mode (key_of o) xs ≡ Some m
        → HoldsClassOf c (xs ++ ys) x.site m → HoldsClassOf c xs x.site m
    by o x m is (inl all) =
        let a = passes_in is_writing (held_mode key.All (xs ++ ys)) all in
        inl (in_passes is_writing (held_mode key.All xs)
        (a.0, stands_first xs ys up (key_of o) key.All m a.0 is (no_all_above o) a.1, a.2))
    by o x m is (inr (b, of_class, enough)) =
        let n = class_is c (xs ++ ys) x.site b of_class in
        let first = stands_first xs ys up (key_of o) (key.Class n.0) m b is (no_class_above o n.0) n.2 in
        inr (b, ap (class_mode_in xs) n.1 ∙ first, enough)

-- with no keys nothing is due
pub none_held : (c : CompiledView) (s : StoreView) → HaveTheirClass c s []
none_held c s = record { objects = λ o x m is at. absurd cc; classes = λ n m is. absurd cc }

module _ (c : CompiledView) (ok : IsCompiled c) where
  typed_of : IsTypedProgram (program_of c)
  typed_of = typed_program c ok

  module _ (s : State) (good : Good c s) (t : ℕ) (th : ThreadState) (at : IsThread s t th) where
    -- with keys that meet its plan all is secured that a section needs
    pub met_plan_secures_all : (held : List Grip) → AreGripsKept s.store held → (i : ℕ) (body rest : TextView)
        → th.frame.text ≡ Section i body rest → meets held (plan_at c i s.store th.frame.work.locals) ≡ true
        → AllSecured c s.store t i th.frame.work.locals held body
    met_plan_secures_all held of i body rest text met l needed =
        let stands = its_section c s good.kept t th at i body rest text in
        let within = slice_get_within (sections_of (program_of c).texts) i _ stands in
        let locks = slice_index_or c.sets i [] in
        let part = slice_index_or c.parts i [] in
        let sets = ok.set_count in
        let parts = ok.part_count in
        let locks_at : slice_get c.sets i ≡ Some locks = slice_get-get_or c.sets i [] (omega (arith, within, sets)) in
        let part_at : slice_get c.parts i ≡ Some part = slice_get-get_or c.parts i [] (omega (arith, within, parts)) in
        let covered = ok.protected i _ locks stands locks_at l
        ((needed_walk c.scheme t (end_of c.scheme i) body l).1 needed) in
        let own = needed_needable c.scheme t ok.scheme typed_of (end_of c.scheme i) (end_needable c.scheme t i) body
        (section_stands c.scheme i _ stands) l needed in
        a_met_plan_secures c ok.scheme typed_of t s.store th.frame.work (pointed_thread c s good.kept t th at) held
        locks part (ok.planned i locks part locks_at part_at) met of covered.0 l covered.1 own covered.2

    -- so who begins it has secured all
    begins_secured : (i : ℕ) (body rest : TextView) → th.frame.text ≡ Section i body rest
        → meets th.held (plan_at c i s.store th.frame.work.locals) ≡ true
        → AllSecured c s.store t i th.frame.work.locals th.held body
    begins_secured = met_plan_secures_all th.held (held_kept c s good.kept t th at)

    module _ (i : ℕ) (k : TextView) (running : th.position ≡ Running i k) (begins : begins_step k ≡ true)
        (k' : TextView) (v : WorkView) (change : Change) (goes : step_in c t k th.frame.work s.store ≡ On k' v change)
      where
        fresh : (x : ObjectView) → change ≡ Added x → guard_at c x.site ≡ None
            → grips_of c t th.frame.work.made change ≡ grip (key_of (object.Made t (count s.store t))) Exclusive ∷ []
        fresh x is none =
            ap (grips_of c t th.frame.work.made) is ∙ ap (λ g. fresh_grip g t th.frame.work.made) none
            ∙ ap (λ n. grip (key_of (object.Made t n)) Exclusive ∷ []) (pointed_thread c s good.kept t th at).made

        -- its keys allow what a step changes
        allowed : IsAllowed c s.store th.held change
        allowed =
            asked_is_allowed c s.store th.held change (next_access k th.frame.work)
            (subst (λ n. Asks (change_in n) (next_access k th.frame.work)) goes
            (change_is_asked (program_of c) t k (found_at s.store (looks k th.frame.work)) th.frame.work))
            (next_access_is_held c ok.scheme typed_of t s.store th.frame.work (pointed_thread c s good.kept t th at)
            th.held i k
            (stands_inside c s good.kept t th at i k running) (good.secured t th i k at running) th.frame.work.fuel)

        -- and it has secured what it still needs
        secured_after : AllSecured c (after_change t s.store change) t i v.locals
            (th.held ++ grips_of c t th.frame.work.made change) k'
        secured_after =
            let step = next_does (program_of c) t s.store k th.frame.work k' (after_change t s.store change) v
            (begins, (change, goes, refl)) in
            step_keeps_secured c ok.scheme typed_of t i s.store th.frame.work v k k' step.0 change th.held
            (grips_of c t th.frame.work.made change)
            (record {
              pointed = pointed_thread c s good.kept t th at;
              kept = held_kept c s good.kept t th at;
              stands = stands_inside c s good.kept t th at i k running;
              secured = good.secured t th i k at running;
            })
            (record { leads = step.1; does = step.2; fresh = fresh })

        acts : IsWellKept c (after_act c t i th (On k' v change) s) → Good c (after_act c t i th (On k' v change) s)
        acts kept =
            good_with c s good t th at (after_change t s.store change) s.output (acting c t i (On k' v change) th) kept
            (step_keeps_classes c t s.store (pointed_thread c s good.kept t th at).row change th.held th.frame.work.made
            (pointed_thread c s good.kept t th at).made (held_kept c s good.kept t th at) (good.classes t th at)
            allowed)
            (λ j m e. let same : k' ≡ m = let f : Running i k' ≡ Running j m = e in cc in
            let number : i ≡ j = let f : Running i k' ≡ Running j m = e in cc in
            subst (λ n. AllSecured c (after_change t s.store change) t n v.locals
            (th.held ++ grips_of c t th.frame.work.made change) m) number
            (subst (AllSecured c (after_change t s.store change) t i v.locals
            (th.held ++ grips_of c t th.frame.work.made change)) same secured_after))
            (λ n x other was. classes_stay c t s.store (pointed_thread c s good.kept t th at).row change x.held
            (held_kept c s good.kept n x was) (good.classes n x was))
            (λ n x j m other was running. others_leave_secured c ok.scheme typed_of s good n t other x th m
            (record { at = was; number = j; runs = running }) change (record { at = at; allowed = allowed }))

  -- each deed keeps a good state good, if what it leads to is well kept
  deed_keeps : (s : State) → Good c s → (t : ℕ) (th : ThreadState) → IsThread s t th → (d : Deed) (after : State)
      → MayDo c s t th d after → IsWellKept c after → Good c after
  deed_keeps s good t th at Local after (free, begins, is) kept =
      subst (Good c) (sym is) (good_quiet c s good t th at s.output
      (with_frame (local_step (program_of c) t th.frame) th) (subst (IsWellKept c) is kept) (good.classes t th at)
      (λ i k e. let o = free.0 in absurd cc))
  deed_keeps s good t th at Enter after (i, body, rest, free, text, is) kept =
      subst (Good c) (sym is) (good_quiet c s good t th at s.output
      (entering (plan_at c i s.store th.frame.work.locals) th) (subst (IsWellKept c) is kept) (good.classes t th at)
      (λ i k e. absurd cc))
  deed_keeps s good t th at (Take k m) after (rest, entered, wanted, lets, is) kept =
      let new = taking k m rest th in
      let there = subst (IsWellKept c) is kept in
      let thread = there.threads t new (put_same t th new s.threads at) in
      let asks = subst (λ p. IsPlaced p new) entered thread.asks in
      let has = subst (λ p. IsAt c s.store t p new) entered thread.at in
      subst (Good c) (sym is) (good_quiet c s good t th at s.output new there
      (asking_holds c s.store new.held rest asks.1 has.1) (λ i k e. absurd cc))
  deed_keeps s good t th at Begin after (i, body, rest, ready, met, is) kept =
      subst (Good c) (sym is) (good_quiet c s good t th at s.output (beginning i body rest th)
      (subst (IsWellKept c) is kept) (good.classes t th at)
      (λ j k e. let same : body ≡ k = let f : Running i body ≡ Running j k = e in cc in
      let number : i ≡ j = let f : Running i body ≡ Running j k = e in cc in
      subst (λ n. AllSecured c s.store t n th.frame.work.locals th.held k) number
      (subst (AllSecured c s.store t i th.frame.work.locals th.held) same
      (begins_secured s good t th at i body rest ready.text met))))
  deed_keeps s good t th at Again after (i, body, rest, ready, met, is) kept =
      subst (Good c) (sym is) (good_quiet c s good t th at s.output (giving_back th) (subst (IsWellKept c) is kept)
      (none_held c s.store) (λ i k e. absurd cc))
  deed_keeps s good t th at Act after (i, k, running, begins, is) kept =
      subst (Good c) (sym is) (by (step_in c t k th.frame.work s.store) refl (subst (IsWellKept c) is kept))
    where
      by : (n : Next) → step_in c t k th.frame.work s.store ≡ n → IsWellKept c (after_act c t i th n s)
          → Good c (after_act c t i th n s)
      by (On k' v change) e kept = acts s good t th at i k running begins k' v change e kept
      by (Off why w) e kept = good_quiet c s good t th at s.output (acting c t i (Off why w) th) kept
          (good.classes t th at) (λ j m e. absurd cc)
  deed_keeps s good t th at Leave after (how, over, is) kept =
      subst (Good c) (sym is) (good_quiet c s good t th at (s.output ++ th.frame.work.printed)
      (with_frame (frame_out how th.frame) (giving_back th)) (subst (IsWellKept c) is kept) (none_held c s.store)
      (λ i k e. absurd cc))

  -- each event leads from a good state to a good one, if that is well kept
  pub event_keeps : (s after : State) (e : Event) → Good c s → Happens c s e after → IsWellKept c after → Good c after
  event_keeps s after e good (th, at, does) kept = deed_keeps s good e.thread th at e.deed after does kept

  -- an event of another thread leaves what a path denotes that a thread in a section still needs
  module _ (s : State) (good : Good c s) (t : ℕ) (th : ThreadState) (at : IsThread s t th) (i : ℕ) (k : TextView)
      (running : th.position ≡ Running i k) (p : PathView) (e : Effect)
      (needed : NeededIn c.scheme t (end_of c.scheme i) k (lock.Path p e)) where
    abbrev Same : State → Type 0
    Same after = path_datum after.store th.frame.work.locals p ≡ path_datum s.store th.frame.work.locals p

    same_store : (after new : State) → after ≡ new → new.store ≡ s.store → Same after
    same_store after new is same = ap (λ (x : State). path_datum x.store th.frame.work.locals p) is
        ∙ ap (λ x. path_datum x th.frame.work.locals p) same

    deed_leaves : (u : ℕ) (other : ThreadState) → t ≢ u → IsThread s u other → (d : Deed) (after : State)
        → MayDo c s u other d after → Same after
    deed_leaves u other apart uat Local after (free, begins, is) = same_store after _ is refl
    deed_leaves u other apart uat Enter after (j, body, rest, free, text, is) = same_store after _ is refl
    deed_leaves u other apart uat (Take x m) after (rest, entered, wanted, lets, is) = same_store after _ is refl
    deed_leaves u other apart uat Begin after (j, body, rest, ready, met, is) = same_store after _ is refl
    deed_leaves u other apart uat Again after (j, body, rest, ready, met, is) = same_store after _ is refl
    deed_leaves u other apart uat Leave after (how, over, is) = same_store after _ is refl
    deed_leaves u other apart uat Act after (j, m, acts_at, begins, is) =
        ap (λ (x : State). path_datum x.store th.frame.work.locals p) is
        ∙ by (step_in c u m other.frame.work s.store) refl
      where
        by : (n : Next) → step_in c u m other.frame.work s.store ≡ n
            → path_datum (changed_by u n s.store) th.frame.work.locals p ≡ path_datum s.store th.frame.work.locals p
        by (On m' v change) goes =
            let changes : MayChange c s u other change =
            record { at = uat; allowed = allowed s good u other uat j m acts_at begins m' v change goes } in
            others_leave_needed_paths_alone c ok.scheme typed_of s good t u apart th other k
            (record { at = at; number = i; runs = running }) change changes p e needed
        by (Off why w) goes = refl

    -- an event of another thread leaves what a needed path denotes
    pub event_leaves : (after : State) (event : Event) → Happens c s event after → t ≢ event.thread → Same after
    event_leaves after event (other, uat, does) apart = deed_leaves event.thread other apart uat event.deed after does
