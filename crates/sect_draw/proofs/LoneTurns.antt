-- What a turn of a thread comes to while all others stand outside.
use Rattle.std.proofs.Common.{true≢false, ◌≡◌, ◌≢◌, ◌<◌, ◌+◌, ◌++◌, ◌∙◌, refl, sym, ap, subst, arith, ℕ, suc}
use Rattle.std.proofs.Common.{inl, inr, Bool, true, false, List, [], ◌∷◌, map, length, Option, Some, None}
use Rattle.std.proofs.{lemmas.Bool.{and_from}, lemmas.List.{append-nil, append_assoc}}
use Rattle.std.specs.Prelude.{ℤ, slice_get, if◌then◌else◌}
use Rattle.sect_lemmas.specs.Lists.{Has, put_at}
use Rattle.sect_lemmas.proofs.{Options.{some_injective, none_or_some}, Replaced.{put_same, at_map, map_put, at-put_at}}
use Rattle.sect_lemmas.proofs.Replaced.{slice_get-map}
use Rattle.sect_types.specs.declared.meaning.store.Fault.{Fault}
use Rattle.sect_types.specs.{Statements.{TextView, Stop, Section}, Store.{StoreView}}
use Rattle.sect_types.specs.Meaning.{Next, On, Off, begins_step, after_change}
use Rattle.sect_types.specs.Whole.{FrameView, RunView, Left, Through, Broken, body_of, ahead, has_ended}
use Rattle.sect_types.specs.Whole.{local_step, after_section, section_in, store_left, frame_left, printed_left}
use Rattle.sect_types.proofs.shared.BodySteps.{left_after, step_keeps}
use Rattle.sect_types.proofs.shared.RunningAhead.{ahead_standing, ahead_after_local}
use Rattle.sect_modes.specs.{declared.mode.Mode.{Mode}, declared.key.Key.{Key}}
use Rattle.sect_emit.specs.{declared.plan.Grip.{Grip}, Plan.{grip, Ascends, meets, is_met, held_mode}}
use Rattle.sect_emit.specs.Compiled.{CompiledView, program_of}
use Rattle.sect_emit.specs.State.{Position, Outside, Entered, Running, Faulted, ThreadState, State, IsThread, outside}
use Rattle.sect_emit.specs.State.{plan_at}
use Rattle.sect_emit.proofs.shared.{Plans.{ascending_mode}, Modes.{at_least_itself}}
use Rattle.sect_world.specs.declared.{event.Deed.{Deed}, event.Event.{Event}, turned.Turned.{Turned}}
use Rattle.sect_world.specs.declared.event.Deed.TheVariants.{Local, Enter, Take, Begin, Again, Act, Leave}
use Rattle.sect_world.specs.declared.turned.{EventKind.{EventKind}, Turned.TheVariants.{Moved, Waits, Ended}}
use Rattle.sect_world.specs.Events.{MayDo, with_frame, entering, taking, beginning, acting, changed_by, step_in}
use Rattle.sect_world.specs.Events.{giving_back, IsOver, after_leave}
use Rattle.sect_world.specs.{Runs.{RunsTo, order_of}, Kept.{IsWellKept, IsPlaced}, Blocked.{IsBlocked}}
use Rattle.sect_world.specs.Worlds.{Does, MayFollow, AreTakesOfOthers, kind_of}
use Rattle.sect_draw.specs.steps.Resting.{resting, after_or, left_by}
use Rattle.sect_draw.proofs.Lone.{lone, put_twice, stands_before, stands_ended, section_now, section_never, turns_of}
use Rattle.sect_draw.proofs.Lone.{turns_inside, outside_standing, keys_at, fewer_local, fewer_inside}
use Rattle.sect_world.specs.declared.turned.EventKind.TheVariants as kind

-- what holds each key of a plan in its mode meets the plan
all_met : (held plan : List Grip) → ((g : Grip) → Has plan g → held_mode g.key held ≡ Some g.mode)
    → meets held plan ≡ true
all_met held [] each = refl
all_met held (g ∷ gs) each =
    and_from (is_met (held_mode g.key held) g.mode) (meets held gs)
    (ap (λ o. is_met o g.mode) (each g (inl refl)) ∙ at_least_itself g.mode)
    (all_met held gs (λ h there. each h (inr there)))

-- a plan meets itself
meets_itself : (plan : List Grip) → Ascends plan → meets plan plan ≡ true
meets_itself plan ascends = all_met plan plan (ascending_mode plan ascends)

-- a thread outside takes no key
no_take : (c : CompiledView) (g : FrameView) (u : ℕ) (s after : State) (d : Deed) → kind_of d ≡ kind.Take
    → MayDo c s u (outside g) d after → ⊥
no_take c g u s after Local is h = let off : kind.Local ≡ kind.Take = is in cc
no_take c g u s after Enter is h = let off : kind.Enter ≡ kind.Take = is in cc
no_take c g u s after (Take k m) is h = let off : Outside ≡ Entered = h.1 in cc
no_take c g u s after Begin is h = let off : kind.Begin ≡ kind.Take = is in cc
no_take c g u s after Again is h = let off : kind.Again ≡ kind.Take = is in cc
no_take c g u s after Act is h = let off : kind.Act ≡ kind.Take = is in cc
no_take c g u s after Leave is h = let off : kind.Leave ≡ kind.Take = is in cc

-- where all stand outside none is let in
none_let_in : (c : CompiledView) (t : ℕ) (r : RunView) (es : List Event) (after : State) → AreTakesOfOthers t es
    → RunsTo c (resting r) es after → es ≡ []
none_let_in c t r [] after takes run = refl
none_let_in c t r (e ∷ es) after takes run =
    let happens = run.1 in
    let from = slice_get-map outside r.frames e.thread happens.0 happens.1 in
    absurd (no_take c from.0 e.thread (resting r) run.0 e.deed takes.0
    (subst (λ th. MayDo c (resting r) e.thread th e.deed run.0) (sym from.2) happens.2))

inside_few : (k : TextView) (n : ℕ) → turns_inside k n < n + 3
inside_few k n = by (begins_step k) where
  by : (b : Bool) → (if b then n + 2 else 1) < n + 3
  by true = omega arith
  by false = omega arith

-- thread t, while all others stand outside with these frames and this has been delivered; it is on its way to this
-- state of whole sections, and to these having left a section
module _ (c : CompiledView) (t : ℕ) (fs : List FrameView) (f : FrameView) (there : slice_get fs t ≡ Some f)
    (output : List ℤ) (end : RunView) (os : List ℕ) where
  abbrev run_at : StoreView → RunView
  run_at store = record { store = store; output = output; frames = fs }

  -- its section leaves this
  abbrev Ends : TextView → Left → Type 0
  Ends rest left = (end ≡ after_section t rest left (run_at (store_left left))) × (os ≡ t ∷ [])

  -- the next section of a thread with this frame, if it has one
  abbrev section_ahead : StoreView → FrameView → Option RunView
  section_ahead store g = section_in (program_of c) t (ahead (program_of c) t g) (run_at store)

  abbrev frames_ahead : StoreView → FrameView → RunView
  frames_ahead store g =
      record { store = store; output = output; frames = put_at t (ahead (program_of c) t g) fs }

  -- so it comes there from where it is
  abbrev pub Comes : StoreView → ThreadState → Position → Type 0
  Comes store th Outside =
      (th.wanted ≡ []) × (th.held ≡ [])
      × (end ≡ after_or (section_ahead store th.frame) (frames_ahead store th.frame))
      × (os ≡ left_by t (section_ahead store th.frame))
  Comes store th Entered =
      (i : ℕ) × (body : TextView) × (rest : TextView) × (th.frame.text ≡ Section i body rest)
      × (th.held ++ th.wanted ≡ plan_at c i store th.frame.work.locals)
      × Ends rest (body_of (program_of c) t body th.frame.work store)
  Comes store th (Running i k) =
      (th.wanted ≡ []) × Ends th.frame.text (body_of (program_of c) t k th.frame.work store)
  Comes store th (Faulted i why) = (th.wanted ≡ []) × Ends th.frame.text (Broken why th.frame.work store)

  -- it is there
  abbrev pub Stops : State → List Event → Type 0
  Stops after es = (after ≡ resting end) × (order_of es ≡ os)

  -- it is nearer
  abbrev pub GoesOn : StoreView → ThreadState → State → List Event → Type 0
  GoesOn store th after es =
      (order_of es ≡ []) × ((more : StoreView) × (next : ThreadState) × (after ≡ lone t fs output more next)
      × Comes more next next.position
      × (turns_of c t more next next.position < turns_of c t store th th.position))

  abbrev CameBy : EventKind → StoreView → ThreadState → State → List Event → Type 0
  CameBy kind.Local store th after es = GoesOn store th after es
  CameBy kind.Enter store th after es = GoesOn store th after es
  CameBy kind.Take store th after es = GoesOn store th after es
  CameBy kind.Begin store th after es = GoesOn store th after es
  CameBy kind.Again store th after es = GoesOn store th after es
  CameBy kind.Act store th after es = GoesOn store th after es
  CameBy kind.Leave store th after es = Stops after es

  -- what its turn has come to
  abbrev pub Came : Turned → StoreView → ThreadState → State → List Event → Type 0
  Came (Moved k) store th after es = CameBy k store th after es
  Came Waits store th after es = ⊥
  Came Ended store th after es = Stops after es

  at_lone : (store : StoreView) (th : ThreadState) → IsThread (lone t fs output store th) t th
  at_lone store th = put_same t (outside f) th (map outside fs) (at_map outside fs t f there)

  is_lone : (store : StoreView) (th other : ThreadState) → IsThread (lone t fs output store th) t other → other ≡ th
  is_lone store th other is = some_injective other th (sym is ∙ at_lone store th)

  -- it becomes another
  put_lone : (store more : StoreView) (th next : ThreadState)
      → record { store = more; output = output; threads = put_at t next (put_at t th (map outside fs)) }
      ≡ lone t fs output more next
  put_lone store more th next =
      ap (λ ths. record { store = more; output = output; threads = ths }) (put_twice t th next (map outside fs))

  by_local : (store : StoreView) (th : ThreadState) → Comes store th th.position → (after : State)
      → MayDo c (lone t fs output store th) t th Local after
      → GoesOn store th after (record { thread = t; deed = Local } ∷ [])
  by_local store th on after h =
      let p = program_of c in
      let o : Comes store th Outside = subst (Comes store th) h.0.0 on in
      let next : ThreadState = with_frame (local_step p t th.frame) th in
      let same : ahead p t (local_step p t th.frame) ≡ ahead p t th.frame =
      ahead_after_local p t th.frame h.0.1 h.1 in
      let led : Comes store next Outside = (
        o.0,
        o.1,
        o.2 ∙ ap (λ g. after_or (section_in p t g (run_at store))
            (record { store = store; output = output; frames = put_at t g fs })) (sym same),
        o.3 ∙ ap (λ g. left_by t (section_in p t g (run_at store))) (sym same),
      ) in (
        refl,
        (
          store,
          next,
          h.2 ∙ put_lone store store th next,
          subst (Comes store next) (sym h.0.0) led,
          subst (λ q. turns_of c t store next q < turns_of c t store th q) (sym h.0.0)
              (fewer_local c t store th.frame h.0.1 h.1),
        ),
      )

  by_enter : (store : StoreView) (th : ThreadState) → Comes store th th.position → (after : State)
      → MayDo c (lone t fs output store th) t th Enter after
      → GoesOn store th after (record { thread = t; deed = Enter } ∷ [])
  by_enter store th on after h =
      let p = program_of c in
      let i = h.0 in
      let body = h.1 in
      let rest = h.2 in
      let free = h.3 in
      let is = h.4 in
      let plan : List Grip = plan_at c i store th.frame.work.locals in
      let o : Comes store th Outside = subst (Comes store th) free.0 on in
      let next : ThreadState = entering plan th in
      let stands = stands_before th.frame i body rest free.1 is in
      let now : section_ahead store th.frame
      ≡ Some (after_section t rest (body_of p t body th.frame.work store) (run_at store)) =
      ap (λ g. section_in p t g (run_at store)) (ahead_standing p t th.frame stands)
      ∙ section_now p t th.frame (run_at store) i body rest free.1 is in
      let led : Comes store next Entered = (
        i,
        body,
        rest,
        is,
        ap (λ hs. hs ++ plan) o.1,
        (
          o.2 ∙ ap (λ x. after_or x (frames_ahead store th.frame)) now,
          o.3 ∙ ap (left_by t) now,
        ),
      ) in
      let many : turns_of c t store th Outside ≡ th.frame.work.fuel + length plan + 5 =
      outside_standing c t store th.frame stands
      ∙ (ap (λ e. if has_ended e then 0 else th.frame.work.fuel + keys_at c store th.frame.text th.frame.work + 5)
      free.1
      ∙ ap (λ k. th.frame.work.fuel + keys_at c store k th.frame.work + 5) is) in
      let fewer : th.frame.work.fuel + length plan + 4 < turns_of c t store th Outside = omega (arith, many) in (
        refl,
        (
          store,
          next,
          h.5 ∙ put_lone store store th next,
          led,
          subst (λ q. th.frame.work.fuel + length plan + 4 < turns_of c t store th q) (sym free.0) fewer,
        ),
      )

  by_take : (store : StoreView) (th : ThreadState) → Comes store th th.position → (k : Key) (m : Mode) (after : State)
      → MayDo c (lone t fs output store th) t th (Take k m) after
      → GoesOn store th after (record { thread = t; deed = Take k m } ∷ [])
  by_take store th on k m after h =
      let rest = h.0 in
      let o : Comes store th Entered = subst (Comes store th) h.1 on in
      let next : ThreadState = taking k m rest th in
      let led : Comes store next Entered = (
        o.0,
        o.1,
        o.2,
        o.3,
        append_assoc th.held (grip k m ∷ []) rest ∙ (ap (λ ws. th.held ++ ws) (sym h.2) ∙ o.4),
        o.5,
      ) in
      let long : length th.wanted ≡ suc (length rest) = ap length h.2 in
      let fewer : turns_of c t store next Entered < turns_of c t store th Entered = omega (arith, long) in (
        refl,
        (
          store,
          next,
          h.4 ∙ put_lone store store th next,
          subst (Comes store next) (sym h.1) led,
          subst (λ q. turns_of c t store next q < turns_of c t store th q) (sym h.1) fewer,
        ),
      )

  by_begin : (store : StoreView) (th : ThreadState) → Comes store th th.position → (after : State)
      → MayDo c (lone t fs output store th) t th Begin after
      → GoesOn store th after (record { thread = t; deed = Begin } ∷ [])
  by_begin store th on after h =
      let p = program_of c in
      let i = h.0 in
      let body = h.1 in
      let rest = h.2 in
      let ready = h.3 in
      let o : Comes store th Entered = subst (Comes store th) ready.entered on in
      let both : Section o.0 o.1 o.2 ≡ Section i body rest = sym o.3 ∙ ready.text in
      let same_body : o.1 ≡ body = cc in
      let same_rest : o.2 ≡ rest = cc in
      let next : ThreadState = beginning i body rest th in
      let led : Comes store next (Running i body) = (
        ready.wanted,
        subst (λ k. Ends k (body_of p t body th.frame.work store)) same_rest
            (subst (λ b. Ends o.2 (body_of p t b th.frame.work store)) same_body o.5),
      ) in
      let few = inside_few body th.frame.work.fuel in
      let fewer : turns_inside body th.frame.work.fuel < turns_of c t store th Entered = omega (arith, few) in (
        refl,
        (
          store,
          next,
          h.5 ∙ put_lone store store th next,
          led,
          subst (λ q. turns_inside body th.frame.work.fuel < turns_of c t store th q) (sym ready.entered) fewer,
        ),
      )

  by_again : (store : StoreView) (th : ThreadState) → IsWellKept c (lone t fs output store th)
      → Comes store th th.position → (after : State) → MayDo c (lone t fs output store th) t th Again after → ⊥
  by_again store th kept on after h =
      let ready = h.3 in
      let o : Comes store th Entered = subst (Comes store th) ready.entered on in
      let plan : List Grip = plan_at c h.0 store th.frame.work.locals in
      let both : Section o.0 o.1 o.2 ≡ Section h.0 h.1 h.2 = sym o.3 ∙ ready.text in
      let same : o.0 ≡ h.0 = cc in
      let placed : IsPlaced Entered th =
      subst (λ q. IsPlaced q th) ready.entered (kept.threads t th (at_lone store th)).asks in
      let all : th.held ++ th.wanted ≡ plan =
      subst (λ j. th.held ++ th.wanted ≡ plan_at c j store th.frame.work.locals) same o.4 in
      let held : th.held ≡ plan = sym (append-nil th.held) ∙ (ap (λ ws. th.held ++ ws) (sym ready.wanted) ∙ all) in
      true≢false (sym (meets_itself plan (subst Ascends all placed.1))
      ∙ (ap (λ hs. meets hs plan) (sym held) ∙ h.4))

  by_act : (store : StoreView) (th : ThreadState) → Comes store th th.position → (after : State)
      → MayDo c (lone t fs output store th) t th Act after
      → GoesOn store th after (record { thread = t; deed = Act } ∷ [])
  by_act store th on after h =
      by (step_in c t h.1 th.frame.work store) refl
      (subst (λ left. Ends th.frame.text left) (step_keeps (program_of c) t h.1 th.frame.work store)
      (subst (Comes store th) h.2 on).1) h.4
    where
      by : (n : Next) → step_in c t h.1 th.frame.work store ≡ n
          → Ends th.frame.text (left_after (program_of c) t store n)
          → after ≡ record {
            store = changed_by t n store;
            output = output;
            threads = put_at t (acting c t h.0 n th) (put_at t th (map outside fs));
          }
          → GoesOn store th after (record { thread = t; deed = Act } ∷ [])
      by (On l v change) is ends so =
          let next : ThreadState = acting c t h.0 (On l v change) th in
          let o : Comes store th (Running h.0 h.1) = subst (Comes store th) h.2 on in (
            refl,
            (
              after_change t store change,
              next,
              so ∙ put_lone store (after_change t store change) th next,
              (o.0, ends),
              subst (λ q. turns_inside l v.fuel < turns_of c t store th q) (sym h.2)
                  (fewer_inside c t store h.1 l th.frame.work v change h.3 is),
            ),
          )
      by (Off why v) is ends so =
          let next : ThreadState = acting c t h.0 (Off why v) th in
          let o : Comes store th (Running h.0 h.1) = subst (Comes store th) h.2 on in
          let far : turns_inside h.1 th.frame.work.fuel ≡ th.frame.work.fuel + 2 =
          ap (λ b. if b then th.frame.work.fuel + 2 else 1) h.3 in
          let fewer : 0 < turns_inside h.1 th.frame.work.fuel = omega (arith, far) in (
            refl,
            (
              store,
              next,
              so ∙ put_lone store store th next,
              (o.0, ends),
              subst (λ q. 0 < turns_of c t store th q) (sym h.2) fewer,
            ),
          )

  -- it has left a section, which has left this
  left_so : (store : StoreView) (th : ThreadState) (left : Left) (after : State) → th.wanted ≡ []
      → Ends th.frame.text left
      → after ≡ record {
        store = store_left left;
        output = output ++ printed_left left;
        threads = put_at t (with_frame (frame_left th.frame.text left) (giving_back th)) (put_at t th (map outside fs));
      }
      → Stops after (record { thread = t; deed = Leave } ∷ [])
  left_so store th left after wanted ends so =
      let g = frame_left th.frame.text left in
      let out : with_frame g (giving_back th) ≡ outside g =
      ap (λ ws. record { position = Outside; frame = g; wanted = ws; held = [] }) wanted in (
        so ∙ (ap (λ ths. record {
          store = store_left left;
          output = output ++ printed_left left;
          threads = ths;
        }) (put_twice t th (with_frame g (giving_back th)) (map outside fs)
            ∙ (ap (λ x. put_at t x (map outside fs)) out ∙ sym (map_put outside t g fs)))
            ∙ ap resting (sym ends.0)),
        sym ends.1,
      )

  by_leave : (store : StoreView) (th : ThreadState) → Comes store th th.position → (after : State)
      → MayDo c (lone t fs output store th) t th Leave after
      → Stops after (record { thread = t; deed = Leave } ∷ [])
  by_leave store th on after h = by h.0 h.1 h.2 where
    by : (how : Option Fault) → IsOver th.position how
        → after ≡ after_leave t how th (lone t fs output store th)
        → Stops after (record { thread = t; deed = Leave } ∷ [])
    by None over so =
        let o : Comes store th (Running over.0 Stop) = subst (Comes store th) over.1 on in
        left_so store th (Through th.frame.work store) after o.0 o.1 so
    by (Some why) over so =
        let o : Comes store th (Faulted over.0 why) = subst (Comes store th) over.1 on in
        left_so store th (Broken why th.frame.work store) after o.0 o.1 so

  -- what an event of it comes to
  by_deed : (store : StoreView) (th : ThreadState) → IsWellKept c (lone t fs output store th)
      → Comes store th th.position → (d : Deed) (after : State) → MayDo c (lone t fs output store th) t th d after
      → CameBy (kind_of d) store th after (record { thread = t; deed = d } ∷ [])
  by_deed store th kept on Local after h = by_local store th on after h
  by_deed store th kept on Enter after h = by_enter store th on after h
  by_deed store th kept on (Take k m) after h = by_take store th on k m after h
  by_deed store th kept on Begin after h = by_begin store th on after h
  by_deed store th kept on Again after h = absurd (by_again store th kept on after h)
  by_deed store th kept on Act after h = by_act store th on after h
  by_deed store th kept on Leave after h = by_leave store th on after h

  -- nothing follows it in its turn
  alone : (k : EventKind) (store : StoreView) (th : ThreadState) (between after : State) (e : Event) (es : List Event)
      → CameBy k store th between (e ∷ []) → MayFollow k t es → RunsTo c between es after → k ≢ kind.Again → es ≡ []
  alone kind.Local store th between after e es came follows run other = follows
  alone kind.Enter store th between after e es came follows run other = follows
  alone kind.Take store th between after e es came follows run other = follows
  alone kind.Begin store th between after e es came follows run other = follows
  alone kind.Again store th between after e es came follows run other = absurd (other refl)
  alone kind.Act store th between after e es came follows run other = follows
  alone kind.Leave store th between after e es came follows run other =
      none_let_in c t end es after follows (subst (λ s. RunsTo c s es after) came.0 run)

  no_again : (store : StoreView) (th : ThreadState) → IsWellKept c (lone t fs output store th)
      → Comes store th th.position → (d : Deed) (after : State) → MayDo c (lone t fs output store th) t th d after
      → kind_of d ≢ kind.Again
  no_again store th kept on Local after h is = let off : kind.Local ≡ kind.Again = is in cc
  no_again store th kept on Enter after h is = let off : kind.Enter ≡ kind.Again = is in cc
  no_again store th kept on (Take k m) after h is = let off : kind.Take ≡ kind.Again = is in cc
  no_again store th kept on Begin after h is = let off : kind.Begin ≡ kind.Again = is in cc
  no_again store th kept on Again after h is = by_again store th kept on after h
  no_again store th kept on Act after h is = let off : kind.Act ≡ kind.Again = is in cc
  no_again store th kept on Leave after h is = let off : kind.Leave ≡ kind.Again = is in cc

  by_moved : (store : StoreView) (th : ThreadState) → IsWellKept c (lone t fs output store th)
      → Comes store th th.position → (k : EventKind) (es : List Event) (after : State)
      → Does c (lone t fs output store th) t (Moved k) es after → CameBy k store th after es
  by_moved store th kept on k [] after does = absurd does
  by_moved store th kept on k (e ∷ es) after does =
      let s : State = lone t fs output store th in
      let own = does.0 in
      let run = does.3 in
      let between = run.0 in
      let happens = run.1 in
      let is : happens.0 ≡ th = is_lone store th happens.0 (subst (λ u. IsThread s u happens.0) own happens.1) in
      let may : MayDo c s t th e.deed between = subst (λ x. MayDo c s t x e.deed between) is
      (subst (λ u. MayDo c s u happens.0 e.deed between) own happens.2) in
      let same_event : record { thread = t; deed = e.deed } ≡ e = ap (λ u. record { thread = u; deed = e.deed })
      (sym own) in
      let came : CameBy k store th between (e ∷ []) = subst (λ j. CameBy j store th between (e ∷ [])) does.1
      (subst (λ x. CameBy (kind_of e.deed) store th between (x ∷ [])) same_event
      (by_deed store th kept on e.deed between may)) in
      let none : es ≡ [] = alone k store th between after e es came does.2 run.2
      (λ again. no_again store th kept on e.deed between may (does.1 ∙ again)) in
      let last : between ≡ after = subst (λ xs. RunsTo c between xs after) none run.2 in
      subst (λ xs. CameBy k store th after (e ∷ xs)) (sym none)
      (subst (λ x. CameBy k store th x (e ∷ [])) last came)

  -- it never waits: no other wants or holds a key
  no_wait : (store : StoreView) (th other : ThreadState) → IsBlocked (lone t fs output store th) other → ⊥
  no_wait store th other b =
      elim (at-put_at t b.asker th b.asking (map outside fs) b.asker_is) [
        | inl own ↦ held_by (λ here. b.other (sym here ∙ own.0))
        | inr apart ↦ wants (slice_get-map outside fs b.asker b.asking apart.1)
      ] where
        wants : (g : FrameView) × (slice_get fs b.asker ≡ Some g) × (outside g ≡ b.asking) → ⊥
        wants from =
            let off : [] ≡ grip b.key b.asked ∷ b.asks.0 = ap (λ (x : ThreadState). x.wanted) from.2 ∙ b.asks.1 in cc

        holds : (g : FrameView) × (slice_get fs b.holder ≡ Some g) × (outside g ≡ b.holding) → ⊥
        holds from = none_or_some b.held
            (ap (λ (x : ThreadState). held_mode b.key x.held) from.2 ∙ b.holds)

        held_by : (t ≢ b.holder) → ⊥
        held_by apart =
            elim (at-put_at t b.holder th b.holding (map outside fs) b.holder_is) [
              | inl own ↦ apart own.0
              | inr other ↦ holds (slice_get-map outside fs b.holder b.holding other.1)
            ]

  -- where it has ended it has no section more
  by_ended : (store : StoreView) (th : ThreadState) → IsWellKept c (lone t fs output store th)
      → Comes store th th.position → has_ended th.frame.ended ≡ true → Stops (lone t fs output store th) []
  by_ended store th kept on ended =
      by th.position refl on (kept.threads t th (at_lone store th)).asks where
        alive : th.frame.ended ≡ None → ⊥
        alive none = true≢false (sym ended ∙ ap has_ended none)

        by : (q : Position) → th.position ≡ q → Comes store th q → IsPlaced q th → Stops (lone t fs output store th) []
        by Outside is o placed =
            let p = program_of c in
            let g = th.frame in
            let none : section_ahead store g ≡ None =
            ap (λ x. section_in p t x (run_at store)) (ahead_standing p t g (stands_ended g ended))
            ∙ section_never p t g (run_at store) ended in
            let so : end ≡ record { store = store; output = output; frames = put_at t g fs } =
            o.2 ∙ (ap (λ x. after_or x (frames_ahead store g)) none
            ∙ ap (λ x. record { store = store; output = output; frames = put_at t x fs })
            (ahead_standing p t g (stands_ended g ended))) in
            let out : th ≡ outside g =
            λ i. record { position = is i; frame = g; wanted = o.0 i; held = o.1 i } in (
              ap (lone t fs output store) out
                  ∙ (ap (λ ths. record { store = store; output = output; threads = ths }) (sym (map_put outside t g fs))
                  ∙ ap resting (sym so)),
              sym (o.3 ∙ ap (left_by t) none),
            )
        by Entered is o placed = absurd (alive placed.0)
        by (Running i k) is o placed = absurd (alive placed.0)
        by (Faulted i why) is o placed = absurd (alive placed.0)

  -- a turn
  pub turn_comes : (store : StoreView) (th : ThreadState) → IsWellKept c (lone t fs output store th)
      → Comes store th th.position → (turned : Turned) (es : List Event) (after : State)
      → Does c (lone t fs output store th) t turned es after → Came turned store th after es
  turn_comes store th kept on (Moved k) es after does = by_moved store th kept on k es after does
  turn_comes store th kept on Waits es after does = no_wait store th does.2.0 does.2.2
  turn_comes store th kept on Ended es after does =
      let ended = subst (λ (x : ThreadState). has_ended x.frame.ended ≡ true)
      (is_lone store th does.2.0 does.2.1) does.2.2 in
      subst (λ xs. Stops after xs) (sym does.0)
      (subst (λ s. Stops s []) (sym does.1) (by_ended store th kept on ended))
