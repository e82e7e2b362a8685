-- What every event keeps, and what turns come to.
use Rattle.std.proofs.Common.{◌≡◌, ◌≢◌, ◌≤◌, ◌<◌, ℕ, List, [], ◌∷◌, length, Some, refl, sym, ap, subst, ◌∙◌, inl, inr}
use Rattle.std.proofs.{Common.{arith, length-append}, lemmas.Option.{slice_get_within}}
use Rattle.std.specs.Prelude.{slice_get}
use Rattle.sect_lemmas.specs.Lists.{Has}
use Rattle.sect_lemmas.proofs.Replaced.{length-put_at, put_same}
use Rattle.sect_emit.specs.{Compiled.{CompiledView}, Plan.{grip}}
use Rattle.sect_emit.specs.{State.{ThreadState, State, IsThread, with_thread, plan_at}, declared.plan.Grip.{Grip}}
use Rattle.sect_world.specs.{Events.{MayDo, entering}, Runs.{RunsTo}, Sights.{wish_in}}
use Rattle.sect_world.specs.{Worlds.{Does, MayFollow, kind_of}, declared.event.Deed.{Deed}}
use Rattle.sect_world.specs.declared.event.Deed.TheVariants.{Local, Enter, Take, Begin, Again, Act, Leave}
use Rattle.sect_world.specs.{declared.event.Event.{Event}, declared.turned.EventKind.{EventKind}}
use Rattle.sect_world.specs.{declared.turned.Turned.{Turned}, declared.turned.Turned.TheVariants.{Moved, Waits, Ended}}
use Rattle.sect_draw.specs.steps.Turning.{HasEntered, WantsSome}

-- the output grows, and the threads stay as many
pub record Keeps (s after : State) : Type 0 where
  pub output : length s.output ≤ length after.output
  pub threads : length after.threads ≡ length s.threads

keeps_itself : (s : State) → Keeps s s
keeps_itself s = record { output = omega arith; threads = refl }

-- a thread is changed alone
keeps_others : (t : ℕ) (th : ThreadState) (s after : State) → after ≡ with_thread t th s → Keeps s after
keeps_others t th s after is = subst (Keeps s) (sym is)
    (record { output = omega arith; threads = length-put_at t th s.threads })

keeps_event : (c : CompiledView) (s after : State) (t : ℕ) (th : ThreadState) (d : Deed) → MayDo c s t th d after
    → Keeps s after
keeps_event c s after t th Local h = keeps_others t _ s after h.2
keeps_event c s after t th Enter h = keeps_others t _ s after h.5
keeps_event c s after t th (Take k m) h = keeps_others t _ s after h.4
keeps_event c s after t th Begin h = keeps_others t _ s after h.5
keeps_event c s after t th Again h = keeps_others t _ s after h.5
keeps_event c s after t th Act h = subst (Keeps s) (sym h.4)
    (record { output = omega arith; threads = length-put_at t _ s.threads })
keeps_event c s after t th Leave h = subst (Keeps s) (sym h.2) (record {
  output = omega (arith, length-append s.output th.frame.work.printed);
  threads = length-put_at t _ s.threads;
})

-- events, each of a thread of the state
pub record Keep (s after : State) (es : List Event) : Type 0 where
  pub kept : Keeps s after
  pub threads : (e : Event) → Has es e → e.thread < length s.threads

pub keep_events : (c : CompiledView) (s : State) (es : List Event) (after : State) → RunsTo c s es after
    → Keep s after es
keep_events c s [] after run =
    record { kept = subst (Keeps s) run (keeps_itself s); threads = λ e has. absurd has }
keep_events c s (e ∷ es) after run =
    let between = run.0 in
    let happens = run.1 in
    let first : Keeps s between = keeps_event c s between e.thread happens.0 e.deed happens.2 in
    let others = keep_events c between es after run.2 in
    let here : e.thread < length s.threads = slice_get_within s.threads e.thread happens.0 happens.1 in
    record {
      kept = record {
        output = omega (arith, first.output, others.kept.output);
        threads = others.kept.threads ∙ first.threads;
      };
      threads = λ x has. elim has [
        | inl is ↦ subst (λ (y : Event). y.thread < length s.threads) is here
        | inr there ↦ subst (λ n. x.thread < n) first.threads (others.threads x there)
      ];
    }

nothing_done : (s : State) (es : List Event) (after : State) → es ≡ [] → after ≡ s → Keep s after es
nothing_done s es after none same = record {
  kept = subst (Keeps s) (sym same) (keeps_itself s);
  threads = λ e has. absurd (subst (λ xs. Has xs e) none has);
}

-- a turn
pub keep_turn : (c : CompiledView) (s : State) (t : ℕ) (turned : Turned) (es : List Event) (after : State)
    → Does c s t turned es after → Keep s after es
keep_turn c s t (Moved k) [] after does = absurd does
keep_turn c s t (Moved k) (e ∷ es) after does = keep_events c s (e ∷ es) after does.3
keep_turn c s t Waits es after does = nothing_done s es after does.0 does.1
keep_turn c s t Ended es after does = nothing_done s es after does.0 does.1

-- who enters has entered
enters : (c : CompiledView) (s after : State) (t : ℕ) (th : ThreadState) → IsThread s t th → MayDo c s t th Enter after
    → HasEntered after t
enters c s after t th at h =
    let plan = plan_at c h.0 s.store th.frame.work.locals in
    subst (λ (z : State). HasEntered z t) (sym h.5)
    (entering plan th, put_same t th (entering plan th) s.threads at, refl)

-- and nothing follows in the turn
pub entered_by : (c : CompiledView) (s : State) (t : ℕ) (turned : Turned) (e : Event) (es : List Event) (after : State)
    → Does c s t turned (e ∷ es) after → e.deed ≡ Enter → HasEntered after t
entered_by c s t (Moved k) e es after does is =
    let none : es ≡ [] = subst (λ z. MayFollow z t es) (sym does.1 ∙ ap kind_of is) does.2 in
    let run = does.3 in
    let same : run.0 ≡ after = subst (λ xs. RunsTo c run.0 xs after) none run.2 in
    let happens = run.1 in
    subst (λ (z : State). HasEntered z t) same
    (subst (λ u. HasEntered run.0 u) does.0
    (enters c s run.0 e.thread happens.0 happens.1 (subst (λ d. MayDo c s e.thread happens.0 d run.0) is happens.2)))
entered_by c s t Waits e es after does is = absurd (let none : e ∷ es ≡ [] = does.0 in cc)
entered_by c s t Ended e es after does is = absurd (let none : e ∷ es ≡ [] = does.0 in cc)

-- who waits wants some key
pub wants_some : (c : CompiledView) (s : State) (t : ℕ) (es : List Event) (after : State)
    → Does c s t Waits es after → WantsSome after t
wants_some c s t es after does =
    let th = does.2.0 in
    let blocked = does.2.2 in
    let first = blocked.first in
    let wants : slice_get th.wanted 0 ≡ Some (grip blocked.key blocked.mode) =
    ap (λ (gs : List Grip). slice_get gs 0) first.1 in
    subst (λ (z : State). WantsSome z t) (sym does.1)
    (grip blocked.key blocked.mode, ap wish_in does.2.1 ∙ wants)

-- who moves makes an event
pub moved_some : (c : CompiledView) (s : State) (t : ℕ) (k : EventKind) (es : List Event) (after : State)
    → Does c s t (Moved k) es after → es ≢ []
moved_some c s t k [] after does none = does
moved_some c s t k (e ∷ es) after does none = cc

-- what is told of a turn
pub record AreTold (s after : State) (t : ℕ) (turned : Turned) (es : List Event) : Type 0 where
  pub waits : turned ≡ Waits → WantsSome after t
  pub moved : (k : EventKind) → turned ≡ Moved k → es ≢ []
  pub entered : (e : Event) (rest : List Event) → es ≡ e ∷ rest → e.deed ≡ Enter → HasEntered after t
  pub keep : Keep s after es

pub are_told : (c : CompiledView) (s : State) (t : ℕ) (turned : Turned) (es : List Event) (after : State)
    → Does c s t turned es after → AreTold s after t turned es
are_told c s t turned es after does = record {
  waits = λ is. wants_some c s t es after (subst (λ z. Does c s t z es after) is does);
  moved = λ k is. moved_some c s t k es after (subst (λ z. Does c s t z es after) is does);
  entered = λ e rest is. entered_by c s t turned e rest after (subst (λ z. Does c s t turned z after) is does);
  keep = keep_turn c s t turned es after does;
}
