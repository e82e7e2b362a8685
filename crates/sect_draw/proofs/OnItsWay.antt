-- A thread goes through its next section alone, from where all threads stand outside.
use Rattle.std.proofs.Common.{◌≡◌, ◌<◌, ◌∙◌, refl, sym, ap, subst, ℕ, List, [], ◌∷◌, map, Some, length}
use Rattle.std.specs.Prelude.{ℤ, slice_get}
use Rattle.sect_lemmas.specs.Lists.{put_at}
use Rattle.sect_lemmas.proofs.{Places.{at_of}, Replaced.{put_same, at_map}}
use Rattle.sect_types.specs.Store.{StoreView}
use Rattle.sect_types.specs.Whole.{FrameView, RunView, ahead, section_of_thread, run_section}
use Rattle.sect_emit.specs.Compiled.{CompiledView, program_of}
use Rattle.sect_emit.specs.State.{ThreadState, State, outside}
use Rattle.sect_world.specs.declared.{event.Event.{Event}, turned.EventKind.{EventKind}, turned.Turned.{Turned}}
use Rattle.sect_world.specs.declared.turned.Turned.TheVariants.{Moved, Waits, Ended}
use Rattle.sect_world.specs.{Runs.{order_of}, Kept.{IsWellKept}, Worlds.{Does}}
use Rattle.sect_draw.specs.steps.Resting.{resting, run_of, IsLast, IsResting, after_or, left_by, gone_ahead}
use Rattle.sect_draw.specs.steps.Resting.{gone_through}
use Rattle.sect_draw.proofs.Lone.{lone, put_back, change_puts, turns_left, turns_of, turns_in}
use Rattle.sect_draw.proofs.LoneTurns.{Comes, GoesOn, Came, turn_comes}
use Rattle.sect_world.specs.declared.turned.EventKind.TheVariants as kind

-- the frames of threads outside
frames_back : (fs : List FrameView) → map (λ (th : ThreadState). th.frame) (map outside fs) ≡ fs
frames_back [] = refl
frames_back (f ∷ fs) = ap (λ gs. f ∷ gs) (frames_back fs)

pub run_back : (r : RunView) → run_of (resting r) ≡ r
run_back r = ap (λ fs. record { store = r.store; output = r.output; frames = fs }) (frames_back r.frames)

pub rests_so : (s : State) (r : RunView) → s ≡ resting r → IsResting s
rests_so s r is = is ∙ ap resting (sym (ap run_of is ∙ run_back r))

pub run_so : (s : State) (r : RunView) → s ≡ resting r → run_of s ≡ r
run_so s r is = ap run_of is ∙ run_back r

-- thread t is on its way to this state of whole sections, and to these having left a section
pub record IsOnWay (c : CompiledView) (t : ℕ) (end : RunView) (os : List ℕ) (s : State) : Type 0 where
  pub frames : List FrameView
  pub frame : FrameView
  pub there : slice_get frames t ≡ Some frame
  pub output : List ℤ
  pub store : StoreView
  pub thread : ThreadState
  pub is : s ≡ lone t frames output store thread
  pub comes : Comes c t frames frame there output end os store thread thread.position

-- it is there
abbrev pub IsThrough : RunView → List ℕ → State → List Event → Type 0
IsThrough end os s es = (s ≡ resting end) × (order_of es ≡ os)

-- it is nearer
pub record IsNearer (c : CompiledView) (t : ℕ) (end : RunView) (os : List ℕ) (s after : State) (es : List Event)
    : Type 0 where
  pub none : order_of es ≡ []
  pub way : IsOnWay c t end os after
  pub fewer : turns_left c t after < turns_left c t s

abbrev MovedSo : CompiledView → ℕ → RunView → List ℕ → State → State → List Event → EventKind → Type 0
MovedSo c t end os s after es kind.Local = IsNearer c t end os s after es
MovedSo c t end os s after es kind.Enter = IsNearer c t end os s after es
MovedSo c t end os s after es kind.Take = IsNearer c t end os s after es
MovedSo c t end os s after es kind.Begin = IsNearer c t end os s after es
MovedSo c t end os s after es kind.Again = IsNearer c t end os s after es
MovedSo c t end os s after es kind.Act = IsNearer c t end os s after es
MovedSo c t end os s after es kind.Leave = IsThrough end os after es

-- a turn has led so far
abbrev pub TurnedSo : CompiledView → ℕ → RunView → List ℕ → State → State → List Event → Turned → Type 0
TurnedSo c t end os s after es (Moved k) = MovedSo c t end os s after es k
TurnedSo c t end os s after es Waits = ⊥
TurnedSo c t end os s after es Ended = IsThrough end os after es

-- behind the last turn it is there
pub last_so : (c : CompiledView) (t : ℕ) (end : RunView) (os : List ℕ) (s after : State) (es : List Event)
    (turned : Turned) → IsLast turned → TurnedSo c t end os s after es turned → IsThrough end os after es
last_so c t end os s after es (Moved k) last so = subst (MovedSo c t end os s after es) last so
last_so c t end os s after es Waits last so = absurd so
last_so c t end os s after es Ended last so = so

-- behind another it is nearer
pub nearer_so : (c : CompiledView) (t : ℕ) (end : RunView) (os : List ℕ) (s after : State) (es : List Event)
    (turned : Turned) → (IsLast turned → ⊥) → TurnedSo c t end os s after es turned
    → IsNearer c t end os s after es
nearer_so c t end os s after es (Moved kind.Local) other so = so
nearer_so c t end os s after es (Moved kind.Enter) other so = so
nearer_so c t end os s after es (Moved kind.Take) other so = so
nearer_so c t end os s after es (Moved kind.Begin) other so = so
nearer_so c t end os s after es (Moved kind.Again) other so = so
nearer_so c t end os s after es (Moved kind.Act) other so = so
nearer_so c t end os s after es (Moved kind.Leave) other so = absurd (other refl)
nearer_so c t end os s after es Waits other so = absurd so
nearer_so c t end os s after es Ended other so = absurd (other tt)

-- so many turns are left of a thread that is this
turns_at : (c : CompiledView) (t : ℕ) (fs : List FrameView) (f : FrameView) → slice_get fs t ≡ Some f
    → (output : List ℤ) (store : StoreView) (th : ThreadState)
    → turns_left c t (lone t fs output store th) ≡ turns_of c t store th th.position
turns_at c t fs f there output store th =
    ap (turns_in c t store) (put_same t (outside f) th (map outside fs) (at_map outside fs t f there))

module _ (c : CompiledView) (t : ℕ) (end : RunView) (os : List ℕ) (s : State) (way : IsOnWay c t end os s) where
  nearer : (after : State) (es : List Event)
      → GoesOn c t way.frames way.frame way.there way.output end os way.store way.thread after es
      → IsNearer c t end os s after es
  nearer after es gone =
      let store = gone.1.0 in
      let th = gone.1.1 in record {
        none = gone.0;
        way = record {
          frames = way.frames;
          frame = way.frame;
          there = way.there;
          output = way.output;
          store = store;
          thread = th;
          is = gone.1.2;
          comes = gone.1.3;
        };
        fewer =
            let now = ap (turns_left c t) gone.1.2
            ∙ turns_at c t way.frames way.frame way.there way.output store th in
            let was = ap (turns_left c t) way.is
            ∙ turns_at c t way.frames way.frame way.there way.output way.store way.thread in
            let less = gone.1.4 in
            subst (λ n. n < turns_left c t s) (sym now)
            (subst (λ n. turns_of c t store th th.position < n) (sym was) less);
      }

  moved_so : (k : EventKind) (after : State) (es : List Event)
      → Came c t way.frames way.frame way.there way.output end os (Moved k) way.store way.thread after es
      → MovedSo c t end os s after es k
  moved_so kind.Local after es came = nearer after es came
  moved_so kind.Enter after es came = nearer after es came
  moved_so kind.Take after es came = nearer after es came
  moved_so kind.Begin after es came = nearer after es came
  moved_so kind.Again after es came = nearer after es came
  moved_so kind.Act after es came = nearer after es came
  moved_so kind.Leave after es came = came

  turned_so : (turned : Turned) (after : State) (es : List Event)
      → Came c t way.frames way.frame way.there way.output end os turned way.store way.thread after es
      → TurnedSo c t end os s after es turned
  turned_so (Moved k) after es came = moved_so k after es came
  turned_so Waits after es came = came
  turned_so Ended after es came = came

  -- a turn of a thread on its way
  pub turn_on : IsWellKept c s → (turned : Turned) (es : List Event) (after : State)
      → Does c s t turned es after → TurnedSo c t end os s after es turned
  turn_on kept turned es after does =
      turned_so turned after es (turn_comes c t way.frames way.frame way.there way.output end os way.store way.thread
      (subst (IsWellKept c) way.is kept) way.comes turned es after
      (subst (λ x. Does c x t turned es after) way.is does))

-- it sets out where all threads stand outside
pub sets_out : (c : CompiledView) (t : ℕ) (s : State) → IsResting s → t < length s.threads
    → IsOnWay c t (gone_through (program_of c) t (run_of s)) (left_by t (run_section (program_of c) t (run_of s))) s
sets_out c t s rests within =
    let p = program_of c in
    let r = run_of s in
    let at = at_of s.threads t within in
    let f = at.0.frame in
    let there : slice_get r.frames t ≡ Some f = at_map (λ (th : ThreadState). th.frame) s.threads t at.0 at.1 in
    let section : run_section p t r ≡ section_of_thread p t (Some f) r = ap (λ o. section_of_thread p t o r) there in
    let gone : gone_ahead p t r ≡ record {
      store = r.store;
      output = r.output;
      frames = put_at t (ahead p t f) r.frames;
    } = ap (λ fs. record { store = r.store; output = r.output; frames = fs })
    (change_puts t (ahead p t) f r.frames there) in
    record {
      frames = r.frames;
      frame = f;
      there = there;
      output = r.output;
      store = r.store;
      thread = outside f;
      is = rests ∙ ap (λ ths. record { store = r.store; output = r.output; threads = ths })
          (sym (put_back t (outside f) (map outside r.frames) (at_map outside r.frames t f there)));
      comes = (
        refl,
        refl,
        ap (λ o. after_or o (gone_ahead p t r)) section
            ∙ ap (λ (x : RunView). after_or (section_of_thread p t (Some f) r) x) gone,
        ap (left_by t) section,
      );
    }
