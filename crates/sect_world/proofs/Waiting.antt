-- A thread that asks for a key comes to hold it, or is blocked.
use Rattle.std.proofs.Common.{◌≡◌, ◌⊎◌, inl, inr, ℕ, ◌+◌, ◌<◌, ◌^◌, List, [], ◌∷◌, ◌++◌, length, true, false, Some}
use Rattle.std.proofs.{Common.{None, refl, sym, ◌∙◌, ap, subst, arith}, lemmas.List.{append-nil, length-set}}
use Rattle.std.proofs.{lemmas.Option.{slice_get_within}, lemmas.Bool.{cases_Bool}}
use Rattle.std.specs.Prelude.{ℤ, slice_get, slice_index_or, is_some}
use Rattle.sect_types.specs.Store.{StoreView}
use Rattle.sect_lemmas.proofs.{Membership.{Has-right}, Replaced.{length-changed_at}}
use Rattle.sect_modes.specs.{declared.mode.Mode.{Mode}, declared.key.Key.{Key}, Key.{is_same_key, is_key_below}}
use Rattle.sect_modes.proofs.shared.Keys.{same_key}
use Rattle.sect_table.specs.{declared.claims.Answer.{Answer}, declared.claims.Answer.TheVariants.{Granted, Queued}}
use Rattle.sect_table.specs.{Contents.{Contents, hold_of, held_by, holds, is_waiting}, Answers.{IsAnswered}}
use Rattle.sect_table.specs.Sound.{IsKept as IsTableKept}
use Rattle.sect_emit.specs.{declared.plan.Grip.{Grip}, Plan.{grip, held_mode, Ascends}}
use Rattle.sect_emit.specs.{Compiled.{CompiledView, program_of}, State.{Entered, ThreadState, State, IsThread}}
use Rattle.sect_emit.proofs.shared.Keys.{not_below_itself}
use Rattle.sect_world.specs.{declared.event.Event.{Event}, declared.runner.Phase.{Phase}}
use Rattle.sect_world.specs.{declared.runner.Runner.{Runner}, declared.turned.Turned.TheVariants.{Moved, Waits}}
use Rattle.sect_world.specs.{Events.{Happens}, Runs.{IsRun, order_of}, Blocked.{IsBlocked}, Kept.{IsPlaced}}
use Rattle.sect_world.specs.{Worlds.{WorldView}, Waiting.{Asks, AllWaitersAsk}}
use Rattle.sect_world.specs.Viewing.{position_of, state_of, shown, IsWorld}
use Rattle.sect_world.specs.steps.Fits.{granted, take_of}
use Rattle.sect_world.specs.steps.Taking.{Wishes, IsAsked, advanced, advanced_at, grant_to, turn_by}
use Rattle.sect_world.proofs.Agreeing.{granted_happens, granted_asks, queued_fits, queued_is_blocked, waiter_asks}
use Rattle.sect_world.proofs.{Agreeing.{waiter_is_blocked}, Claims.{held-later, held-grips}}
use Rattle.sect_world.proofs.{KeptStates.{runs_are_well_kept}, LongerRuns.{run_on, order_of-more}}
use Rattle.sect_world.proofs.Viewing.{seen, world_fits, state_granted, each_advanced, first_dropped, TurnsInto}
use Rattle.sect_world.specs.declared.runner.Phase.TheVariants as phase
use Rattle.sect_world.specs.declared.turned.EventKind.TheVariants as kind

-- a runner is seen as entered where it is
entered_stage : (c : CompiledView) (s : Phase) → position_of c s ≡ Entered → s ≡ phase.Entered
entered_stage c phase.Outside e = absurd (let off : position_of c phase.Outside ≡ Entered = e in cc)
entered_stage c phase.Entered e = refl
entered_stage c (phase.Running i j) e = absurd (let off : position_of c (phase.Running i j) ≡ Entered = e in cc)
entered_stage c (phase.Faulted i why) e = absurd (let off : position_of c (phase.Faulted i why) ≡ Entered = e in cc)

-- what lies below a key isn't the key
unheld : (hs : List Grip) (g : Grip) (rest : List Grip) → Ascends (hs ++ g ∷ rest) → held_mode g.key hs ≡ None
unheld [] g rest a = refl
unheld (h ∷ hs) g rest a = elim (cases_Bool (is_same_key g.key h.key)) [
  | inl same ↦ absurd (not_below_itself h.key
      (subst (λ z. is_key_below h.key z ≡ true) (same_key g.key h.key same)
      (a.0 g (Has-right hs (g ∷ rest) g (inl refl)))))
  | inr other ↦ held-later g.key h hs other ∙ unheld hs g rest a.1
]

-- what stands for a thread that asks: the key that it asks for is free for it
pub record Asker (c : CompiledView) (rs : List Runner) (table : Contents) (t : ℕ) (k : Key) (m : Mode) : Type 0 where
  pub runner : Runner
  pub at : slice_get rs t ≡ Some runner
  pub wishes : Wishes runner (grip k m)
  pub unheld : holds t k table ≡ false
  pub room : runner.taken + 1 < 2 ^ 64
  pub within : t < length table.held

pub asker : (c : CompiledView) (fuel : ℕ) (trace : List Event) (order : List ℕ) (store : StoreView) (output : List ℤ)
    (rs : List Runner) (table : Contents)
    → IsWorld c fuel trace order store output rs table → (t : ℕ) (k : Key) (m : Mode)
    → Asks (state_of c store output rs table.held) t k m
    → Asker c rs table t k m
asker c fuel trace order store output rs table w t k m asks =
    let th : ThreadState = asks.0 in
    let s = seen c (program_of c).texts rs table.held t th asks.1 in
    let f = world_fits c fuel trace order store output rs table w in
    let first = first_dropped s.runner.taken s.runner.wanted.items (grip k m) asks.3.0
    (sym (ap (λ (z : ThreadState). z.wanted) s.is) ∙ asks.3.1) in
    let few = slice_get_within s.runner.wanted.items s.runner.taken (grip k m) first in
    let small = s.runner.wanted.small in
    let counted = s.runner.wanted.ok in
    let placed : IsPlaced Entered th =
    subst (λ p. IsPlaced p th) asks.2
    ((runs_are_well_kept c w.compiled fuel trace (state_of c store output rs table.held) w.run).threads t th
    asks.1).asks in
    let none : held_mode k th.held ≡ None =
    unheld th.held (grip k m) asks.3.0 (subst (λ gs. Ascends (th.held ++ gs)) asks.3.1 placed.1) in
    record {
      runner = s.runner;
      at = s.runner_at;
      wishes = record {
        entered = entered_stage c s.runner.phase
            (sym (ap (λ (z : ThreadState). z.position) s.is) ∙ asks.2);
        first = first;
      };
      unheld = ap is_some (sym (held-grips k (held_by table t)) ∙ (ap (held_mode k) (sym (f.held t th asks.1)) ∙ none));
      room = omega (arith, few, small, counted);
      within = slice_get_within table.held t s.holds s.holds_at;
    }

-- a key is taken
took : (c : CompiledView) (fuel : ℕ) (trace : List Event) (order : List ℕ) (store : StoreView) (output : List ℤ)
    (rs : List Runner) (table table' : Contents)
    → IsWorld c fuel trace order store output rs table → (t : ℕ) (k : Key) (m : Mode)
    → Asks (state_of c store output rs table.held) t k m
    → IsAnswered Granted t k m table table' → is_waiting t table ≡ false → IsTableKept table'
    → IsWorld c fuel (trace ++ take_of (grant_to t (grip k m)) ∷ []) order store output (advanced_at t rs) table'
    × Happens c (state_of c store output rs table.held) (take_of (grant_to t (grip k m)))
    (state_of c store output (advanced_at t rs) table'.held)
took c fuel trace order store output rs table table' w t k m asks a idle kept =
    let s : State = state_of c store output rs table.held in
    let f = world_fits c fuel trace order store output rs table w in
    let g = grant_to t (grip k m) in
    let same : granted g s ≡ state_of c store output (advanced_at t rs) table'.held =
    sym (state_granted c store output rs table.held g)
    ∙ ap (state_of c store output (advanced_at t rs)) (sym a.1) in
    let happens = subst (Happens c s (take_of g)) same (granted_happens c table table' s g w.tabled f asks a) in (
      record {
        compiled = w.compiled;
        run = run_on c fuel trace s (state_of c store output (advanced_at t rs) table'.held) (take_of g) w.run happens;
        ordered = w.ordered ∙ (sym (append-nil (order_of trace)) ∙ sym (order_of-more trace (take_of g)));
        as_many = length-changed_at t advanced rs ∙ w.as_many;
        as_many_held = ap length a.1 ∙ (length-set table.held t (slice_index_or table.held t [] ++ hold_of k m ∷ [])
            ∙ w.as_many_held);
        sited = each_advanced _ (λ u r is. is) (g ∷ []) rs w.sited;
        waits = subst (λ z. AllWaitersAsk z table'.entries) same (granted_asks table table' s g f idle a);
        tabled = kept;
      },
      happens,
    )

-- a thread is queued, and is blocked
queued : (c : CompiledView) (fuel : ℕ) (trace : List Event) (order : List ℕ) (store : StoreView) (output : List ℤ)
    (rs : List Runner) (table table' : Contents)
    → IsWorld c fuel trace order store output rs table → (t : ℕ) (k : Key) (m : Mode)
    → Asks (state_of c store output rs table.held) t k m
    → IsAnswered Queued t k m table table' → IsTableKept table'
    → IsWorld c fuel trace order store output rs table'
    × ((th : ThreadState) × IsThread (state_of c store output rs table.held) t th
    × IsBlocked (state_of c store output rs table.held) th)
queued c fuel trace order store output rs table table' w t k m asks a kept =
    let s : State = state_of c store output rs table.held in
    let f = queued_fits table table' s t k m (world_fits c fuel trace order store output rs table w) asks a in (
      record {
        compiled = w.compiled;
        run = subst (λ z. IsRun c fuel trace (state_of c store output rs z)) (sym a.1) w.run;
        ordered = w.ordered;
        as_many = w.as_many;
        as_many_held = ap length a.1 ∙ w.as_many_held;
        sited = w.sited;
        waits = subst (λ z. AllWaitersAsk (state_of c store output rs z) table'.entries) (sym a.1) f.waits;
        tabled = kept;
      },
      (asks.0, asks.1, queued_is_blocked table table' s t asks.0 k m kept f asks.1 a),
    )

-- who waits already is blocked
blocked_already : (c : CompiledView) (fuel : ℕ) (trace : List Event) (order : List ℕ) (store : StoreView)
    (output : List ℤ) (rs : List Runner) (table : Contents)
    → IsWorld c fuel trace order store output rs table → (t : ℕ) → is_waiting t table ≡ true
    → (th : ThreadState) × IsThread (state_of c store output rs table.held) t th
    × IsBlocked (state_of c store output rs table.held) th
blocked_already c fuel trace order store output rs table w t e =
    let f = world_fits c fuel trace order store output rs table w in
    let a = waiter_asks table (state_of c store output rs table.held) t w.tabled f e in
    (a.2.0, a.2.1, waiter_is_blocked table (state_of c store output rs table.held) t a.2.0 w.tabled f a.2.1 e)

-- asking is a turn
pub world_asked : (c : CompiledView) (fuel : ℕ) (trace trace' : List Event) (order : List ℕ) (store : StoreView)
    (output : List ℤ) (rs rs' : List Runner) (table table' : Contents) (lets : List ℕ)
    → IsWorld c fuel trace order store output rs table → (t : ℕ) (k : Key) (m : Mode) (answer : Answer)
    → Asks (state_of c store output rs table.held) t k m
    → IsAsked answer t (grip k m) trace trace' rs rs' table table' → IsTableKept table'
    → TurnsInto (shown c fuel trace order store output rs table.held lets) t (turn_by answer) c fuel trace' order store
    output rs' table' []
world_asked c fuel trace trace' order store output rs rs' table table' lets w t k m Granted asks a kept =
    let old : WorldView = shown c fuel trace order store output rs table.held lets in
    let e : Event = take_of (grant_to t (grip k m)) in
    let next = took c fuel trace order store output rs table table' w t k m asks a.2 a.3 kept in
    subst (λ z. TurnsInto old t (Moved kind.Take) c fuel z order store output rs' table' []) (sym a.0)
    (subst (λ z. TurnsInto old t (Moved kind.Take) c fuel (trace ++ e ∷ []) order store output z table' []) (sym a.1)
    (record {
      world = next.0;
      turned = record {
        compiled = refl;
        fuel = refl;
        events = e ∷ [];
        trace = refl;
        does = (refl, refl, refl, (state_of c store output (advanced_at t rs) table'.held, next.1, refl));
        granted = refl;
      };
    }))
world_asked c fuel trace trace' order store output rs rs' table table' lets w t k m Queued asks a kept =
    subst (λ z. TurnsInto old t Waits c fuel z order store output rs' table' []) (sym a.0)
    (subst (λ z. TurnsInto old t Waits c fuel trace order store output z table' []) (sym a.1) (by a.2)) where
      old : WorldView
      old = shown c fuel trace order store output rs table.held lets

      by : ((is_waiting t table ≡ true) × (table' ≡ table)) ⊎ IsAnswered Queued t k m table table'
          → TurnsInto old t Waits c fuel trace order store output rs table' []
      by (inl same) = record {
        world = subst (λ z. IsWorld c fuel trace order store output rs z) (sym same.1) w;
        turned = record {
          compiled = refl;
          fuel = refl;
          events = [];
          trace = sym (append-nil trace);
          does = (
            refl,
            ap (λ (z : Contents). state_of c store output rs z.held) same.1,
            blocked_already c fuel trace order store output rs table w t same.0,
          );
          granted = refl;
        };
      }
      by (inr new) =
          let q = queued c fuel trace order store output rs table table' w t k m asks new kept in
          record {
            world = q.0;
            turned = record {
              compiled = refl;
              fuel = refl;
              events = [];
              trace = sym (append-nil trace);
              does = (refl, ap (state_of c store output rs) new.1, q.1);
              granted = refl;
            };
          }
