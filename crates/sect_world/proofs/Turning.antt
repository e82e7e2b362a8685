-- An event of a thread that neither waits nor gives back is a turn.
use Rattle.std.proofs.Common.{◌≡◌, ℕ, ◌<◌, List, [], ◌∷◌, ◌++◌, length, Some, refl, sym, ◌∙◌, ap, subst}
use Rattle.std.proofs.lemmas.List.{append-nil, length-set, set-get_or, get_or-set_same}
use Rattle.std.proofs.lemmas.Option.{slice_get_within, get_or_from_slice_get}
use Rattle.std.specs.Prelude.{ℤ, slice_get, slice_index_or, slice_set}
use Rattle.sect_types.specs.{Statements.{Stop}, Store.{StoreView}}
use Rattle.sect_lemmas.specs.Lists.{put_at}
use Rattle.sect_lemmas.proofs.{Changed.{set_put}, Replaced.{each_put}}
use Rattle.sect_table.specs.declared.claims.Hold.{Hold}
use Rattle.sect_table.specs.Contents.{Entry, Contents, held_by, hold_of, entry_of, with_holder, claim_of}
use Rattle.sect_table.specs.Sound.{waits_of, IsKept as IsTableKept}
use Rattle.sect_table.proofs.shared.{Entries.{entry_key}, Sounding.{waits_for_none}}
use Rattle.sect_emit.specs.{declared.plan.Grip.{Grip}, Compiled.{CompiledView, program_of}, Graphed.{text_at}}
use Rattle.sect_emit.specs.State.{Entered, ThreadState, State, IsThread}
use Rattle.sect_modes.specs.{declared.mode.Mode.{Mode}, declared.key.Key.{Key}}
use Rattle.sect_world.specs.{declared.event.Deed.{Deed}, declared.event.Event.{Event}, declared.runner.Runner.{Runner}}
use Rattle.sect_world.specs.{declared.turned.Turned.TheVariants.{Moved}, Events.{MayDo, Happens}}
use Rattle.sect_world.specs.{Runs.{order_of, leaver}, Blocked.{WantsFirst}, Worlds.{MayFollow, kind_of}}
use Rattle.sect_world.specs.Waiting.{AllWaitersAsk}
use Rattle.sect_world.specs.Viewing.{thread_of, threads_of, state_of, shown, IsSited, IsWorld}
use Rattle.sect_world.specs.steps.Moves.{HoldsMore}
use Rattle.sect_world.proofs.{Agreeing.{no_waiter, others_ask, put_asks, put_keeps}, LongerRuns.{run_on, order_of-more}}
use Rattle.sect_world.proofs.Viewing.{seen, replaced_threads, world_fits, TurnsInto}

-- what stands for a thread of a world
pub record Standing (c : CompiledView) (rs : List Runner) (table : Contents) (t : ℕ) (th : ThreadState) : Type 0 where
  pub runner : Runner
  pub at : slice_get rs t ≡ Some runner
  pub is : th ≡ thread_of c (text_at c t) runner (held_by table t)
  pub text : slice_get (program_of c).texts t ≡ Some (text_at c t)
  pub within : t < length (program_of c).texts
  pub within_held : t < length table.held

pub standing : (c : CompiledView) (fuel : ℕ) (trace : List Event) (order : List ℕ) (store : StoreView) (output : List ℤ)
    (rs : List Runner) (table : Contents)
    → IsWorld c fuel trace order store output rs table → (t : ℕ) (th : ThreadState)
    → IsThread (state_of c store output rs table.held) t th → Standing c rs table t th
standing c fuel trace order store output rs table w t th at =
    let x = seen c (program_of c).texts rs table.held t th at in
    let text : text_at c t ≡ x.text = get_or_from_slice_get (program_of c).texts t x.text Stop x.text_at in
    let held : held_by table t ≡ x.holds = get_or_from_slice_get table.held t x.holds [] x.holds_at in
    record {
      runner = x.runner;
      at = x.runner_at;
      is = x.is ∙ (λ i. thread_of c (sym text i) x.runner (sym held i));
      text = x.text_at ∙ ap Some (sym text);
      within = slice_get_within (program_of c).texts t x.text x.text_at;
      within_held = slice_get_within table.held t x.holds x.holds_at;
    }

-- the table of a thread that holds more
held_changed : (t : ℕ) (gs : List Grip) (old new : Contents) → t < length old.held → HoldsMore t gs old new
    → new.held ≡ slice_set old.held t (held_by new t)
held_changed t [] old new within same =
    subst (λ (z : Contents). z.held ≡ slice_set old.held t (held_by z t)) (sym same) (sym (set-get_or old.held t []))
held_changed t (g ∷ []) old new within a =
    let hs : List Hold = held_by old t ++ hold_of g.key g.mode ∷ [] in
    let now : held_by new t ≡ hs = ap (λ z. slice_index_or z t []) a.0.1 ∙ get_or-set_same old.held t hs [] within in
    a.0.1 ∙ ap (slice_set old.held t) (sym now)
held_changed t (g ∷ h ∷ gs) old new within a = absurd a

still_kept : (t : ℕ) (gs : List Grip) (old new : Contents) → IsTableKept old → HoldsMore t gs old new → IsTableKept new
still_kept t [] old new kept same = subst IsTableKept (sym same) kept
still_kept t (g ∷ []) old new kept a = a.1
still_kept t (g ∷ h ∷ gs) old new kept a = absurd a

-- the waiters ask as before
still_asked : (s : State) (t : ℕ) (gs : List Grip) (old new : Contents) → AllWaitersAsk s old.entries
    → HoldsMore t gs old new → AllWaitersAsk s new.entries
still_asked s t [] old new all same = subst (λ (z : Contents). AllWaitersAsk s z.entries) (sym same) all
still_asked s t (g ∷ []) old new all a =
    let e : Entry = with_holder (claim_of t g.mode) (entry_of g.key old.entries) in
    subst (AllWaitersAsk s) (sym a.0.2)
    (put_asks g.key e old.entries s (entry_key g.key old.entries) all (λ w h. all g.key w h))
still_asked s t (g ∷ h ∷ gs) old new all a = absurd a

-- an event of thread t that leads to where this runner stands for it
pub went_on : (c : CompiledView) (fuel : ℕ) (trace made trace' : List Event) (order : List ℕ) (store store' : StoreView)
    (output : List ℤ) (rs rs' : List Runner) (table table' : Contents) (lets lets' : List ℕ)
    → IsWorld c fuel trace order store output rs table
    → (t : ℕ) (th : ThreadState) (at : IsThread (state_of c store output rs table.held) t th)
    → ((k : Key) (m : Mode) → th.position ≡ Entered → WantsFirst th k m → ⊥)
    → (d : Deed) → leaver t d ≡ [] → MayFollow (kind_of d) t []
    → (q : Runner) → IsSited c q.phase → (gs : List Grip) → HoldsMore t gs table table'
    → MayDo c (state_of c store output rs table.held) t th d
    (record {
      store = store';
      output = output;
      threads =
          put_at t (thread_of c (text_at c t) q (held_by table' t)) (threads_of c (program_of c).texts rs table.held);
    })
    → made ≡ trace → trace' ≡ made ++ record { thread = t; deed = d } ∷ [] → rs' ≡ slice_set rs t q → lets' ≡ []
    → TurnsInto (shown c fuel trace order store output rs table.held lets) t (Moved (kind_of d)) c fuel trace' order
    store' output rs' table' lets'
went_on c fuel trace made trace' order store store' output rs rs' table table' lets lets' w t th at idle d stays follow
    q is_sited gs more does made_is trace_is rs_is lets_is = record {
      world = rw (trace_is, made_is, rs_is) (record {
        compiled = w.compiled;
        run = run_on c fuel trace s (state_of c store' output (slice_set rs t q) table'.held) e w.run happens;
        ordered = w.ordered ∙ (sym (append-nil (order_of trace))
            ∙ (ap (λ z. order_of trace ++ z) (sym stays) ∙ sym (order_of-more trace e)));
        as_many = length-set rs t q ∙ w.as_many;
        as_many_held = ap length held ∙ (length-set table.held t (held_by table' t) ∙ w.as_many_held);
        sited = subst (λ z. (u : ℕ) (r : Runner) → slice_get z u ≡ Some r → IsSited c r.phase) (sym (set_put t q rs))
            (each_put (λ u (r : Runner). IsSited c r.phase) t x.runner q rs x.at is_sited
            (λ u r other is. w.sited u r is));
        waits = subst (λ z. AllWaitersAsk z table'.entries) (sym state)
            (still_asked s1 t gs table table'
            (others_ask t table.entries s s1 none (put_keeps s t new store' output) w.waits) more);
        tabled = still_kept t gs table table' w.tabled more;
      });
      turned = record {
        compiled = refl;
        fuel = refl;
        events = e ∷ [];
        trace = trace_is ∙ ap (λ z. z ++ e ∷ []) made_is;
        does = (refl, refl, follow, (state_of c store' output rs' table'.held, rw rs_is happens, refl));
        granted = lets_is;
      };
    } where
      e : Event
      e = record { thread = t; deed = d }

      s : State
      s = state_of c store output rs table.held

      x : Standing c rs table t th
      x = standing c fuel trace order store output rs table w t th at

      new : ThreadState
      new = thread_of c (text_at c t) q (held_by table' t)

      s1 : State
      s1 = record {
        store = store';
        output = output;
        threads =
            put_at t (thread_of c (text_at c t) q (held_by table' t)) (threads_of c (program_of c).texts rs table.held);
      }

      held : table'.held ≡ slice_set table.held t (held_by table' t)
      held = held_changed t gs table table' (standing c fuel trace order store output rs table w t th at).within_held
          more

      none : waits_of t table.entries ≡ 0
      none = waits_for_none t table.entries
          (no_waiter table (state_of c store output rs table.held) t th w.tabled
          (world_fits c fuel trace order store output rs table w) at idle)

      state : state_of c store' output (slice_set rs t q) table'.held ≡ s1
      state = ap (state_of c store' output (slice_set rs t q)) held
          ∙ (ap (λ z. state_of c store' output z (slice_set table.held t (held_by table' t))) (set_put t q rs)
          ∙ ap (λ ths. record { store = store'; output = output; threads = ths })
          (replaced_threads c (program_of c).texts (text_at c t) rs table.held t q (held_by table' t)
          (standing c fuel trace order store output rs table w t th at).text))

      happens : Happens c s (record { thread = t; deed = d }) (state_of c store' output (slice_set rs t q) table'.held)
      happens = (th, at, subst (MayDo c (state_of c store output rs table.held) t th d) (sym state) does)
