-- A thread gives back what it holds, and others take.
use Rattle.std.proofs.Common.{◌≡◌, ◌≢◌, ℕ, ◌<◌, List, [], ◌∷◌, ◌++◌, length, drop, Option, Some, None, refl, sym, ◌∙◌}
use Rattle.std.proofs.{Common.{ap, subst, arith}, lemmas.List.{append-nil, length-set}}
use Rattle.std.proofs.lemmas.Option.{slice_get_within, get_or_from_slice_get}
use Rattle.std.specs.Prelude.{ℤ, slice_get, slice_index_or, slice_set, false}
use Rattle.sect_types.specs.{declared.meaning.store.Fault.{Fault}, Statements.{TextView, Stop}, Store.{StoreView}}
use Rattle.sect_lemmas.specs.Lists.{changed_at, put_at}
use Rattle.sect_lemmas.proofs.{Options.{some_injective}, Changed.{set_put}}
use Rattle.sect_lemmas.proofs.Replaced.{length-changed_at, length-put_at, put_other, put_same, each_put}
use Rattle.sect_table.specs.{declared.claims.Hold.{Hold}, declared.claims.Grant.{Grant}}
use Rattle.sect_table.specs.Contents.{Contents, give, hold_of, held_by, is_waiting, released}
use Rattle.sect_table.specs.Sound.{IsKept as IsTableKept}
use Rattle.sect_emit.specs.{Plan.{grip}, Compiled.{CompiledView, program_of}, Graphed.{text_at}}
use Rattle.sect_emit.specs.State.{Entered, Outside, Position, ThreadState, State, IsThread, start, with_thread}
use Rattle.sect_world.specs.{declared.event.Deed.{Deed}, declared.event.Deed.TheVariants.{Again, Leave}}
use Rattle.sect_world.specs.{declared.event.Event.{Event}, declared.runner.Runner.{Runner}}
use Rattle.sect_world.specs.Events.{MayDo, Happens, IsOver, taking, giving_back, with_frame, frame_out, after_leave}
use Rattle.sect_world.specs.{Runs.{RunsTo, order_of, leaver}, Kept.{IsPlaced}}
use Rattle.sect_world.specs.declared.turned.Turned.TheVariants.{Moved}
use Rattle.sect_world.specs.Worlds.{AreTakesOfOthers, MayFollow, kind_of, threads_of as threads_in}
use Rattle.sect_world.specs.Waiting.{AllWaitersAsk}
use Rattle.sect_world.specs.Viewing.{position_of, frame_of, thread_of, threads_of, state_of, IsSited, IsWorld}
use Rattle.sect_world.specs.steps.Fits.{Fits, takes_first, all_granted, takes, given_to, grants_of}
use Rattle.sect_world.specs.steps.Taking.{CanAdvance, advanced, advanced_at, all_advanced, takers}
use Rattle.sect_world.proofs.Agreeing.{ReleaseLeads, no_waiter, out_fits, release_leads, released_as}
use Rattle.sect_world.proofs.{Claims.{changed-put}, KeptStates.{runs_are_well_kept}, Letting.{taken}}
use Rattle.sect_world.proofs.LongerRuns.{order_of-append}
use Rattle.sect_world.proofs.Viewing.{Seen, seen, state_granted, states_granted, replaced_threads, world_fits}
use Rattle.sect_world.proofs.Viewing.{each_advanced, first_dropped, TurnsInto}
use Rattle.sect_world.proofs.shared.LongerRuns.{leads_on}
use Rattle.sect_world.specs.declared.runner.Phase.TheVariants as phase

length-advanced : (gs : List Grant) (rs : List Runner) → length (all_advanced gs rs) ≡ length rs
length-advanced [] rs = refl
length-advanced (g ∷ gs) rs = length-advanced gs (advanced_at g.thread rs) ∙ length-changed_at g.thread advanced rs

length-given : (gs : List Grant) (held : List (List Hold)) → length (given_to gs held) ≡ length held
length-given [] held = refl
length-given (g ∷ gs) held = length-given gs (give g.thread g.key g.mode held)
    ∙ length-set held g.thread (slice_index_or held g.thread [] ++ hold_of g.key g.mode ∷ [])

-- a release leaves the table with as many threads
pub length-released : (t : ℕ) (c : Contents) → length (released t c).held ≡ length c.held
length-released t c =
    let r = released_as t (held_by c t) (record { held = slice_set c.held t []; entries = c.entries; grants = [] }) in
    ap length r.held ∙ (length-given (grants_of t (held_by c t) c.entries) (slice_set c.held t [])
    ∙ length-set c.held t [])

-- nobody leaves by a grant
no_leavers : (gs : List Grant) → order_of (takes gs) ≡ []
no_leavers [] = refl
no_leavers (g ∷ gs) = no_leavers gs

-- whom grants let in
pub threads-takes : (gs : List Grant) → threads_in (takes gs) ≡ takers gs
threads-takes [] = refl
threads-takes (g ∷ gs) = ap (λ ts. g.thread ∷ ts) (threads-takes gs)

-- a thread that hasn't entered takes nothing
others_take : (c : CompiledView) (gs : List Grant) (t : ℕ) (s after : State) (th : ThreadState)
    → RunsTo c s (takes gs) after → IsThread s t th
    → th.position ≢ Entered → AreTakesOfOthers t (takes gs)
others_take c [] t s after th runs at off = tt
others_take c (g ∷ gs) t s after th runs at off =
    let does = runs.1.2 in
    let other : g.thread ≢ t = λ same.
    let is : runs.1.0 ≡ th = some_injective runs.1.0 th (sym runs.1.1 ∙ ap (slice_get s.threads) same ∙ at) in
    off (subst (λ (z : ThreadState). z.position ≡ Entered) is does.1) in
    let next : ThreadState = taking g.key g.mode does.0 runs.1.0 in
    let stays : IsThread runs.0 t th =
    subst (λ (z : State). IsThread z t th) (sym does.4) (put_other g.thread t next s.threads other ∙ at) in
    (refl, other, others_take c gs t runs.0 after th runs.2 stays off)

-- grants that are takes of the view go to threads that are there
can_advance : (c : CompiledView) (store : StoreView) (output : List ℤ) (gs : List Grant) (rs : List Runner)
    (held : List (List Hold)) (after : State)
    → RunsTo c (state_of c store output rs held) (takes gs) after → CanAdvance gs rs
can_advance c store output [] rs held after runs = tt
can_advance c store output (g ∷ gs) rs held after runs =
    let s : State = state_of c store output rs held in
    let th = runs.1.0 in
    let does = runs.1.2 in
    let x = seen c (program_of c).texts rs held g.thread th runs.1.1 in
    let wants = ap (λ (z : ThreadState). z.wanted) (sym x.is) ∙ does.2 in
    let few = slice_get_within x.runner.wanted.items x.runner.taken (grip g.key g.mode)
    (first_dropped x.runner.taken x.runner.wanted.items (grip g.key g.mode) does.0 wants) in
    let small = x.runner.wanted.small in
    let counted = x.runner.wanted.ok in
    let same : changed_at g.thread (takes_first g.key g.mode) s.threads ≡ put_at g.thread
    (taking g.key g.mode does.0 th) s.threads =
    changed-put g.thread (takes_first g.key g.mode) s.threads th runs.1.1
    ∙ ap (λ z. put_at g.thread z s.threads) (taken g.key g.mode th does.0 does.2) in
    let is : runs.0 ≡ state_of c store output (advanced_at g.thread rs) (give g.thread g.key g.mode held) =
    does.4 ∙ (sym (ap (λ ths. record { store = store; output = output; threads = ths }) same)
    ∙ sym (state_granted c store output rs held g)) in (
      (x.runner, x.runner_at, omega (arith, few, small, counted)),
      can_advance c store output gs (advanced_at g.thread rs) (give g.thread g.key g.mode held) after
          (subst (λ z. RunsTo c z (takes gs) after) is runs.2),
    )

-- what comes of a thread's event by which it gives all back, where this runner stands for it then: others take what it
-- gave back
pub record GivesBack (c : CompiledView) (fuel : ℕ) (trace : List Event) (order : List ℕ) (before : State)
    (store : StoreView) (output : List ℤ) (rs : List Runner) (table : Contents) (t : ℕ) (d : Deed) : Type 0 where
  pub within : t < length table.held
  pub idle : is_waiting t table ≡ false
  pub advance : CanAdvance (released t table).grants rs
  pub others : AreTakesOfOthers t (takes (released t table).grants)
  pub world : (table' : Contents) → table'.held ≡ (released t table).held → table'.entries ≡ (released t table).entries
      → IsTableKept table'
      → IsWorld c fuel (trace ++ record { thread = t; deed = d } ∷ takes (released t table).grants)
      (order ++ leaver t d) store output (all_advanced (released t table).grants rs) table'
  pub runs : (table' : Contents) → table'.held ≡ (released t table).held
      → RunsTo c before (record { thread = t; deed = d } ∷ takes (released t table).grants)
      (state_of c store output (all_advanced (released t table).grants rs) table'.held)

pub gives_back : (c : CompiledView) (fuel : ℕ) (trace : List Event) (order : List ℕ) (store : StoreView)
    (output output' : List ℤ) (rs : List Runner) (table : Contents)
    → IsWorld c fuel trace order store output rs table
    → (t : ℕ) (d : Deed) (text : TextView) (th : ThreadState) (r : Runner)
    → slice_get (program_of c).texts t ≡ Some text → IsThread (state_of c store output rs table.held) t th
    → th.wanted ≡ [] → r.phase ≡ phase.Outside
    → MayDo c (state_of c store output rs table.held) t th d
    (record {
      store = store;
      output = output';
      threads =
          put_at t (thread_of c text r []) (threads_of c (program_of c).texts rs table.held);
    })
    → GivesBack c fuel trace order (state_of c store output rs table.held) store output' (put_at t r rs) table t d
gives_back c fuel trace order store output output' rs table w t d text th r text_at at none out does = record {
  within = slice_get_within table.held t x.holds x.holds_at;
  idle = idle;
  advance = can_advance c store output' gs (put_at t r rs) (slice_set table.held t []) (all_granted gs s1)
      (subst (λ z. RunsTo c z (takes gs) (all_granted gs s1)) (sym first) l.leads);
  others = others_take c gs t s1 (all_granted gs s1) (thread_of c text r []) l.leads here
      (λ e. not_entered (sym (ap (position_of c) out) ∙ e));
  world = λ table' held entries kept. record {
    compiled = w.compiled;
    run = leads_on c (start c fuel) s (state_of c store output' (all_advanced gs (put_at t r rs)) table'.held) trace
        (e ∷ takes gs) w.run (runs table' held);
    ordered = ap (λ z. z ++ leaver t d) w.ordered
        ∙ (ap (λ z. order_of trace ++ z)
        (sym (append-nil (leaver t d)) ∙ ap (λ z. leaver t d ++ z) (sym (no_leavers gs)))
        ∙ sym (order_of-append trace (e ∷ takes gs)));
    as_many = length-advanced gs (put_at t r rs) ∙ (length-put_at t r rs ∙ w.as_many);
    as_many_held = ap length held ∙ (length-released t table ∙ w.as_many_held);
    sited = each_advanced _ (λ u q is. is) gs (put_at t r rs) sited;
    waits = subst (λ z. AllWaitersAsk z table'.entries) (last table' held)
        (subst (AllWaitersAsk (all_granted gs s1)) (sym entries) l.waits);
    tabled = kept;
  };
  runs = runs;
} where
  gs : List Grant
  gs = (released t table).grants

  e : Event
  e = record { thread = t; deed = d }

  s : State
  s = state_of c store output rs table.held

  s1 : State
  s1 = record {
    store = store;
    output = output';
    threads =
        put_at t (thread_of c text r []) (threads_of c (program_of c).texts rs table.held);
  }

  x : Seen c (program_of c).texts rs table.held t th
  x = seen c (program_of c).texts rs table.held t th at

  fits : Fits table (state_of c store output rs table.held)
  fits = world_fits c fuel trace order store output rs table w

  idle : is_waiting t table ≡ false
  idle = no_waiter table (state_of c store output rs table.held) t th w.tabled fits at
      (λ k m entered wants. let off : [] ≡ grip k m ∷ wants.0 = sym none ∙ wants.1 in cc)

  l : ReleaseLeads c t table s1
  l = release_leads c t table s1
      (out_fits table (state_of c store output rs table.held) t (thread_of c text r []) store output' w.tabled fits idle
      refl) idle

  not_entered : Outside ≡ Entered → ⊥
  not_entered same = let off : Outside ≡ Entered = same in cc

  here : IsThread s1 t (thread_of c text r [])
  here = put_same t th (thread_of c text r []) (threads_of c (program_of c).texts rs table.held) at

  first : state_of c store output' (put_at t r rs) (slice_set table.held t []) ≡ s1
  first = ap (λ ths. record { store = store; output = output'; threads = ths })
      (replaced_threads c (program_of c).texts text rs table.held t r [] text_at)

  last : (table' : Contents) → table'.held ≡ (released t table).held
      → all_granted gs s1 ≡ state_of c store output' (all_advanced gs (put_at t r rs)) table'.held
  last table' held = ap (all_granted gs) (sym first)
      ∙ (sym (states_granted c store output' gs (put_at t r rs) (slice_set table.held t []))
      ∙ ap (state_of c store output' (all_advanced gs (put_at t r rs))) (sym (held ∙ l.held)))

  runs : (table' : Contents) → table'.held ≡ (released t table).held
      → RunsTo c s (e ∷ takes gs) (state_of c store output' (all_advanced gs (put_at t r rs)) table'.held)
  runs table' held = (s1, (th, at, does), subst (RunsTo c s1 (takes gs)) (last table' held) l.leads)

  sited : (u : ℕ) (q : Runner) → slice_get (put_at t r rs) u ≡ Some q → IsSited c q.phase
  sited = each_put (λ u (q : Runner). IsSited c q.phase) t x.runner r rs x.runner_at (subst (IsSited c) (sym out) tt)
      (λ u q other is. w.sited u q is)

-- which is a turn
pub gave_back : (c : CompiledView) (fuel : ℕ) (trace made trace' : List Event) (order left order' : List ℕ)
    (before : State) (store : StoreView) (output : List ℤ) (rs rs' : List Runner) (table table' : Contents)
    (lets lets' : List ℕ) (t : ℕ) (d : Deed)
    → GivesBack c fuel trace order before store output rs table t d
    → (AreTakesOfOthers t (takes (released t table).grants) → MayFollow (kind_of d) t (takes (released t table).grants))
    → made ≡ trace → trace' ≡ made ++ record { thread = t; deed = d } ∷ takes (released t table).grants → left ≡ order
    → order' ≡ left ++ leaver t d → rs' ≡ all_advanced (released t table).grants rs
    → lets' ≡ takers (released t table).grants
    → table'.held ≡ (released t table).held → table'.entries ≡ (released t table).entries → IsTableKept table'
    → TurnsInto (record { compiled = c; fuel = fuel; trace = trace; order = order; state = before; granted = lets }) t
    (Moved (kind_of d)) c fuel trace' order' store output rs' table' lets'
gave_back c fuel trace made trace' order left order' before store output rs rs' table table' lets lets' t d g follow
    made_is trace_is left_is order_is rs_is lets_is held entries kept = record {
      world = rw (trace_is, made_is, order_is, left_is, rs_is) (g.world table' held entries kept);
      turned = record {
        compiled = refl;
        fuel = refl;
        events = record { thread = t; deed = d } ∷ takes (released t table).grants;
        trace = trace_is ∙ ap (λ z. z ++ record { thread = t; deed = d } ∷ takes (released t table).grants) made_is;
        does = (refl, refl, follow g.others, rw rs_is (g.runs table' held));
        granted = lets_is ∙ sym (threads-takes (released t table).grants);
      };
    }

-- whoever is over wants nothing
over_wants : (p : Position) (th : ThreadState) (how : Option Fault) → IsOver p how → IsPlaced p th → th.wanted ≡ []
over_wants p th None over placed = (subst (λ z. IsPlaced z th) over.1 placed).1
over_wants p th (Some why) over placed = (subst (λ z. IsPlaced z th) over.1 placed).1

-- a runner that came out of a section so stands for the thread that left it
left_thread : (c : CompiledView) (text : TextView) (how : Option Fault) (r q : Runner) (hs : List Hold)
    → q.phase ≡ phase.Outside → frame_of text q ≡ frame_out how (frame_of text r)
    → q.wanted ≡ r.wanted → q.taken ≡ r.taken
    → thread_of c text q [] ≡ with_frame (frame_out how (thread_of c text r hs).frame)
    (giving_back (thread_of c text r hs))
left_thread c text how r q hs out framed wanted count =
    λ i. record {
      position = position_of c (out i);
      frame = framed i;
      wanted = drop (count i) (wanted i).items;
      held =
          [];
    }

-- a thread that leaves its section
pub leaves : (c : CompiledView) (fuel : ℕ) (trace : List Event) (order : List ℕ) (store : StoreView) (output : List ℤ)
    (rs : List Runner) (table : Contents)
    → IsWorld c fuel trace order store output rs table → (t : ℕ) (how : Option Fault) (th : ThreadState)
    → IsThread (state_of c store output rs table.held) t th → IsOver th.position how
    → (r q : Runner) → slice_get rs t ≡ Some r → q.phase ≡ phase.Outside
    → frame_of (text_at c t) q ≡ frame_out how (frame_of (text_at c t) r) → q.wanted ≡ r.wanted → q.taken ≡ r.taken
    → GivesBack c fuel trace order (state_of c store output rs table.held) store (output ++ r.work.printed)
    (slice_set rs t q) table t Leave
leaves c fuel trace order store output rs table w t how th at over r q r_at out framed wanted count =
    subst (λ z. GivesBack c fuel trace order (state_of c store output rs table.held) store (output ++ r.work.printed) z
    table t Leave) (sym (set_put t q rs))
    (gives_back c fuel trace order store output (output ++ r.work.printed) rs table w t Leave x.text th q x.text_at
    at none out (how, over, left)) where
      s : State
      s = state_of c store output rs table.held

      x : Seen c (program_of c).texts rs table.held t th
      x = seen c (program_of c).texts rs table.held t th at

      none : th.wanted ≡ []
      none = over_wants th.position th how over
          ((runs_are_well_kept c w.compiled fuel trace (state_of c store output rs table.held) w.run).threads t th
          at).asks

      is : th ≡ thread_of c x.text r x.holds
      is = x.is ∙ ap (λ z. thread_of c x.text z x.holds) (some_injective x.runner r (sym x.runner_at ∙ r_at))

      text : text_at c t ≡ x.text
      text = get_or_from_slice_get (program_of c).texts t x.text Stop x.text_at

      new : thread_of c x.text q [] ≡ with_frame (frame_out how th.frame) (giving_back th)
      new = left_thread c x.text how r q x.holds out
          (subst (λ z. frame_of z q ≡ frame_out how (frame_of z r)) text framed) wanted count
          ∙ ap (λ (z : ThreadState). with_frame (frame_out how z.frame) (giving_back z)) (sym is)

      left : record {
        store = store;
        output = output ++ r.work.printed;
        threads =
            put_at t (thread_of c x.text q []) (threads_of c (program_of c).texts rs table.held);
      } ≡ after_leave t how th
          (state_of c store output rs table.held)
      left = λ i. record {
        store = store;
        output = output ++ (sym is i).frame.work.printed;
        threads = put_at t (new i) (threads_of c (program_of c).texts rs table.held);
      }

-- a thread that gives all back to ask anew
pub goes_again : (c : CompiledView) (fuel : ℕ) (trace : List Event) (order : List ℕ) (store : StoreView)
    (output : List ℤ) (rs : List Runner) (table : Contents)
    → IsWorld c fuel trace order store output rs table → (t : ℕ) (after : State)
    → Happens c (state_of c store output rs table.held) (record { thread = t; deed = Again }) after
    → (r : Runner) → slice_get rs t ≡ Some r
    → GivesBack c fuel trace order (state_of c store output rs table.held) store output
    (slice_set rs t (record r { phase = phase.Outside })) table t Again
goes_again c fuel trace order store output rs table w t after h r r_at =
    let s : State = state_of c store output rs table.held in
    let th : ThreadState = h.0 in
    let does = h.2 in
    let x = seen c (program_of c).texts rs table.held t th h.1 in
    let is : th ≡ thread_of c x.text r x.holds =
    x.is ∙ ap (λ z. thread_of c x.text z x.holds) (some_injective x.runner r (sym x.runner_at ∙ r_at)) in
    let q : Runner = record r { phase = phase.Outside } in
    let giving : thread_of c x.text q [] ≡ giving_back th = ap giving_back (sym is) in
    subst (λ z. GivesBack c fuel trace order s store output z table t Again) (sym (set_put t q rs))
    (gives_back c fuel trace order store output output rs table w t Again x.text th q x.text_at h.1 does.3.wanted
    refl
    (does.0, does.1, does.2, does.3, does.4, ap (λ z. with_thread t z s) giving))
