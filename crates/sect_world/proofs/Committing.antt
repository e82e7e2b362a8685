-- A stretch that was run apart is added to a world.
use Rattle.std.proofs.Common.{◌≡◌, ℕ, ◌<◌, ◌++◌, List, [], length, Some, None, refl, sym, ◌∙◌, ap, subst}
use Rattle.std.specs.Prelude.{ℤ, slice_get, slice_set}
use Rattle.sect_types.specs.{Store.{StoreView}, Meaning.{WorkView}}
use Rattle.sect_store.specs.Parts.{ShowsAll, written}
use Rattle.sect_table.specs.Contents.{Contents}
use Rattle.sect_emit.specs.Compiled.{CompiledView, IsCompiled}
use Rattle.sect_world.specs.{declared.event.Event.{Event}, declared.runner.Runner.{Runner}}
use Rattle.sect_world.specs.declared.apart.Apart.{Apart}
use Rattle.sect_world.specs.{Acting.{acts_of, moved_to, Acts, IsApart}, Stretches.{AreAdded, StretchesAreRuns}}
use Rattle.sect_world.specs.{declared.local_stretch.LocalStretch.{LocalStretch}, Runs.{RunsTo}}
use Rattle.sect_world.specs.{Locals.{locals_of, gone_to, Steps, IsLocalStretch}, Viewing.{state_of, shown, IsWorld}}
use Rattle.sect_world.proofs.{Leading.{Led}, Acting.{acts_led}, LocalLeading.{steps_led}}
use Rattle.sect_world.specs.declared.runner.Phase.TheVariants as phase

-- the world of these parts, to which these events have led
pub record AddsInto (c : CompiledView) (fuel : ℕ) (es : List Event) (trace : List Event) (order : List ℕ)
    (store : StoreView) (output : List ℤ) (rs : List Runner) (table : Contents) (lets : List ℕ) (trace' : List Event)
    (store' : StoreView) (rs' : List Runner) (lets' : List ℕ) : Type 0 where
  pub world : IsWorld c fuel trace' order store' output rs' table
  pub added : AreAdded es (shown c fuel trace order store output rs table.held lets)
      (shown c fuel trace' order store' output rs' table.held lets')

added_by : (c : CompiledView) (fuel : ℕ) (es : List Event) (trace : List Event) (order : List ℕ) (store : StoreView)
    (output : List ℤ) (rs : List Runner) (table : Contents) (lets : List ℕ) (trace' : List Event) (store' : StoreView)
    (rs' : List Runner) (lets' : List ℕ) (led : List Runner) (r : StoreView)
    → IsWorld c fuel (trace ++ es) order r output led table
    → RunsTo c (state_of c store output rs table.held) es (state_of c r output led table.held)
    → trace' ≡ trace ++ es → store' ≡ r → rs' ≡ led → lets' ≡ []
    → AddsInto c fuel es trace order store output rs table lets trace' store' rs' lets'
added_by c fuel es trace order store output rs table lets trace' store' rs' lets' led r world leads events stored
    runners granted = record {
      world = rw (events, stored, runners) world;
      added = record {
        compiled = refl;
        fuel = refl;
        trace = events;
        order = refl;
        leads = rw (stored, runners) leads;
        granted = granted;
      };
    }

-- the stretch is added
pub committed : (c : CompiledView) (fuel : ℕ) (trace : List Event) (order : List ℕ) (store : StoreView)
    (output : List ℤ) (rs : List Runner) (table : Contents)
    → IsWorld c fuel trace order store output rs table → (a : Apart) → IsApart c a
    → (r : Runner) → slice_get rs a.thread ≡ Some r
    → r.phase ≡ phase.Running a.section a.node → r.work ≡ a.start → ShowsAll store a.known.items
    → (lets : List ℕ) (made trace' : List Event) (store' : StoreView) (rs' : List Runner) (lets' : List ℕ)
    (v : WorkView)
    → made ≡ trace → trace' ≡ made ++ acts_of a.acts a.thread → store' ≡ written store a.part.writes.items
    → rs' ≡ slice_set rs a.thread (moved_to r a.phase v) → v ≡ a.work → lets' ≡ []
    → AddsInto c fuel (acts_of a.acts a.thread) trace order store output rs table lets trace' store' rs' lets'
committed c fuel trace order store output rs table w a apart r there phased worked shows lets made trace' store' rs'
    lets' v made_is trace_is store_is rs_is v_is lets_is =
    let acts : Acts c a.thread a.section a.acts (phase.Running a.section a.node) r.work store a.phase a.work
    (written store a.part.writes.items) =
    subst (λ u. Acts c a.thread a.section a.acts (phase.Running a.section a.node) u store a.phase a.work
    (written store a.part.writes.items)) (sym worked) (apart.acts store shows).1 in
    let l : Led c fuel trace order store output rs table a.thread (acts_of a.acts a.thread) (moved_to r a.phase a.work)
    (written store a.part.writes.items) =
    acts_led c fuel trace order store output rs table a.thread a.section a.node r w there apart.sited phased a.acts
    a.phase a.work (written store a.part.writes.items) acts in
    let runners : rs' ≡ slice_set rs a.thread (moved_to r a.phase a.work) =
    rs_is ∙ ap (λ u. slice_set rs a.thread (moved_to r a.phase u)) v_is in
    added_by c fuel (acts_of a.acts a.thread) trace order store output rs table lets trace' store' rs' lets'
    (slice_set rs a.thread (moved_to r a.phase a.work)) (written store a.part.writes.items) l.world l.leads
    (trace_is ∙ ap (λ es. es ++ acts_of a.acts a.thread) made_is) store_is runners lets_is

-- so of each
pub stretches_are_runs : (c : CompiledView) → IsCompiled c → StretchesAreRuns c
stretches_are_runs c ok fuel trace order store output rs table lets w a apart r there phased worked shows =
    let done = committed c fuel trace order store output rs table w a apart r there phased worked shows lets trace
    (trace ++ acts_of a.acts a.thread) (written store a.part.writes.items)
    (slice_set rs a.thread (moved_to r a.phase a.work)) [] a.work refl refl refl refl refl refl in
    (done.world, done.added)

-- a stretch outside sections is added
pub committed_outside : (c : CompiledView) (fuel : ℕ) (trace : List Event) (order : List ℕ) (store : StoreView)
    (output : List ℤ) (rs : List Runner) (table : Contents)
    → IsWorld c fuel trace order store output rs table → (l : LocalStretch) → IsLocalStretch c l
    → (r : Runner) → slice_get rs l.thread ≡ Some r → r.phase ≡ phase.Outside → r.node ≡ l.node → r.ended ≡ None
    → r.work ≡ l.start → (lets : List ℕ) (made trace' : List Event) (rs' : List Runner) (lets' : List ℕ) (v : WorkView)
    → made ≡ trace → trace' ≡ made ++ locals_of l.steps l.thread
    → rs' ≡ slice_set rs l.thread (gone_to r l.at v l.ended) → v ≡ l.work → lets' ≡ []
    → AddsInto c fuel (locals_of l.steps l.thread) trace order store output rs table lets trace' store rs' lets'
committed_outside c fuel trace order store output rs table w l local r there outside at alive worked lets made trace'
    rs' lets' v made_is trace_is rs_is v_is lets_is =
    let steps : Steps c l.thread l.steps r.node r.work l.at l.work l.ended =
    rw (at, worked) local.steps in
    let led : Led c fuel trace order store output rs table l.thread (locals_of l.steps l.thread)
    (gone_to r l.at l.work l.ended) store =
    steps_led c fuel trace order store output rs table l.thread r w there outside alive l.steps l.at l.work l.ended
    steps in
    let runners : rs' ≡ slice_set rs l.thread (gone_to r l.at l.work l.ended) =
    rs_is ∙ ap (λ u. slice_set rs l.thread (gone_to r l.at u l.ended)) v_is in
    added_by c fuel (locals_of l.steps l.thread) trace order store output rs table lets trace' store rs' lets'
    (slice_set rs l.thread (gone_to r l.at l.work l.ended)) store led.world led.leads
    (trace_is ∙ ap (λ es. es ++ locals_of l.steps l.thread) made_is) refl runners lets_is
