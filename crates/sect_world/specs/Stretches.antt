-- Stretches of a thread's code that are run apart from their world. `World::lend`, `Stretch::run`, `World::commit` and
-- a law cite it.
use Rattle.std.specs.Prelude.{◌≡◌, ℕ, ℤ, List, [], ◌++◌, Some, slice_get, slice_set}
use Rattle.sect_types.specs.Store.{StoreView}
use Rattle.sect_store.specs.Parts.{ShowsAll, written}
use Rattle.sect_table.specs.Contents.{Contents}
use Rattle.sect_emit.specs.Compiled.{CompiledView}
use Rattle.sect_world.specs.{declared.event.Event.{Event}, declared.runner.Runner.{Runner}}
use Rattle.sect_world.specs.declared.apart.Apart.{Apart}
use Rattle.sect_world.specs.{declared.stretch.Stretch.{Stretch}, Runs.{RunsTo}, Worlds.{WorldView}}
use Rattle.sect_world.specs.{Acting.{IsApart, acts_of, moved_to}, Locals.{IsLocalStretch, locals_of}}
use Rattle.sect_world.specs.Viewing.{shown, IsWorld}
use Rattle.sect_world.specs.declared.runner.Phase.TheVariants as phase
use Rattle.sect_world.specs.declared.stretch.Stretch.TheVariants as stretch

-- it is a stretch of thread t
abbrev pub IsStretchOf : CompiledView → ℕ → Stretch → Type 0
IsStretchOf c t (stretch.Section a) = (a.thread ≡ t) × IsApart c a
IsStretchOf c t (stretch.Local l) = (l.thread ≡ t) × IsLocalStretch c l

-- the events that thread t makes by it
abbrev pub events_in : ℕ → Stretch → List Event
events_in t (stretch.Section a) = acts_of a.acts t
events_in t (stretch.Local l) = locals_of l.steps t

-- these events were added, none of which leaves a section: they lead from one world to the other, and let nobody in
pub record AreAdded (es : List Event) (old new : WorldView) : Type 0 where
  pub compiled : new.compiled ≡ old.compiled
  pub fuel : new.fuel ≡ old.fuel
  pub trace : new.trace ≡ old.trace ++ es
  pub order : new.order ≡ old.order
  pub leads : RunsTo old.compiled old.state es new.state
  pub granted : new.granted ≡ []

-- from each world in which the thread stands where the stretch begins, and whose store shows what was known then, the
-- acts lead to the world where it has come to, with the writes made
abbrev pub StretchesAreRuns : CompiledView → Type 0
StretchesAreRuns c =
    (fuel : ℕ) (trace : List Event) (order : List ℕ) (store : StoreView) (output : List ℤ) (rs : List Runner)
    (table : Contents) (lets : List ℕ)
    → IsWorld c fuel trace order store output rs table → (a : Apart) → IsApart c a → (r : Runner)
    → slice_get rs a.thread ≡ Some r → r.phase ≡ phase.Running a.section a.node → r.work ≡ a.start
    → ShowsAll store a.known.items
    → IsWorld c fuel (trace ++ acts_of a.acts a.thread) order (written store a.part.writes.items) output
    (slice_set rs a.thread (moved_to r a.phase a.work)) table
    × AreAdded (acts_of a.acts a.thread) (shown c fuel trace order store output rs table.held lets)
    (shown c fuel (trace ++ acts_of a.acts a.thread) order (written store a.part.writes.items) output
    (slice_set rs a.thread (moved_to r a.phase a.work)) table.held [])
