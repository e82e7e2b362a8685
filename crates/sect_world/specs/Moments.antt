-- A world that is put aside between two turns. `World::suspend` and `Moment::resume` cite it.
use Rattle.std.specs.Prelude.{◌≡◌, [], length, vec_capacity}
use Rattle.sect_emit.specs.Compiled.{CompiledView}
use Rattle.sect_world.specs.{Worlds.{WorldView}, declared.world.Moment.{Moment}, Viewing.{IsWorld, HasRoom, shown}}

-- the world of a moment of a run of this compiled program
abbrev pub world_at : CompiledView → Moment → WorldView
world_at c m =
    shown c m.fuel m.trace.items m.order.items m.store m.output.items m.runners.items m.table.held
    m.let_in.granted.items

-- it is a moment of a run of this compiled program
abbrev pub IsMoment : CompiledView → Moment → Type 0
IsMoment c m = IsWorld c m.fuel m.trace.items m.order.items m.store m.output.items m.runners.items m.table
    × HasRoom (length m.table.held) m.let_in.grants.threads (vec_capacity m.let_in.granted) (vec_capacity m.ends)
    × (m.ends.items ≡ [])
