-- What the plan asks for is wanted.
use Rattle.std.proofs.Common.{◌≡◌, Some, refl, sym, subst, arith}
use Rattle.std.specs.Prelude.{ℕ, slice_get, slice_set}
use Rattle.sect_types.specs.Statements.{TextView, Section}
use Rattle.sect_emit.specs.State.{ThreadState, IsThread}
use Rattle.sect_world.specs.{declared.turned.Turned.TheVariants.{Moved}, Events.{IsFree}, Moments.{world_at}}
use Rattle.sect_world.specs.Worlds.{WorldView}
use Rattle.sect_world.proofs.MoveTurns.{section_there, turns_in}
use Rattle.sect_world.proofs.Viewing.{runs_here, read_here, TurnsInto, still_room}
use Rattle.sect_world.proofs.world.World.enter.Goals.{After-index_mut}
use Rattle.sect_world.specs.declared.turned.EventKind.TheVariants as kind
use Rattle.sect_world.proofs.world.World.enter.Goals as goal

-- the thread is outside sections, before section i
abbrev IsBefore : ℕ → ℕ → WorldView → Type 0
IsBefore t i z = (th : ThreadState) × IsThread z.state t th × IsFree th
    × ((body : TextView) × (rest : TextView) × (th.frame.text ≡ Section i body rest))

-- so it is in the world of the moment
before_section : (c : After-index_mut)
    → IsBefore c.args.thread c.args.section (world_at c.self.inside.compiled.now c.self.inside.moment)
before_section c = subst (IsBefore c.args.thread c.args.section) (sym c.self.view_is) c.requires

-- its runner is the one that is read
runner_at : (c : After-index_mut)
    → slice_get c.self.inside.moment.runners.items c.args.thread ≡ Some c.index_mut.result.now
runner_at c = let h = before_section c in
    read_here _ _ _ _ _ _ _ _ c.self.invariant.0 c.args.thread h.0 h.1 c.index_mut.result.now c.index_mut.ensures.value

pub index_mut-requires : goal.index_mut-requires
index_mut-requires c =
    let h = subst (IsBefore c.args.thread c.args.section) (sym c.self.view_is) c.requires in
    omega (
      arith,
      (runs_here _ _ _ _ _ _ _ _ c.self.invariant.0 c.args.thread h.0 h.1).0,
      c.self.inside.moment.runners.ok,
    )

pub enter-requires : goal.enter-requires
enter-requires c =
    let p = (goal.at.enter-requires c).After-index_mut in
    let h = before_section p in
    section_there _ _ _ _ _ _ _ _ c.self.invariant.0 c.args.thread h.0 h.1 _ (runner_at p) c.args.section h.3.0 h.3.1
    h.3.2

-- the move is a turn
turned : (c : goal.After-push_reserved)
    → TurnsInto (world_at c.self.inside.compiled.now c.self.inside.moment) c.args.thread (Moved kind.Enter)
    c.self.inside.compiled.now c.self.inside.moment.fuel c.push_reserved.new.self.items
    c.self.inside.moment.order.items c.self.inside.moment.store c.self.inside.moment.output.items
    (slice_set c.self.inside.moment.runners.items c.args.thread c.enter.new.runner) c.self.inside.moment.table
    c.clear.new.self.items
turned c =
    let p = (goal.at.returns-clause-ok c).After-index_mut in
    let h = before_section p in
    let out = c.in_ok-enter.ensures in
    turns_in _ _ _ _ _ _ _ _ c.self.invariant.0 c.args.thread h.0 h.1 _ (runner_at p) _ _ _
    c.self.inside.moment.let_in.granted.items _ c.in_ok-reserve.ensures.items c.enter.new.runner refl
    c.clear.ensures.items
    c.args.section h.3.0 h.3.1 h.2 h.3.2 c.push_reserved.ensures.items out.phase out.wanted (out.frame _)

pub invariant_of-self-2 : goal.invariant_of-self-2
invariant_of-self-2 c = (
  (turned c).world,
  still_room _ _ _ _ _ _ _ _ c.self.invariant.0.as_many_held (turned c).world.as_many_held refl
      c.clear.ensures.capacity c.self.invariant.1,
  c.self.invariant.2,
)

pub returns-clause-ok : goal.returns-clause-ok
returns-clause-ok c = rw (← c.self.view_is) (turned c).turned
