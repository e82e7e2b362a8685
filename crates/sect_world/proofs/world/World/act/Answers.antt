-- The next step of the section is a turn.
use Rattle.std.proofs.Common.{◌≡◌, true, Some, refl, sym, subst, arith}
use Rattle.std.specs.Prelude.{ℕ, slice_get, slice_set}
use Rattle.sect_types.specs.Meaning.{begins_step}
use Rattle.sect_graph.specs.Rests.{rest_at}
use Rattle.sect_emit.specs.State.{ThreadState, IsThread, Running}
use Rattle.sect_world.specs.{declared.turned.Turned.TheVariants.{Moved}, Moments.{world_at}, Worlds.{WorldView}}
use Rattle.sect_world.specs.Viewing.{body_at}
use Rattle.sect_world.proofs.MoveTurns.{text_inside, running_there, before_end, free_key, turns_inside}
use Rattle.sect_world.proofs.{Turning.{standing}, Viewing.{runs_here, read_here, TurnsInto, still_room}}
use Rattle.sect_world.proofs.world.World.act.Goals.{After-index_mut}
use Rattle.sect_world.specs.declared.turned.EventKind.TheVariants as kind
use Rattle.sect_world.proofs.world.World.act.Goals as goal

-- the thread is in section i, and its next step is at node n
abbrev IsAtStep : ℕ → ℕ → ℕ → WorldView → Type 0
IsAtStep t i n z = (th : ThreadState) × IsThread z.state t th
    × (th.position ≡ Running i (rest_at (body_at z.compiled i) n))
    × (begins_step (rest_at (body_at z.compiled i) n) ≡ true)

-- so it is in the world of the moment
at_step : (c : After-index_mut)
    → IsAtStep c.args.thread c.args.section c.args.node (world_at c.self.inside.compiled.now c.self.inside.moment)
at_step c = subst (IsAtStep c.args.thread c.args.section c.args.node) (sym c.self.view_is) c.requires

-- its runner is the one that is read
runner_at : (c : After-index_mut)
    → slice_get c.self.inside.moment.runners.items c.args.thread ≡ Some c.index_mut.result.now
runner_at c = let h = at_step c in
    read_here _ _ _ _ _ _ _ _ c.self.invariant.0 c.args.thread h.0 h.1 c.index_mut.result.now c.index_mut.ensures.value

pub index_mut-requires : goal.index_mut-requires
index_mut-requires c =
    let h = subst (IsAtStep c.args.thread c.args.section c.args.node) (sym c.self.view_is) c.requires in
    omega (
      arith,
      (runs_here _ _ _ _ _ _ _ _ c.self.invariant.0 c.args.thread h.0 h.1).0,
      c.self.inside.moment.runners.ok,
    )

pub step_inside-requires-clause-section : goal.step_inside-requires-clause-section
step_inside-requires-clause-section c =
    let p = (goal.at.step_inside-requires-clause-section c).After-index_mut in
    let h = at_step p in
    running_there _ _ _ _ _ _ _ _ c.self.invariant.0 c.args.thread h.0 h.1 _ (runner_at p) c.args.section _ h.2

pub step_inside-requires-clause-node : goal.step_inside-requires-clause-node
step_inside-requires-clause-node c =
    let p = (goal.at.step_inside-requires-clause-node c).After-index_mut in
    let h = at_step p in
    before_end _ _ _ _ _ _ _ _ c.self.invariant.0 c.args.thread h.0 h.1 _ (runner_at p) c.args.section c.args.node
    (running_there _ _ _ _ _ _ _ _ c.self.invariant.0 c.args.thread h.0 h.1 _ (runner_at p) c.args.section _ h.2) h.3

pub step_inside-requires-clause-text : goal.step_inside-requires-clause-text
step_inside-requires-clause-text c =
    let p = (goal.at.step_inside-requires-clause-text c).After-index_mut in
    let h = at_step p in
    text_inside _ _ _ _ _ _ _ _ c.self.invariant.0 c.args.thread h.0 h.1 _ (runner_at p) c.args.section _ h.2

pub step_inside-requires-clause-thread : goal.step_inside-requires-clause-thread
step_inside-requires-clause-thread c =
    let h = at_step (goal.at.step_inside-requires-clause-thread c).After-index_mut in
    (standing _ _ _ _ _ _ _ _ c.self.invariant.0 c.args.thread h.0 h.1).within_held

pub step_inside-requires-clause-holders : goal.step_inside-requires-clause-holders
step_inside-requires-clause-holders c =
    let p = (goal.at.step_inside-requires-clause-holders c).After-index_mut in
    let h = at_step p in
    (free_key _ _ _ _ _ _ _ _ c.self.invariant.0 c.args.thread h.0 h.1 _ (runner_at p)).0

pub step_inside-requires-clause-waiters : goal.step_inside-requires-clause-waiters
step_inside-requires-clause-waiters c =
    let p = (goal.at.step_inside-requires-clause-waiters c).After-index_mut in
    let h = at_step p in
    (free_key _ _ _ _ _ _ _ _ c.self.invariant.0 c.args.thread h.0 h.1 _ (runner_at p)).1

-- the move is a turn
turned : (c : goal.After-push_reserved)
    → TurnsInto (world_at c.self.inside.compiled.now c.self.inside.moment) c.args.thread (Moved kind.Act)
    c.self.inside.compiled.now c.self.inside.moment.fuel c.push_reserved.new.self.items
    c.self.inside.moment.order.items c.step_inside.new.store c.self.inside.moment.output.items
    (slice_set c.self.inside.moment.runners.items c.args.thread c.step_inside.new.runner) c.step_inside.new.table
    c.clear.new.self.items
turned c =
    let p = (goal.at.returns-clause-ok c).After-index_mut in
    let h = at_step p in
    let out = c.in_ok-step_inside.ensures in
    turns_inside _ _ _ _ _ _ _ _ c.self.invariant.0 c.args.thread h.0 h.1 _ (runner_at p) _ _ _
    c.self.inside.moment.let_in.granted.items _ c.in_ok-reserve.ensures.items c.step_inside.new.runner refl
    c.clear.ensures.items c.args.section _ _ _ h.2 h.3 c.push_reserved.ensures.items out.acts out.store out.table
    out.sited

pub invariant_of-self-2 : goal.invariant_of-self-2
invariant_of-self-2 c = (
  (turned c).world,
  still_room _ _ _ _ _ _ _ _ c.self.invariant.0.as_many_held (turned c).world.as_many_held refl
      c.clear.ensures.capacity c.self.invariant.1,
  c.self.invariant.2,
)

pub returns-clause-ok : goal.returns-clause-ok
returns-clause-ok c = rw (← c.self.view_is) (turned c).turned
