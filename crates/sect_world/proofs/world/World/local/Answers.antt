-- The next statement or test is a turn.
use Rattle.std.proofs.Common.{◌≡◌, true, Some, refl, sym, ap, ◌∙◌, subst, arith}
use Rattle.std.specs.Prelude.{ℕ, slice_get, slice_set}
use Rattle.sect_types.specs.Meaning.{begins_step}
use Rattle.sect_emit.specs.State.{ThreadState, IsThread}
use Rattle.sect_world.specs.{declared.turned.Turned.TheVariants.{Moved}, Events.{IsFree}, Moments.{world_at}}
use Rattle.sect_world.specs.Worlds.{WorldView}
use Rattle.sect_world.proofs.MoveTurns.{begins_on, stands, text_is, before, sound, turns_local}
use Rattle.sect_world.proofs.Viewing.{runs_here, read_here, TurnsInto, still_room}
use Rattle.sect_world.proofs.world.World.local.Goals.{After-index_mut}
use Rattle.sect_world.specs.declared.turned.EventKind.TheVariants as kind
use Rattle.sect_world.proofs.world.World.local.Goals as goal

-- the thread is outside sections, before a statement or test
abbrev IsBefore : ℕ → WorldView → Type 0
IsBefore t z = (th : ThreadState) × IsThread z.state t th × IsFree th × (begins_step th.frame.text ≡ true)

-- so it is in the world of the moment
before_step : (c : After-index_mut)
    → IsBefore c.args.thread (world_at c.self.inside.compiled.now c.self.inside.moment)
before_step c = subst (IsBefore c.args.thread) (sym c.self.view_is) c.requires

-- its runner is the one that is read
runner_at : (c : After-index_mut)
    → slice_get c.self.inside.moment.runners.items c.args.thread ≡ Some c.index_mut.result.now
runner_at c = let h = before_step c in
    read_here _ _ _ _ _ _ _ _ c.self.invariant.0 c.args.thread h.0 h.1 c.index_mut.result.now c.index_mut.ensures.value

pub index_mut-requires : goal.index_mut-requires
index_mut-requires c =
    let h = subst (IsBefore c.args.thread) (sym c.self.view_is) c.requires in
    omega (
      arith,
      (runs_here _ _ _ _ _ _ _ _ c.self.invariant.0 c.args.thread h.0 h.1).0,
      c.self.inside.moment.runners.ok,
    )

pub step_outside-requires-clause-thread : goal.step_outside-requires-clause-thread
step_outside-requires-clause-thread c =
    let h = before_step (goal.at.step_outside-requires-clause-thread c).After-index_mut in
    (runs_here _ _ _ _ _ _ _ _ c.self.invariant.0 c.args.thread h.0 h.1).1

pub step_outside-requires-clause-alive : goal.step_outside-requires-clause-alive
step_outside-requires-clause-alive c =
    let p = (goal.at.step_outside-requires-clause-alive c).After-index_mut in
    let h = before_step p in
    sym (ap (λ (z : ThreadState). z.frame.ended)
    (stands _ _ _ _ _ _ _ _ c.self.invariant.0 c.args.thread h.0 h.1 _ (runner_at p))) ∙ h.2.1

pub step_outside-requires-clause-node : goal.step_outside-requires-clause-node
step_outside-requires-clause-node c =
    let p = (goal.at.step_outside-requires-clause-node c).After-index_mut in
    let h = before_step p in
    before _ _ _ _ _ _ _ _ c.self.invariant.0 c.args.thread h.0 h.1 _ (runner_at p) (begins_on h.0.frame.text h.3)

pub step_outside-requires-clause-step : goal.step_outside-requires-clause-step
step_outside-requires-clause-step c =
    let p = (goal.at.step_outside-requires-clause-step c).After-index_mut in
    let h = before_step p in
    subst (λ k. begins_step k ≡ true)
    (text_is _ _ _ _ _ _ _ _ c.self.invariant.0 c.args.thread h.0 h.1 _ (runner_at p)) h.3

pub step_outside-requires-clause-sound : goal.step_outside-requires-clause-sound
step_outside-requires-clause-sound c =
    let p = (goal.at.step_outside-requires-clause-sound c).After-index_mut in
    let h = before_step p in
    sound _ _ _ _ _ _ _ _ c.self.invariant.0 c.args.thread h.0 h.1 _ (runner_at p)

-- the move is a turn
turned : (c : goal.After-push_reserved)
    → TurnsInto (world_at c.self.inside.compiled.now c.self.inside.moment) c.args.thread (Moved kind.Local)
    c.self.inside.compiled.now c.self.inside.moment.fuel c.push_reserved.new.self.items
    c.self.inside.moment.order.items c.step_outside.new.store c.self.inside.moment.output.items
    (slice_set c.self.inside.moment.runners.items c.args.thread c.step_outside.new.runner) c.self.inside.moment.table
    c.clear.new.self.items
turned c =
    let p = (goal.at.returns-clause-ok c).After-index_mut in
    let h = before_step p in
    let out = c.in_ok-step_outside.ensures in
    rw out.store (turns_local _ _ _ _ _ _ _ _ c.self.invariant.0 c.args.thread h.0 h.1 _ (runner_at p) _ _ _
    c.self.inside.moment.let_in.granted.items _ c.in_ok-reserve.ensures.items c.step_outside.new.runner refl
    c.clear.ensures.items h.2 h.3 c.push_reserved.ensures.items out.steps out.phase out.wanted.0 out.wanted.1)

pub invariant_of-self-2 : goal.invariant_of-self-2
invariant_of-self-2 c = (
  (turned c).world,
  still_room _ _ _ _ _ _ _ _ c.self.invariant.0.as_many_held (turned c).world.as_many_held refl
      c.clear.ensures.capacity c.self.invariant.1,
  c.self.invariant.2,
)

pub returns-clause-ok : goal.returns-clause-ok
returns-clause-ok c = rw (← c.self.view_is) (turned c).turned
