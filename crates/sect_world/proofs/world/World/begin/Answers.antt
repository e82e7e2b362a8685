-- The section starts.
use Rattle.std.proofs.Common.{◌≡◌, true, Some, refl, sym, ◌∙◌, subst, arith}
use Rattle.std.specs.Prelude.{ℕ, slice_get, slice_set}
use Rattle.sect_types.specs.Statements.{TextView}
use Rattle.sect_emit.specs.{Plan.{meets}, State.{ThreadState, IsThread, plan_at}}
use Rattle.sect_world.specs.{declared.turned.Turned.TheVariants.{Moved}, Events.{IsReady}, Moments.{world_at}}
use Rattle.sect_world.specs.Worlds.{WorldView}
use Rattle.sect_world.proofs.MoveTurns.{text_is, section_on, before, turns_begun}
use Rattle.sect_world.proofs.Viewing.{runs_here, read_here, TurnsInto, still_room}
use Rattle.sect_world.proofs.world.World.begin.Goals.{After-index_mut}
use Rattle.sect_world.specs.declared.turned.EventKind.TheVariants as kind
use Rattle.sect_world.proofs.world.World.begin.Goals as goal

-- the thread is ready for section i, whose plan is met
abbrev IsMet : ℕ → ℕ → WorldView → Type 0
IsMet t i z = (th : ThreadState) × IsThread z.state t th × ((body : TextView) × (rest : TextView)
    × IsReady th i body rest × (meets th.held (plan_at z.compiled i z.state.store th.frame.work.locals) ≡ true))

-- so it is in the world of the moment
met : (c : After-index_mut)
    → IsMet c.args.thread c.args.section (world_at c.self.inside.compiled.now c.self.inside.moment)
met c = subst (IsMet c.args.thread c.args.section) (sym c.self.view_is) c.requires

-- its runner is the one that is read
runner_at : (c : After-index_mut)
    → slice_get c.self.inside.moment.runners.items c.args.thread ≡ Some c.index_mut.result.now
runner_at c = let h = met c in
    read_here _ _ _ _ _ _ _ _ c.self.invariant.0 c.args.thread h.0 h.1 c.index_mut.result.now c.index_mut.ensures.value

pub index_mut-requires : goal.index_mut-requires
index_mut-requires c =
    let h = subst (IsMet c.args.thread c.args.section) (sym c.self.view_is) c.requires in
    omega (
      arith,
      (runs_here _ _ _ _ _ _ _ _ c.self.invariant.0 c.args.thread h.0 h.1).0,
      c.self.inside.moment.runners.ok,
    )

pub begin-requires-clause-thread : goal.begin-requires-clause-thread
begin-requires-clause-thread c =
    let h = met (goal.at.begin-requires-clause-thread c).After-index_mut in
    (runs_here _ _ _ _ _ _ _ _ c.self.invariant.0 c.args.thread h.0 h.1).1

pub begin-requires-clause-node : goal.begin-requires-clause-node
begin-requires-clause-node c =
    let p = (goal.at.begin-requires-clause-node c).After-index_mut in
    let h = met p in
    before _ _ _ _ _ _ _ _ c.self.invariant.0 c.args.thread h.0 h.1 _ (runner_at p)
    (section_on h.0.frame.text c.args.section h.2.0 h.2.1 h.2.2.text)

-- the move is a turn
turned : (c : goal.After-push_reserved)
    → TurnsInto (world_at c.self.inside.compiled.now c.self.inside.moment) c.args.thread (Moved kind.Begin)
    c.self.inside.compiled.now c.self.inside.moment.fuel c.push_reserved.new.self.items
    c.self.inside.moment.order.items c.self.inside.moment.store c.self.inside.moment.output.items
    (slice_set c.self.inside.moment.runners.items c.args.thread c.begin.new.runner) c.self.inside.moment.table
    c.clear.new.self.items
turned c =
    let p = (goal.at.returns-clause-ok c).After-index_mut in
    let h = met p in
    let out = c.begin.ensures in
    turns_begun _ _ _ _ _ _ _ _ c.self.invariant.0 c.args.thread h.0 h.1 _ (runner_at p) _ _ _
    c.self.inside.moment.let_in.granted.items _ c.in_ok-reserve.ensures.items c.begin.new.runner refl
    c.clear.ensures.items
    c.args.section h.2.0 h.2.1 h.2.2 h.2.3 c.push_reserved.ensures.items out.phase
    (out.text c.args.section h.2.0 h.2.1
    (sym (text_is _ _ _ _ _ _ _ _ c.self.invariant.0 c.args.thread h.0 h.1 _ (runner_at p)) ∙ h.2.2.text))
    out.wanted.0 out.wanted.1 out.work.0 out.work.1

pub invariant_of-self-2 : goal.invariant_of-self-2
invariant_of-self-2 c = (
  (turned c).world,
  still_room _ _ _ _ _ _ _ _ c.self.invariant.0.as_many_held (turned c).world.as_many_held refl
      c.clear.ensures.capacity c.self.invariant.1,
  c.self.invariant.2,
)

pub returns-clause-ok : goal.returns-clause-ok
returns-clause-ok c = rw (← c.self.view_is) (turned c).turned
