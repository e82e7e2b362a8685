-- A thread that has entered stands before a section.
use Rattle.std.proofs.Common.{◌≡◌, Some, sym, ◌∙◌, subst, arith}
use Rattle.std.specs.Prelude.{ℕ, slice_get}
use Rattle.sect_graph.specs.Rests.{rest_at}
use Rattle.sect_emit.specs.{State.{ThreadState, IsThread, Entered}, Graphed.{text_at}}
use Rattle.sect_world.specs.{Moments.{world_at}, Worlds.{WorldView}}
use Rattle.sect_world.specs.steps.Moves.{IsNext}
use Rattle.sect_world.proofs.{MoveTurns.{text_is}, TurnPlaces.{on_entered, no_step_entered}}
use Rattle.sect_world.proofs.{Viewing.{runs_here, read_here}, world.World.section_of.Goals.{After-index}}
use Rattle.sect_world.proofs.world.World.section_of.Goals as goal

-- the thread has entered
abbrev HasEntered : ℕ → WorldView → Type 0
HasEntered t z = (th : ThreadState) × IsThread z.state t th × (th.position ≡ Entered)

-- so it is in the world of the moment
entered : (c : After-index) → HasEntered c.args.thread (world_at c.self.inside.compiled.now c.self.inside.moment)
entered c = subst (HasEntered c.args.thread) (sym c.self.view_is) c.requires

-- a thread's runner is the one that is read
runner_at : (c : After-index) (th : ThreadState)
    → IsThread (world_at c.self.inside.compiled.now c.self.inside.moment).state c.args.thread th
    → slice_get c.self.inside.moment.runners.items c.args.thread ≡ Some c.index.result.now
runner_at c th here =
    read_here _ _ _ _ _ _ _ _ c.self.invariant.0 c.args.thread th here c.index.result.now c.index.ensures

pub index-requires : goal.index-requires
index-requires c =
    let h = subst (HasEntered c.args.thread) (sym c.self.view_is) c.requires in
    omega (
      arith,
      (runs_here _ _ _ _ _ _ _ _ c.self.invariant.0 c.args.thread h.0 h.1).0,
      c.self.inside.moment.runners.ok,
    )

pub next_label-requires-clause-thread : goal.next_label-requires-clause-thread
next_label-requires-clause-thread c =
    let h = entered (goal.at.next_label-requires-clause-thread c).After-index in
    (runs_here _ _ _ _ _ _ _ _ c.self.invariant.0 c.args.thread h.0 h.1).1

pub next_label-requires-clause-on : goal.next_label-requires-clause-on
next_label-requires-clause-on c =
    let p = (goal.at.next_label-requires-clause-on c).After-index in
    let h = entered p in
    on_entered _ _ _ _ _ _ _ _ c.self.invariant.0 c.args.thread h.0 h.1 _ (runner_at p h.0 h.1) h.2

pub unreachable-requires : goal.unreachable-requires
unreachable-requires c =
    let p = (goal.at.unreachable-requires c).After-index in
    let h = entered p in
    no_step_entered _ _ _ _ _ _ _ _ c.self.invariant.0 c.args.thread h.0 h.1 _ (runner_at p h.0 h.1) h.2
    (subst (λ l. IsNext l (rest_at (text_at c.self.inside.compiled.now c.args.thread) c.index.result.now.node))
    c.in-Act.is c.next_label.ensures)

pub unreachable-requires-in-Test : goal.unreachable-requires-in-Test
unreachable-requires-in-Test c =
    let p = (goal.at.unreachable-requires-in-Test c).After-index in
    let h = entered p in
    no_step_entered _ _ _ _ _ _ _ _ c.self.invariant.0 c.args.thread h.0 h.1 _ (runner_at p h.0 h.1) h.2
    (subst (λ l. IsNext l (rest_at (text_at c.self.inside.compiled.now c.args.thread) c.index.result.now.node))
    c.in-Test.is c.next_label.ensures)

pub returns : goal.returns
returns c th there =
    let here = subst (λ (z : WorldView). IsThread z.state c.args.thread th) (sym c.self.view_is) there in
    let next = subst (λ l. IsNext l
    (rest_at (text_at c.self.inside.compiled.now c.args.thread) c.index.result.now.node)) c.in-Section.is
    c.next_label.ensures in (
      next.0,
      next.1,
      text_is _ _ _ _ _ _ _ _ c.self.invariant.0 c.args.thread th here _
          (runner_at (goal.at.returns c).After-index th here) ∙ next.2,
    )
