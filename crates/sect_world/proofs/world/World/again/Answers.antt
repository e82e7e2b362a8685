-- Others take what is given back.
use Rattle.std.proofs.{Common.{refl, sym, subst, arith}, lemmas.List.{append-nil}}
use Rattle.std.specs.Prelude.{ℕ, slice_set}
use Rattle.sect_emit.specs.State.{State}
use Rattle.sect_world.specs.{declared.event.Deed.TheVariants.{Again}, declared.turned.Turned.TheVariants.{Moved}}
use Rattle.sect_world.specs.{Events.{Happens}, Moments.{world_at}, Worlds.{WorldView}}
use Rattle.sect_world.proofs.Leaving.{GivesBack, goes_again, gave_back}
use Rattle.sect_world.proofs.Viewing.{runs_here, read_here, TurnsInto, still_room}
use Rattle.sect_world.proofs.world.World.again.Goals.{After-index_mut}
use Rattle.sect_world.specs.declared.runner.Phase.TheVariants as phase
use Rattle.sect_world.specs.declared.turned.EventKind.TheVariants as kind
use Rattle.sect_world.proofs.world.World.again.Goals as goal

-- the thread may give all back
abbrev MayGoAgain : ℕ → WorldView → Type 0
MayGoAgain t z = (after : State) × Happens z.compiled z.state (record { thread = t; deed = Again }) after

-- what it gives back
gives : (c : After-index_mut)
    → GivesBack c.self.inside.compiled.now c.self.inside.moment.fuel c.self.inside.moment.trace.items
    c.self.inside.moment.order.items (world_at c.self.inside.compiled.now c.self.inside.moment).state
    c.self.inside.moment.store c.self.inside.moment.output.items
    (slice_set c.self.inside.moment.runners.items c.args.thread
    (record c.index_mut.result.now { phase = phase.Outside })) c.self.inside.moment.table c.args.thread Again
gives c =
    let h = subst (MayGoAgain c.args.thread) (sym c.self.view_is) c.requires in
    goes_again _ _ _ _ _ _ _ _ c.self.invariant.0 c.args.thread h.0 h.1 c.index_mut.result.now
    (read_here _ _ _ _ _ _ _ _ c.self.invariant.0 c.args.thread h.1.0 h.1.1 c.index_mut.result.now
    c.index_mut.ensures.value)

pub index_mut-requires : goal.index_mut-requires
index_mut-requires c =
    let h = subst (MayGoAgain c.args.thread) (sym c.self.view_is) c.requires in
    omega (
      arith,
      (runs_here _ _ _ _ _ _ _ _ c.self.invariant.0 c.args.thread h.1.0 h.1.1).0,
      c.self.inside.moment.runners.ok,
    )

pub give_back-requires-clause-thread : goal.give_back-requires-clause-thread
give_back-requires-clause-thread c = (gives (goal.at.give_back-requires-clause-thread c).After-index_mut).within

pub give_back-requires-clause-idle : goal.give_back-requires-clause-idle
give_back-requires-clause-idle c = (gives (goal.at.give_back-requires-clause-idle c).After-index_mut).idle

pub give_back-requires-clause-advance : goal.give_back-requires-clause-advance
give_back-requires-clause-advance c = (gives (goal.at.give_back-requires-clause-advance c).After-index_mut).advance

-- the move is a turn
turned : (c : goal.After-give_back)
    → TurnsInto (world_at c.self.inside.compiled.now c.self.inside.moment) c.args.thread (Moved kind.Again)
    c.self.inside.compiled.now c.self.inside.moment.fuel c.give_back.new.trace.items
    c.self.inside.moment.order.items c.self.inside.moment.store c.self.inside.moment.output.items
    c.give_back.new.runners.items c.give_back.new.table c.give_back.new.let_in.granted.items
turned c =
    let e = c.give_back.ensures in
    gave_back _ _ _ _ _ _ _ _ _ _ _ _ _ _ _ c.self.inside.moment.let_in.granted.items _ _ _
    (gives (goal.at.returns-clause-ok c).After-index_mut) (λ f. f) c.in_ok-reserve.ensures.items e.trace refl
    (sym (append-nil c.self.inside.moment.order.items)) e.runners e.granted e.held e.entries e.kept

pub invariant_of-self-2 : goal.invariant_of-self-2
invariant_of-self-2 c = (
  (turned c).world,
  still_room _ _ _ _ _ _ _ _ c.self.invariant.0.as_many_held (turned c).world.as_many_held c.give_back.ensures.threads
      c.give_back.ensures.place c.self.invariant.1,
  c.self.invariant.2,
)

pub returns-clause-ok : goal.returns-clause-ok
returns-clause-ok c = rw (← c.self.view_is) (turned c).turned
