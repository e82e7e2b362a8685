-- Others take what is given back.
use Rattle.std.proofs.Common.{◌++◌, sym, subst, arith}
use Rattle.std.specs.Prelude.{ℕ, Option, slice_set}
use Rattle.sect_types.specs.declared.meaning.store.Fault.{Fault}
use Rattle.sect_emit.specs.State.{ThreadState, IsThread}
use Rattle.sect_world.specs.{declared.event.Deed.TheVariants.{Leave}, declared.turned.Turned.TheVariants.{Moved}}
use Rattle.sect_world.specs.{Events.{IsOver}, Moments.{world_at}, Worlds.{WorldView}}
use Rattle.sect_world.proofs.Leaving.{GivesBack, leaves, gave_back}
use Rattle.sect_world.proofs.Viewing.{runs_here, read_here, TurnsInto, still_room}
use Rattle.sect_world.proofs.world.World.leave.Goals.{In_ok-come_out}
use Rattle.sect_world.specs.declared.turned.EventKind.TheVariants as kind
use Rattle.sect_world.proofs.world.World.leave.Goals as goal

-- the thread is at the end of its section
abbrev IsLeaving : ℕ → Option Fault → WorldView → Type 0
IsLeaving t how z = (th : ThreadState) × IsThread z.state t th × IsOver th.position how

-- what it gives back
gives : (c : In_ok-come_out)
    → GivesBack c.self.inside.compiled.now c.self.inside.moment.fuel c.self.inside.moment.trace.items
    c.self.inside.moment.order.items (world_at c.self.inside.compiled.now c.self.inside.moment).state
    c.self.inside.moment.store (c.self.inside.moment.output.items ++ c.index_mut.result.now.work.printed)
    (slice_set c.self.inside.moment.runners.items c.args.thread c.come_out.new.runner) c.self.inside.moment.table
    c.args.thread Leave
gives c =
    let h = subst (IsLeaving c.args.thread c.args.how) (sym c.self.view_is) c.requires in
    let at = read_here _ _ _ _ _ _ _ _ c.self.invariant.0 c.args.thread h.0 h.1 c.index_mut.result.now
    c.index_mut.ensures.value in
    let out = c.in_ok-come_out.ensures in
    leaves _ _ _ _ _ _ _ _ c.self.invariant.0 c.args.thread c.args.how h.0 h.1 h.2 c.index_mut.result.now
    c.come_out.new.runner at out.phase out.frame out.wanted.0 out.wanted.1

pub index_mut-requires : goal.index_mut-requires
index_mut-requires c =
    let h = subst (IsLeaving c.args.thread c.args.how) (sym c.self.view_is) c.requires in
    omega (
      arith,
      (runs_here _ _ _ _ _ _ _ _ c.self.invariant.0 c.args.thread h.0 h.1).0,
      c.self.inside.moment.runners.ok,
    )

pub come_out-requires : goal.come_out-requires
come_out-requires c =
    let h = subst (IsLeaving c.args.thread c.args.how) (sym c.self.view_is) c.requires in
    (runs_here _ _ _ _ _ _ _ _ c.self.invariant.0 c.args.thread h.0 h.1).1

pub give_back-requires-clause-thread : goal.give_back-requires-clause-thread
give_back-requires-clause-thread c = (gives (goal.at.give_back-requires-clause-thread c).In_ok-come_out).within

pub give_back-requires-clause-idle : goal.give_back-requires-clause-idle
give_back-requires-clause-idle c = (gives (goal.at.give_back-requires-clause-idle c).In_ok-come_out).idle

pub give_back-requires-clause-advance : goal.give_back-requires-clause-advance
give_back-requires-clause-advance c = (gives (goal.at.give_back-requires-clause-advance c).In_ok-come_out).advance

-- the move is a turn
turned : (c : goal.After-give_back)
    → TurnsInto (world_at c.self.inside.compiled.now c.self.inside.moment) c.args.thread (Moved kind.Leave)
    c.self.inside.compiled.now c.self.inside.moment.fuel c.give_back.new.trace.items c.push_reserved.new.self.items
    c.self.inside.moment.store c.come_out.new.output.items c.give_back.new.runners.items c.give_back.new.table
    c.give_back.new.let_in.granted.items
turned c =
    let e = c.give_back.ensures in
    rw c.in_ok-come_out.ensures.output (gave_back _ _ _ _ _ _ _ _ _ _ _ _ _ _ _
    c.self.inside.moment.let_in.granted.items _ _ _ (gives (goal.at.returns-clause-ok c).In_ok-come_out) (λ f. f)
    c.in_ok-reserve.ensures.items e.trace c.in_ok-reserve-2.ensures.items c.push_reserved.ensures.items e.runners
    e.granted e.held e.entries e.kept)

pub invariant_of-self-2 : goal.invariant_of-self-2
invariant_of-self-2 c = (
  (turned c).world,
  still_room _ _ _ _ _ _ _ _ c.self.invariant.0.as_many_held (turned c).world.as_many_held c.give_back.ensures.threads
      c.give_back.ensures.place c.self.invariant.1,
  c.self.invariant.2,
)

pub returns-clause-ok : goal.returns-clause-ok
returns-clause-ok c = rw (← c.self.view_is) (turned c).turned
