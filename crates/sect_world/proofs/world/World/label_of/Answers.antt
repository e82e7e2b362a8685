-- A thread that is free has something to do.
use Rattle.std.proofs.Common.{sym, ◌∙◌, subst, arith}
use Rattle.sect_emit.specs.State.{ThreadState, IsThread}
use Rattle.sect_world.specs.{Worlds.{WorldView}, Events.{IsFree}}
use Rattle.sect_world.proofs.{Viewing.{runs_here, read_here}, MoveTurns.{text_is}, TurnPlaces.{ended_is, on_outside}}
use Rattle.sect_world.specs.steps.Moves.{IsNext}
use Rattle.sect_world.proofs.world.World.label_of.Goals as goal

pub index-requires : goal.index-requires
index-requires c =
    let h = subst (λ (z : WorldView). (th : ThreadState) × IsThread z.state c.args.thread th × IsFree th)
    (sym c.self.view_is) c.requires in
    omega (
      arith,
      (runs_here _ _ _ _ _ _ _ _ c.self.invariant.0 c.args.thread h.0 h.1).0,
      c.self.inside.moment.runners.ok,
    )

pub next_label-requires-clause-thread : goal.next_label-requires-clause-thread
next_label-requires-clause-thread c =
    let h = subst (λ (z : WorldView). (th : ThreadState) × IsThread z.state c.args.thread th × IsFree th)
    (sym c.self.view_is) c.requires in
    (runs_here _ _ _ _ _ _ _ _ c.self.invariant.0 c.args.thread h.0 h.1).1

pub next_label-requires-clause-on : goal.next_label-requires-clause-on
next_label-requires-clause-on c =
    let h = subst (λ (z : WorldView). (th : ThreadState) × IsThread z.state c.args.thread th × IsFree th)
    (sym c.self.view_is) c.requires in
    let at = read_here _ _ _ _ _ _ _ _ c.self.invariant.0 c.args.thread h.0 h.1 c.index.result.now c.index.ensures in
    on_outside _ _ _ _ _ _ _ _ c.self.invariant.0 c.args.thread h.0 h.1 c.index.result.now at h.2.0
    (sym (ended_is _ _ _ _ _ _ _ _ c.self.invariant.0 c.args.thread h.0 h.1 c.index.result.now at) ∙ h.2.1)

pub returns : goal.returns
returns c th there =
    let here = subst (λ (z : WorldView). IsThread z.state c.args.thread th) (sym c.self.view_is) there in
    let at = read_here _ _ _ _ _ _ _ _ c.self.invariant.0 c.args.thread th here c.index.result.now c.index.ensures in
    subst (IsNext c.next_label.result)
    (sym (text_is _ _ _ _ _ _ _ _ c.self.invariant.0 c.args.thread th here c.index.result.now at))
    c.next_label.ensures
