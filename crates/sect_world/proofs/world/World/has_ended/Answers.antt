-- A runner knows whether its thread has ended.
use Rattle.std.proofs.Common.{sym, ◌∙◌, ap, subst, arith}
use Rattle.sect_emit.specs.State.{ThreadState, IsThread}
use Rattle.sect_world.specs.Worlds.{WorldView}
use Rattle.sect_world.proofs.{Viewing.{runs_here, read_here}, TurnPlaces.{ended_is, shown_ended}}
use Rattle.sect_types.specs.Whole.{has_ended}
use Rattle.sect_world.proofs.world.World.has_ended.Goals as goal

pub index-requires : goal.index-requires
index-requires c =
    let h = subst (λ (z : WorldView). (th : ThreadState) × IsThread z.state c.args.thread th) (sym c.self.view_is)
    c.requires in
    omega (
      arith,
      (runs_here _ _ _ _ _ _ _ _ c.self.invariant.0 c.args.thread h.0 h.1).0,
      c.self.inside.moment.runners.ok,
    )

pub returns : goal.returns
returns c th there =
    let here = subst (λ (z : WorldView). IsThread z.state c.args.thread th) (sym c.self.view_is) there in
    let r = c.index.result.now in
    let at = read_here _ _ _ _ _ _ _ _ c.self.invariant.0 c.args.thread th here r c.index.ensures in
    c.is_some.ensures ∙ shown_ended r.ended
    ∙ ap has_ended (sym (ended_is _ _ _ _ _ _ _ _ c.self.invariant.0 c.args.thread th here r at))
