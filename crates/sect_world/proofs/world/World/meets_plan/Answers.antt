-- The plan of a thread is that of its runner.
use Rattle.std.proofs.Common.{◌≡◌, sym, ◌∙◌, subst, arith}
use Rattle.sect_emit.specs.{State.{ThreadState, IsThread, plan_at}, Plan.{meets}}
use Rattle.sect_world.specs.Worlds.{WorldView}
use Rattle.sect_world.proofs.{Viewing.{runs_here, read_here}, MoveTurns.{section_there}, Turning.{standing}}
use Rattle.sect_world.proofs.TurnPlaces.{meets_as}
use Rattle.sect_types.specs.Statements.{TextView, Section}
use Rattle.sect_world.proofs.world.World.meets_plan.Goals as goal

pub index-requires : goal.index-requires
index-requires c =
    let h = subst (λ (z : WorldView). (th : ThreadState) × IsThread z.state c.args.thread th
    × ((body : TextView) × (rest : TextView) × (th.frame.text ≡ Section c.args.section body rest)))
    (sym c.self.view_is) c.requires in
    omega (
      arith,
      (runs_here _ _ _ _ _ _ _ _ c.self.invariant.0 c.args.thread h.0 h.1).0,
      c.self.inside.moment.runners.ok,
    )

pub is_met-requires-clause-section : goal.is_met-requires-clause-section
is_met-requires-clause-section c =
    let h = subst (λ (z : WorldView). (th : ThreadState) × IsThread z.state c.args.thread th
    × ((body : TextView) × (rest : TextView) × (th.frame.text ≡ Section c.args.section body rest)))
    (sym c.self.view_is) c.requires in
    let at = read_here _ _ _ _ _ _ _ _ c.self.invariant.0 c.args.thread h.0 h.1 c.index.result.now c.index.ensures in
    section_there _ _ _ _ _ _ _ _ c.self.invariant.0 c.args.thread h.0 h.1 c.index.result.now at c.args.section h.2.0
    h.2.1 h.2.2

pub is_met-requires-clause-thread : goal.is_met-requires-clause-thread
is_met-requires-clause-thread c =
    let h = subst (λ (z : WorldView). (th : ThreadState) × IsThread z.state c.args.thread th
    × ((body : TextView) × (rest : TextView) × (th.frame.text ≡ Section c.args.section body rest)))
    (sym c.self.view_is) c.requires in
    (standing _ _ _ _ _ _ _ _ c.self.invariant.0 c.args.thread h.0 h.1).within_held

pub returns : goal.returns
returns c th there =
    let here = subst (λ (z : WorldView). IsThread z.state c.args.thread th) (sym c.self.view_is) there in
    let at = read_here _ _ _ _ _ _ _ _ c.self.invariant.0 c.args.thread th here c.index.result.now c.index.ensures in
    subst (λ (z : WorldView). c.is_met.result ≡ meets th.held
    (plan_at z.compiled c.args.section z.state.store th.frame.work.locals)) c.self.view_is
    (c.is_met.ensures
    ∙ sym (meets_as _ _ _ _ _ _ _ _ c.self.invariant.0 c.args.thread th here c.index.result.now at c.args.section))
