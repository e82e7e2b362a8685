use Rattle.std.proofs.Common.{◌<◌, length, sym, ◌∙◌, subst, arith}
use Rattle.sect_emit.specs.{Compiled.{program_of}, State.{IsThread}}
use Rattle.sect_world.specs.Worlds.{WorldView}
use Rattle.sect_world.proofs.{Viewing.{runs_here}, TurnPlaces.{none_ended}}
use Rattle.sect_world.proofs.world.World.lend_local.Goals as goal

pub label_of-requires : goal.label_of-requires
label_of-requires c =
    let h = c.requires in
    (h.0, h.1, (h.2, none_ended h.0.frame.ended (sym (c.has_ended.ensures h.0 h.1) ∙ c.if-has_ended.false)))

pub index-runner-requires : goal.index-runner-requires
index-runner-requires c =
    let there = subst (λ (z : WorldView). IsThread z.state c.args.thread c.requires.0) (sym c.self.view_is)
    c.requires.1 in
    omega (
      arith,
      (runs_here _ _ _ _ _ _ _ _ c.self.invariant.0 c.args.thread c.requires.0 there).0,
      c.self.inside.moment.runners.ok,
    )

pub returns : goal.returns
returns c =
    let there = subst (λ (z : WorldView). IsThread z.state c.args.thread c.requires.0) (sym c.self.view_is)
    c.requires.1 in
    let within = (runs_here _ _ _ _ _ _ _ _ c.self.invariant.0 c.args.thread c.requires.0 there).1 in (
      c.in_ok-stretch.ensures.thread,
      c.in_ok-stretch.ensures.stretch c.args.self.now.compiled
          (subst (λ (z : WorldView). c.args.thread < length (program_of z.compiled).texts) c.self.view_is within),
    )
