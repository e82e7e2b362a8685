-- The runners have ended where the threads have.
use Rattle.std.proofs.Common.{sym, ap, ◌∙◌, subst, refl, IsTrue}
use Rattle.std.specs.List.{list_all}
use Rattle.sect_types.specs.Whole.{has_ended}
use Rattle.sect_emit.specs.Compiled.{program_of}
use Rattle.sect_world.specs.{declared.runner.Runner.{Runner}, Worlds.{WorldView, AllEnded}}
use Rattle.sect_world.proofs.Finishing.{threads_ended, runners_ended}
use Rattle.sect_world.proofs.world.World.all_ended.Goals as goal

pub returns : goal.returns
returns c =
    let w = c.self.inside in
    let world = c.self.invariant.0 in
    let is = c.have_ended.ensures ∙ ap (list_all (λ (r : Runner). has_ended r.ended)) c.as_slice.ensures.value in (
      λ so. subst (λ (z : WorldView). AllEnded z.state) c.self.view_is
          (threads_ended w.compiled.now (program_of w.compiled.now).texts w.moment.runners.items w.moment.table.held
          (sym is ∙ so)),
      λ all. subst IsTrue
          (sym (is ∙ runners_ended w.compiled.now (program_of w.compiled.now).texts w.moment.runners.items
          w.moment.table.held
          world.as_many world.as_many_held
          (subst (λ (z : WorldView). AllEnded z.state) (sym c.self.view_is) all))) refl,
    )
