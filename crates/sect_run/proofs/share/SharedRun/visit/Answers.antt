-- What is put aside before the visit and behind it are its worlds.
use Rattle.std.proofs.Common.{◌≡◌, Some, sym, ap, ◌∙◌}
use Rattle.sect_world.specs.{Moments.{world_at}, Worlds.{WorldView}}
use Rattle.sect_run.specs.steps.Turns.{world_aside}
use Rattle.sect_run.proofs.Visiting.{broken_off_aside}
use Rattle.sect_run.proofs.share.SharedRun.visit.Goals as goal

pub returns-clause-err : goal.returns-clause-err
returns-clause-err g c =
    let named = g.J.Naming.compiled in
    let w = c.resume-world in
    let v = c.make_visit-visited in
    let of : v.new.world.compiled ≡ c.args.compiled.now =
    v.ensures.same.0 ∙ ap (λ (z : WorldView). z.compiled) w.ensures in
    broken_off_aside v.result c.args.thread c.args.terms.most w.result v.new.world c.args.self.now
    (world_aside (Some c.suspend.result) named)
    (sym c.self.view_is ∙ (ap (λ m. world_aside m named) (sym c.take.ensures.value ∙ c.in-Some.is)
    ∙ (ap (world_aside (Some c.in-Some.moment)) c.requires.compiled ∙ ap Some (sym w.ensures))))
    (ap (world_aside (Some c.suspend.result)) c.requires.compiled
    ∙ ap Some (ap (λ z. world_at z c.suspend.result) (sym of) ∙ c.suspend.ensures.same))
    v.ensures.err
