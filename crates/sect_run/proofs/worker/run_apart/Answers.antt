use Rattle.std.proofs.Common.{sym, ◌∙◌}
use Rattle.sect_world.specs.Stretches.{IsStretchOf}
use Rattle.sect_run.proofs.Visiting.{some_of}
use Rattle.sect_run.proofs.worker.run_apart.Goals as goal

pub returns-clause-stretch : goal.returns-clause-stretch
returns-clause-stretch g c =
    let t = c.args.post.now.thread in
    c.run.ensures t
    (some_of (IsStretchOf c.args.compiled.now t) c.args.post.now.stretch c.in-Some.stretch
    (sym c.take.ensures.value ∙ c.in-Some.is) c.requires)
