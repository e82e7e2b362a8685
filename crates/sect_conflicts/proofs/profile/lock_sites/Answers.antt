use Rattle.std.proofs.Common.{ap, ◌∙◌}
use Rattle.sect_points.specs.{Partitions.{ClassesView}, Paths.{path_of, path_of-fields}}
use Rattle.sect_conflicts.proofs.Profiling.{sites_of_lock}
use Rattle.sect_conflicts.proofs.profile.lock_sites.Goals as goal

pub returns-in-Path : goal.returns-in-Path
returns-in-Path c =
    let p = c.in-Path.path in
    sites_of_lock c.args.scheme.now c.args.lock.now p (path_of c.base.result c.fields.result.now) c.in-Path.field-1
    c.points-points.result.now c.path_sites.result c.in-Path.is
    (ap (λ b. path_of b c.fields.result.now) c.base.ensures ∙ ap (path_of _) c.fields.ensures.fields ∙ path_of-fields p)
    (c.points-points.ensures ∙ ap (λ (k : ClassesView). k.sets) c.classes.ensures) c.path_sites.ensures
