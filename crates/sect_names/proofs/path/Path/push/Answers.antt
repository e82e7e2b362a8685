use Rattle.std.proofs.Common.{ap, ◌∙◌}
use Rattle.sect_points.specs.Paths.{var, dot, path_of, dots-push}
use Rattle.sect_names.proofs.path.Path.push.Goals as goal

pub returns : goal.returns
returns c =
    let a = c.self.inside in
    ap (path_of a.base) c.in_ok-push.ensures.ok ∙ dots-push (var a.base) a.fields.items c.args.field
    ∙ ap (λ p. dot p c.args.field) c.self.view_is
