use Rattle.std.proofs.Common.{ap, ◌∙◌}
use Rattle.sect_points.specs.Paths.{var, dots}
use Rattle.sect_names.proofs.Paths.{dots-append}
use Rattle.sect_names.proofs.path.Path.append.Goals as goal

pub returns : goal.returns
returns c =
    let a = c.self.inside in
    ap (dots (var a.base)) c.in_ok-extend_from_slice.ensures.ok
    ∙ dots-append (var a.base) a.fields.items c.args.fields.now
    ∙ ap (λ p. dots p c.args.fields.now) c.self.view_is
