use Rattle.std.proofs.Common.{◌≡◌, sym}
use Rattle.sect_points.specs.Paths.{path_of, path_of-fields}
use Rattle.sect_points.proofs.shared.ClassLaws.{path_classes}
use Rattle.sect_names.proofs.Classed.{class_tells}
use Rattle.sect_names.proofs.scheme.Scheme.class_of.Goals as goal

pub returns : goal.returns
returns c =
    let p = c.args.path.now in
    let is : path_of c.base.result c.fields.result.now ≡ p =
    rw (c.base.ensures, c.fields.ensures.fields) (path_of-fields p) in
    rw (← c.self.view_is, sym is) (class_tells c.self.inside.classes (path_of c.base.result c.fields.result.now)
    c.self.invariant.parted (path_classes _ c.self.invariant.parted) c.class_of_path.result c.class_of_path.ensures.some
    c.class_of_path.ensures.none)
