use Rattle.sect_points.specs.Paths.{var}
use Rattle.sect_points.proofs.shared.ClassLaws.{path_classes}
use Rattle.sect_names.proofs.Classed.{class_tells}
use Rattle.sect_names.proofs.scheme.Scheme.class_of_variable.Goals as goal

pub returns : goal.returns
returns c =
    rw (← c.self.view_is) (class_tells c.self.inside.classes (var c.args.variable) c.self.invariant.parted
    (path_classes _ c.self.invariant.parted) c.class_of_path.result c.class_of_path.ensures.some
    c.class_of_path.ensures.none)
