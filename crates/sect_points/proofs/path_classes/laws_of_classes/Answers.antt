use Rattle.sect_points.proofs.shared.ClassLaws.{path_classes, keeps_classes}
use Rattle.sect_points.proofs.path_classes.laws_of_classes.Goals as goal

pub returns-clause-paths : goal.returns-clause-paths
returns-clause-paths c = path_classes

pub returns-clause-statements : goal.returns-clause-statements
returns-clause-statements c = keeps_classes
