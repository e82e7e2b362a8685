use Rattle.sect_points.proofs.path_classes.path_site.Goals as goal

pub returns-in-Some-clause-some : goal.returns-in-Some-clause-some
returns-in-Some-clause-some c = rw c.points.ensures at c.in-Some.ensures
