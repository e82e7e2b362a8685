use Rattle.sect_points.proofs.path_classes.class_of_path.Goals as goal

pub returns-in_err-site-clause-none : goal.returns-in_err-site-clause-none
returns-in_err-site-clause-none c = rw c.from_residual.ensures c.in_err-site.ensures.none

pub returns-clause-some : goal.returns-clause-some
returns-clause-some c = (c.in_ok-site.site, c.in_ok-site.ensures.some.0, c.class_of_site.ensures)
