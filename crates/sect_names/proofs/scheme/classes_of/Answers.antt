use Rattle.std.proofs.Common.{ap, ◌∙◌, sym, subst}
use Rattle.sect_points.specs.{Sets.{PointsToView, InSets}, Flow.{IsLeastFlow}, Statements.{thread_actions}}
use Rattle.sect_names.proofs.scheme.classes_of.Goals as goal

pub returns-clause-flow : goal.returns-clause-flow
returns-clause-flow c =
    subst (λ (s : PointsToView). IsLeastFlow (InSets s) (thread_actions c.args.program.now))
    (sym c.in_ok-classes.ensures.sets) c.in_ok-points_to.ensures.least

pub returns-clause-sites : goal.returns-clause-sites
returns-clause-sites c =
    ap (λ (s : PointsToView). s.sites) c.in_ok-classes.ensures.sets ∙ c.in_ok-points_to.ensures.sites
