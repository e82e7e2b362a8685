use Rattle.std.proofs.lemmas.Option.{IfSome_then}
use Rattle.sect_points.proofs.FilledLaws.{none_then}
use Rattle.sect_points.proofs.path_classes.field_site.Goals as goal

pub returns-clause-some : goal.returns-clause-some
returns-clause-some c =
    IfSome_then c.first_in.result c.first_in.ensures.some
    (λ s k. (
      c.in_ok-base.base,
      c.in_ok-base.ensures.some.1.0,
      rw c.points-points.ensures at k.1,
    ))

pub returns-clause-none : goal.returns-clause-none
returns-clause-none c =
    let filled = (c.filled_in.ensures c.in_ok-base.base).0 c.in_ok-base.ensures.some.1.1 in
    none_then c.first_in.result _ _ c.first_in.ensures.none
    (λ none s k. filled (λ r h. none r (rw c.points-points.ensures h)))
