use Rattle.sect_points.proofs.PlaceLaws.{none_at}
use Rattle.sect_points.proofs.rows.Rows.new.Goals as goal

pub returns-clause-empty : goal.returns-clause-empty
returns-clause-empty c =
    none_at _ c.in_ok-places.places.items c.args.count (c.in_ok-places.ensures.items_if_clones_equal (λ y e. e))
