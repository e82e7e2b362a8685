use Rattle.sect_points.proofs.PlaceLaws.{stands}
use Rattle.sect_points.proofs.rows.Rows.rest.Goals as goal

pub returns-in-Alone-Nothing : goal.returns-in-Alone-Nothing
returns-in-Alone-Nothing c r =
    let s = stands c.args.self.now c.self.inside.sets.items c.self.inside.places.items c.args.row _ c.place_of.result
    c.self.view_is c.self.invariant c.place_of.ensures in
    let other = stands c.args.others.now c.others.inside.sets.items c.others.inside.places.items c.args.row _
    c.place_of-2.result c.others.view_is c.others.invariant c.place_of-2.ensures in
    let alone = s.alone c.in-Alone-Nothing.site c.in-Alone-Nothing.is-0 r in (
      λ h. (alone.1 ((c.of.ensures r).0 h), other.none c.in-Alone-Nothing.is-1 r),
      λ h. (c.of.ensures r).1 (alone.0 h.0),
    )
