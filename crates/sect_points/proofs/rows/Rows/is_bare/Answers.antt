use Rattle.std.proofs.Common.{arith}
use Rattle.sect_points.proofs.PlaceLaws.{stands}
use Rattle.sect_points.proofs.rows.Rows.is_bare.Goals as goal

pub index-requires : goal.index-requires
index-requires c =
    let s = stands c.args.self.now c.self.inside.sets.items c.self.inside.places.items c.args.row _ c.place_of.result
    c.self.view_is c.self.invariant c.place_of.ensures in
    omega (arith, s.within c.in-Own.at c.in-Own.is)

pub returns-in-Nothing : goal.returns-in-Nothing
returns-in-Nothing c _ =
    let s = stands c.args.self.now c.self.inside.sets.items c.self.inside.places.items c.args.row _ c.place_of.result
    c.self.view_is c.self.invariant c.place_of.ensures in
    s.none c.in-Nothing.is

pub returns-in-Own : goal.returns-in-Own
returns-in-Own c e r h =
    let s = stands c.args.self.now c.self.inside.sets.items c.self.inside.places.items c.args.row _ c.place_of.result
    c.self.view_is c.self.invariant c.place_of.ensures in
    c.is_empty.ensures e r ((s.own c.in-Own.at c.index.result.now c.in-Own.is c.index.ensures r).1 h)
