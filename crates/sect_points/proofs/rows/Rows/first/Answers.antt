use Rattle.std.proofs.{Common.{refl, arith}, lemmas.Option.{IfSome_then}}
use Rattle.sect_points.proofs.FilledLaws.{none_then}
use Rattle.sect_points.proofs.PlaceLaws.{stands}
use Rattle.sect_points.proofs.rows.Rows.first.Goals as goal

pub index-requires : goal.index-requires
index-requires c =
    let s = stands c.args.self.now c.self.inside.sets.items c.self.inside.places.items c.args.row _ c.place_of.result
    c.self.view_is c.self.invariant c.place_of.ensures in
    omega (arith, s.within c.in-Own.at c.in-Own.is)

pub returns-in-Nothing-clause-none : goal.returns-in-Nothing-clause-none
returns-in-Nothing-clause-none c =
    let s = stands c.args.self.now c.self.inside.sets.items c.self.inside.places.items c.args.row _ c.place_of.result
    c.self.view_is c.self.invariant c.place_of.ensures in
    s.none c.in-Nothing.is

pub returns-in-Alone-clause-some : goal.returns-in-Alone-clause-some
returns-in-Alone-clause-some c =
    let s = stands c.args.self.now c.self.inside.sets.items c.self.inside.places.items c.args.row _ c.place_of.result
    c.self.view_is c.self.invariant c.place_of.ensures in
    (s.few c.in-Alone.site c.in-Alone.is, (s.alone c.in-Alone.site c.in-Alone.is c.in-Alone.site).1 refl)

pub returns-in-Own-clause-some : goal.returns-in-Own-clause-some
returns-in-Own-clause-some c =
    let s = stands c.args.self.now c.self.inside.sets.items c.self.inside.places.items c.args.row _ c.place_of.result
    c.self.view_is c.self.invariant c.place_of.ensures in
    IfSome_then c.first.result c.first.ensures.some
    (λ r k. (k.0, (s.own c.in-Own.at c.index.result.now c.in-Own.is c.index.ensures r).0 k.1))

pub returns-in-Own-clause-none : goal.returns-in-Own-clause-none
returns-in-Own-clause-none c =
    let s = stands c.args.self.now c.self.inside.sets.items c.self.inside.places.items c.args.row _ c.place_of.result
    c.self.view_is c.self.invariant c.place_of.ensures in
    none_then c.first.result _ _ c.first.ensures.none
    (λ none r h. none r ((s.own c.in-Own.at c.index.result.now c.in-Own.is c.index.ensures r).1 h))
