use Rattle.std.proofs.Common.{◌≡◌, true≢false, sym, arith, rules}
use Rattle.sect_points.proofs.PlaceLaws.{stands}
use Rattle.sect_points.proofs.rows.Rows.has.Goals as goal

pub index-requires : goal.index-requires
index-requires c =
    let s = stands c.args.self.now c.self.inside.sets.items c.self.inside.places.items c.args.row _ c.place_of.result
    c.self.view_is c.self.invariant c.place_of.ensures in
    omega (arith, s.within c.in-Own.at c.in-Own.is)

pub returns-in-Nothing : goal.returns-in-Nothing
returns-in-Nothing c =
    let s = stands c.args.self.now c.self.inside.sets.items c.self.inside.places.items c.args.row _ c.place_of.result
    c.self.view_is c.self.invariant c.place_of.ensures in
    (λ t. absurd (true≢false (sym t)), λ h. absurd (s.none c.in-Nothing.is c.args.site h))

pub returns-in-Alone : goal.returns-in-Alone
returns-in-Alone c =
    let s = stands c.args.self.now c.self.inside.sets.items c.self.inside.places.items c.args.row _ c.place_of.result
    c.self.view_is c.self.invariant c.place_of.ensures in
    let alone = s.alone c.in-Alone.only c.in-Alone.is c.args.site in (
      λ t. alone.1 (search (rules, t)),
      λ h. let is : c.in-Alone.only ≡ c.args.site = sym (alone.0 h) in search (rules, is),
    )

pub returns-in-Own : goal.returns-in-Own
returns-in-Own c =
    let s = stands c.args.self.now c.self.inside.sets.items c.self.inside.places.items c.args.row _ c.place_of.result
    c.self.view_is c.self.invariant c.place_of.ensures in
    let own = s.own c.in-Own.at c.index.result.now c.in-Own.is c.index.ensures c.args.site in
    (λ t. own.0 (c.contains.ensures.0 t), λ h. c.contains.ensures.1 (own.1 h))
