use Rattle.std.proofs.Common.{inl, inr, arith}
use Rattle.sect_points.proofs.PlaceLaws.{stands}
use Rattle.sect_points.proofs.rows.Rows.join_row.Goals as goal

pub add-requires-clause-site : goal.add-requires-clause-site
add-requires-clause-site c =
    let s = stands c.args.self.now c.self.inside.sets.items c.self.inside.places.items c.args.other _ c.place_of.result
    c.self.view_is c.self.invariant c.place_of.ensures in
    s.few c.in-Alone.site c.in-Alone.is

pub index-requires : goal.index-requires
index-requires c =
    let s = stands c.args.self.now c.self.inside.sets.items c.self.inside.places.items c.args.other _ c.place_of.result
    c.self.view_is c.self.invariant c.place_of.ensures in
    omega (arith, s.within c.in-Own.at c.in-Own.is)

pub returns-in-Nothing-clause-sites : goal.returns-in-Nothing-clause-sites
returns-in-Nothing-clause-sites c at site =
    let s = stands c.args.self.now c.self.inside.sets.items c.self.inside.places.items c.args.other _ c.place_of.result
    c.self.view_is c.self.invariant c.place_of.ensures in
    (λ h. inl h, λ h. elim h [ inl k ↦ k | inr k ↦ absurd (s.none c.in-Nothing.is site k.1) ])

pub returns-in-Alone-clause-sites : goal.returns-in-Alone-clause-sites
returns-in-Alone-clause-sites c at site =
    let s = stands c.args.self.now c.self.inside.sets.items c.self.inside.places.items c.args.other _ c.place_of.result
    c.self.view_is c.self.invariant c.place_of.ensures in
    let alone = s.alone c.in-Alone.site c.in-Alone.is site in
    let added = c.add.ensures.sites at site in (
      λ h. elim (added.0 h) [ inl k ↦ inl k | inr k ↦ inr (k.0, alone.1 k.1) ],
      λ h. added.1 (elim h [ inl k ↦ inl k | inr k ↦ inr (k.0, alone.0 k.1) ]),
    )

pub returns-in-Own-clause-sites : goal.returns-in-Own-clause-sites
returns-in-Own-clause-sites c at site =
    let s = stands c.args.self.now c.self.inside.sets.items c.self.inside.places.items c.args.other _ c.place_of.result
    c.self.view_is c.self.invariant c.place_of.ensures in
    let own = s.own c.in-Own.at c.index.result.now c.in-Own.is c.index.ensures site in
    let joined = c.join.ensures.sites at site in (
      λ h. elim (joined.0 h) [ inl k ↦ inl k | inr k ↦ inr (k.0, own.0 k.1) ],
      λ h. joined.1 (elim h [ inl k ↦ inl k | inr k ↦ inr (k.0, own.1 k.1) ]),
    )
