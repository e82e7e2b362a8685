use Rattle.std.proofs.Common.{◌∙◌, sym, inl, inr, subst}
use Rattle.sect_points.specs.{Rows.{RowHas}, Sites.{HasSite}, declared.sites.SiteSet.{SiteSet}}
use Rattle.sect_points.proofs.PlaceLaws.{first_places, first_gets, first_shrinks, stands, alone_site}
use Rattle.sect_points.proofs.rows.Rows.add.Goals as goal

pub invariant_of-self : goal.invariant_of-self
invariant_of-self c =
    first_places c.args.self.now c.self.inside.sets.items c.self.inside.places.items c.args.row _ c.args.site
    c.self.view_is c.self.invariant (sym c.in-Nothing.is ∙ c.place_of.ensures) c.requires.row c.requires.site

pub returns-in-Nothing-clause-sites : goal.returns-in-Nothing-clause-sites
returns-in-Nothing-clause-sites c =
    first_gets c.args.self.now c.self.inside.sets.items c.self.inside.places.items c.args.row c.args.site
    c.self.view_is (sym c.in-Nothing.is ∙ c.place_of.ensures) c.requires.row c.requires.site

pub returns-in-Nothing-clause-grew : goal.returns-in-Nothing-clause-grew
returns-in-Nothing-clause-grew c _ =
    first_shrinks c.args.self.now c.self.inside.sets.items c.self.inside.places.items c.args.row c.args.site
    c.self.view_is (sym c.in-Nothing.is ∙ c.place_of.ensures) c.requires.row c.requires.site

pub returns-in-Alone-clause-sites : goal.returns-in-Alone-clause-sites
returns-in-Alone-clause-sites c other at =
    let s = stands c.args.self.now c.self.inside.sets.items c.self.inside.places.items c.args.row _ c.place_of.result
    c.self.view_is c.self.invariant c.place_of.ensures in (
      λ h. inl h,
      λ h. elim h [
        | inl k ↦ k
        | inr (row, is) ↦ subst (λ r. RowHas c.args.self.now r at) (sym row)
            ((s.alone c.in-Alone.only c.in-Alone.is at).1 (is ∙ sym c.if-only-site.true))
      ],
    )

pub returns-in_default-clause-sites : goal.returns-in_default-clause-sites
returns-in_default-clause-sites c other at =
    let joined = c.join_own.ensures.sites other at in
    let one = alone_site c.args.site c.requires.site at in (
      λ h. elim (joined.0 h) [
        | inl k ↦ inl k
        | inr (row, k) ↦ inr (row, one.0 (subst (λ (r : SiteSet). HasSite r.words at) c.alone.ensures k))
      ],
      λ h. joined.1 (elim h [
        | inl k ↦ inl k
        | inr (row, is) ↦ inr (row, subst (λ (r : SiteSet). HasSite r.words at) (sym c.alone.ensures) (one.1 is))
      ]),
    )
