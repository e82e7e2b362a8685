use Rattle.std.proofs.Common.{◌≡◌, ◌∙◌, sym, ap, length}
use Rattle.sect_points.proofs.PlaceLaws.{first_places, first_gets, own_gets, length_at}
use Rattle.sect_points.proofs.rows.Rows.insert.Goals as goal

pub invariant_of-self : goal.invariant_of-self
invariant_of-self c =
    first_places c.args.self.now c.self.inside.sets.items c.self.inside.places.items c.args.row _ c.args.site
    c.self.view_is c.self.invariant (sym c.in-Nothing.is ∙ c.place_of.ensures) c.requires.row c.requires.site

pub returns-in-Nothing-clause-sites : goal.returns-in-Nothing-clause-sites
returns-in-Nothing-clause-sites c =
    first_gets c.args.self.now c.self.inside.sets.items c.self.inside.places.items c.args.row c.args.site
    c.self.view_is (sym c.in-Nothing.is ∙ c.place_of.ensures) c.requires.row c.requires.site

pub returns : goal.returns
returns c =
    let own = c.own_place-place in
    let places = own.new.places.items in
    record {
      sites = own_gets c.args.self.now own.new.sets.items places c.args.row own.result _ c.index_mut-2.result.now
          c.insert.new.self (λ s. s ≡ c.args.site) (own.ensures.same ∙ c.self.view_is) own.ensures.places
          own.ensures.own c.requires.row c.index_mut-2.ensures.value c.insert.ensures;
      long = length_at _ places ∙ sym (length_at own.new.sets.items places) ∙ ap length own.ensures.same
          ∙ ap length c.self.view_is;
    }
