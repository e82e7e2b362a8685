use Rattle.std.proofs.Common.{◌∙◌}
use Rattle.sect_points.specs.Sites.{HasSite}
use Rattle.sect_points.proofs.PlaceLaws.{own_gets, own_shrinks}
use Rattle.sect_points.proofs.rows.Rows.join_own.Goals as goal

pub returns-clause-sites : goal.returns-clause-sites
returns-clause-sites c =
    let own = c.own_place-place in
    own_gets c.args.self.now own.new.sets.items own.new.places.items c.args.row own.result _ c.index_mut.result.now
    c.join.new.self (HasSite c.args.sites.now.words) (own.ensures.same ∙ c.self.view_is) own.ensures.places
    own.ensures.own c.requires c.index_mut.ensures.value c.join.ensures.sites

pub returns-clause-grew : goal.returns-clause-grew
returns-clause-grew c e =
    let own = c.own_place-place in
    own_shrinks c.args.self.now own.new.sets.items own.new.places.items c.args.row own.result _ c.index_mut.result.now
    c.join.new.self (own.ensures.same ∙ c.self.view_is) own.ensures.places own.ensures.own c.requires
    c.index_mut.ensures.value (c.join.ensures.grew e)
