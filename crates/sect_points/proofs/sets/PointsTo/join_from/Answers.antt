use Rattle.std.proofs.{Common.{◌≡◌, ◌<◌, [], ap, ◌∙◌, arith, length, get_or}, lemmas.List.{get_or_default}}
use Rattle.sect_points.specs.{Rows.{RowHas}, Sets.{PointsToView, rows_of}, declared.holders.Holder.TheVariants.{Local}}
use Rattle.sect_points.proofs.SetLaws.{joins_local, adds_below}
use Rattle.sect_points.proofs.sets.PointsTo.join_from.Goals as goal

pub invariant_of-self : goal.invariant_of-self
invariant_of-self c =
    let locals = c.self.inside.locals.items in
    let t = c.args.thread in
    let within : t < length locals = rw (← c.self.view_is) at c.requires.place.0 in
    let was : c.index_mut.result.now ≡ get_or locals t [] = c.index_mut.ensures.value
    ∙ get_or_default locals t c.index_mut.result.now [] within in
    let there : t < length c.others.inside.locals.items = rw (← c.others.view_is) at c.requires.there.0 in
    let its : c.index.result.now ≡ rows_of c.args.others.now t =
    c.index.ensures ∙ get_or_default c.others.inside.locals.items t c.index.result.now [] there
    ∙ ap (λ (v : PointsToView). get_or v.locals t []) c.others.view_is in
    let adds = joins_local c.self.inside.sites c.self.inside.slots locals t c.args.local c.join_from.new.self
    (RowHas (rows_of c.args.others.now t) c.args.local) c.join_from.result within
    (λ y s. rw (was, its) at c.join_from.ensures.sites y s)
    (c.join_from.ensures.long ∙ ap length was)
    (λ e. c.join_from.ensures.same e ∙ was)
    (λ e. rw was at c.join_from.ensures.grew e) in
    let same : c.args.others.now.sites ≡ c.self.inside.sites = rw (← c.self.view_is) at c.requires.same in (
      c.self.invariant.0,
      c.self.invariant.1,
      adds_below _ _ _ c.join_from.result adds c.self.invariant.2
          (λ h s k. omega (arith, c.requires.below (Local t c.args.local) s k.1, same)),
    )

pub returns : goal.returns
returns c =
    let locals = c.self.inside.locals.items in
    let t = c.args.thread in
    let within : t < length locals = rw (← c.self.view_is) at c.requires.place.0 in
    let was : c.index_mut.result.now ≡ get_or locals t [] = c.index_mut.ensures.value
    ∙ get_or_default locals t c.index_mut.result.now [] within in
    let there : t < length c.others.inside.locals.items = rw (← c.others.view_is) at c.requires.there.0 in
    let its : c.index.result.now ≡ rows_of c.args.others.now t =
    c.index.ensures ∙ get_or_default c.others.inside.locals.items t c.index.result.now [] there
    ∙ ap (λ (v : PointsToView). get_or v.locals t []) c.others.view_is in
    rw (← c.self.view_is) (joins_local c.self.inside.sites c.self.inside.slots locals t c.args.local
    c.join_from.new.self
    (RowHas (rows_of c.args.others.now t) c.args.local) c.join_from.result within
    (λ y s. rw (was, its) at c.join_from.ensures.sites y s)
    (c.join_from.ensures.long ∙ ap length was)
    (λ e. c.join_from.ensures.same e ∙ was)
    (λ e. rw was at c.join_from.ensures.grew e))
