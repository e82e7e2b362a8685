use Rattle.std.proofs.{Common.{◌≡◌, ◌<◌, [], ap, ◌∙◌, length, get_or}, lemmas.List.{get_or_default}}
use Rattle.sect_points.specs.{Rows.{RowHas}, declared.holders.Holder.TheVariants.{Local}}
use Rattle.sect_points.proofs.SetLaws.{joins_local, adds_below}
use Rattle.sect_points.proofs.sets.PointsTo.join_other.Goals as goal

pub invariant_of-self : goal.invariant_of-self
invariant_of-self c =
    let locals = c.self.inside.locals.items in
    let t = c.args.thread in
    let within : t < length locals = rw (← c.self.view_is) at c.requires.0 in
    let was : c.index_mut.result.now ≡ get_or locals t [] = c.index_mut.ensures.value
    ∙ get_or_default locals t c.index_mut.result.now [] within in
    let adds = joins_local c.self.inside.sites c.self.inside.slots locals t c.args.local c.join_row.new.self
    (RowHas (get_or locals t []) c.args.other) c.join_row.result within
    (λ y s. rw was at c.join_row.ensures.sites y s)
    (c.join_row.ensures.long ∙ ap length was)
    (λ e. c.join_row.ensures.same e ∙ was)
    (λ e. rw was at c.join_row.ensures.grew e) in (
      c.self.invariant.0,
      c.self.invariant.1,
      adds_below _ _ _ c.join_row.result adds c.self.invariant.2
          (λ h s k. c.self.invariant.2 (Local t c.args.other) s k.1),
    )

pub returns : goal.returns
returns c =
    let locals = c.self.inside.locals.items in
    let t = c.args.thread in
    let within : t < length locals = rw (← c.self.view_is) at c.requires.0 in
    let was : c.index_mut.result.now ≡ get_or locals t [] = c.index_mut.ensures.value
    ∙ get_or_default locals t c.index_mut.result.now [] within in
    rw (← c.self.view_is) (joins_local c.self.inside.sites c.self.inside.slots locals t c.args.local
    c.join_row.new.self
    (RowHas (get_or locals t []) c.args.other) c.join_row.result within
    (λ y s. rw was at c.join_row.ensures.sites y s)
    (c.join_row.ensures.long ∙ ap length was)
    (λ e. c.join_row.ensures.same e ∙ was)
    (λ e. rw was at c.join_row.ensures.grew e))
