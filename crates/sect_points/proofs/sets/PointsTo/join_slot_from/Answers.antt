use Rattle.std.proofs.Common.{◌≡◌, ◌+◌, ◌*◌, arith, ap, get_or}
use Rattle.sect_types.specs.declared.declarations.limits.TheConstants.{MOST_FIELDS}
use Rattle.sect_points.specs.{Rows.{no_sites}, declared.holders.Holder.TheVariants.{Slot}}
use Rattle.sect_points.specs.Sets.{PointsToView}
use Rattle.sect_points.proofs.SetLaws.{slots_below_still}
use Rattle.sect_points.proofs.sets.PointsTo.join_slot_from.Goals as goal

pub invariant_of-self : goal.invariant_of-self
invariant_of-self c =
    let row = c.args.site * MOST_FIELDS + c.args.field in
    let slots : c.others.inside.slots ≡ c.args.others.now.slots =
    ap (λ (v : PointsToView). v.slots) c.others.view_is in
    let same : c.args.others.now.sites ≡ c.self.inside.sites = rw (← c.self.view_is) at c.requires.same in (
      c.self.invariant.0,
      rw c.join_from.ensures.long c.self.invariant.1,
      slots_below_still c.self.inside.sites c.self.inside.slots c.join_from.new.self c.self.inside.locals.items
          row (get_or c.args.others.now.slots row no_sites).words c.self.invariant.2
          (λ s h. omega (arith, c.requires.below (Slot c.args.site c.args.field) s (c.requires.place.0, h), same))
          (rw slots at c.join_from.ensures.sites),
    )
