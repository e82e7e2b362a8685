use Rattle.std.proofs.Common.{◌+◌, ◌*◌}
use Rattle.sect_types.specs.declared.declarations.limits.TheConstants.{MOST_FIELDS}
use Rattle.sect_points.proofs.SetLaws.{slots_below_still}
use Rattle.sect_points.proofs.sets.PointsTo.join_slot.Goals as goal

pub invariant_of-self : goal.invariant_of-self
invariant_of-self c = (
  c.self.invariant.0,
  rw c.join.ensures.long c.self.invariant.1,
  slots_below_still c.self.inside.sites c.self.inside.slots c.join.new.self c.self.inside.locals.items
      (c.args.site * MOST_FIELDS + c.args.field) c.args.sites.now.words c.self.invariant.2
      (rw (← c.self.view_is) at c.requires.sites) c.join.ensures.sites,
)
