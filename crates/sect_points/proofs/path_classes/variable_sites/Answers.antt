use Rattle.sect_points.specs.declared.holders.Holder.TheVariants.{Local}
use Rattle.sect_points.proofs.path_classes.variable_sites.Goals as goal

pub returns-in-Local : goal.returns-in-Local
returns-in-Local c site = rw c.in-Local.is (
  λ h. (let held = (c.local_or_none.ensures site).0 h in
      (held, c.bounds.ensures.below (Local c.in-Local.thread c.in-Local.local) site held)),
  λ h. (c.local_or_none.ensures site).1 h.0,
)
