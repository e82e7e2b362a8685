use Rattle.sect_points.specs.declared.holders.Holder.TheVariants.{Local}
use Rattle.sect_points.proofs.solving.value_sites.Goals as goal

pub returns-in-Local-clause-below : goal.returns-in-Local-clause-below
returns-in-Local-clause-below c s h =
    c.bounds.ensures.below (Local c.args.thread c.in-Local.local) s ((c.local.ensures s).0 h)
