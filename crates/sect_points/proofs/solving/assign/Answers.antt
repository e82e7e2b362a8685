use Rattle.sect_points.specs.declared.holders.Holder.TheVariants.{Local}
use Rattle.sect_points.proofs.solving.assign.Goals as goal

pub mark-requires : goal.mark-requires
mark-requires c = c.requires.suits (Local c.args.thread c.args.target) c.requires.place
