use Rattle.std.proofs.lemmas.Option.{IfSome_then}
use Rattle.sect_points.specs.declared.holders.Holder.TheVariants.{Local}
use Rattle.sect_points.proofs.path_classes.variable_site.Goals as goal

pub returns-in-Local-clause-some : goal.returns-in-Local-clause-some
returns-in-Local-clause-some c = rw c.in-Local.is
    (IfSome_then c.first_of.result c.first_of.ensures.some
    (λ s h. (h.1, c.bounds.ensures.below (Local c.in-Local.thread c.in-Local.local) s h.1)))
