use Rattle.sect_points.proofs.PartitionLaws.{parted_had}
use Rattle.sect_points.proofs.path_classes.Classes.parted.Goals as goal

pub returns : goal.returns
returns c = rw (← c.self.view_is)
    (parted_had (record { sets = c.self.inside.points; numbers = c.self.inside.numbers.items }) c.self.invariant.1)
