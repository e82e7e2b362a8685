use Rattle.std.proofs.Common.{◌≡◌}
use Rattle.sect_points.proofs.PartitionLaws.{IsCounted}
use Rattle.sect_points.proofs.path_classes.Classes.class_count.Given as goal

abbrev pub invariant-loop-number : goal.invariant-loop-number
invariant-loop-number l = record {
  items : l.number-items ≡ l.self.numbers;
  counted : IsCounted l.number-index l.number-items l.count;
}
