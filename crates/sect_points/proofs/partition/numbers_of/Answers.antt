use Rattle.std.proofs.Common.{subst, arith}
use Rattle.sect_points.specs.steps.Labels.{IsNumbering}
use Rattle.sect_points.proofs.PartitionLaws.{numbering_parted}
use Rattle.sect_points.proofs.partition.numbers_of.Goals as goal

pub returns : goal.returns
returns c =
    let labels = c.in_ok-labels.labels.items in
    let numbers = c.in_ok-numbers.numbers.items in
    let numbering = subst (λ xs. IsNumbering xs numbers) c.as_slice.ensures.value c.in_ok-numbers.ensures in
    numbering_parted c.args.points.now labels numbers c.bounds.ensures.below c.bounds.ensures.slots
    (omega (arith, c.in_ok-labels.ensures.long)) c.in_ok-labels.ensures.finest numbering
