use Rattle.std.proofs.{Common.{◌∙◌, Some, ap, arith, length, subst, sym}, lemmas.Option.{slice_get-get_or}}
use Rattle.sect_points.specs.Partitions.{IsByLeast}
use Rattle.sect_points.proofs.PartitionLaws.{parted_had, counted_more, counted_same}
use Rattle.sect_points.proofs.path_classes.Classes.class_count.Goals.{then-number-count, else-number-count}
use Rattle.sect_points.proofs.path_classes.Classes.class_count.Goals as goal

pub overflow_add-count : goal.overflow_add-count
overflow_add-count c =
    let parted = parted_had (record { sets = c.self.inside.points; numbers = c.self.inside.numbers.items })
    c.self.invariant.1 in
    let long = ap length c.as_slice-number-items.ensures.value in
    omega (arith, parted.sites, c.self.invariant.0, c.loop-number.invariant.counted.most, long)

pub loop-number-preserved : goal.loop-number-preserved
loop-number-preserved c =
    let l = c.loop-number in
    let parted = parted_had (record { sets = c.self.inside.points; numbers = c.self.inside.numbers.items })
    c.self.invariant.1 in
    let least = subst IsByLeast (sym c.as_slice-number-items.ensures.value) parted.least in
    record {
      items = l.invariant.items;
      counted = elim c.if-number-count.branch [
        | then-number-count w ↦ rw w.count-is
            (counted_more l.number-index c.as_slice-number-items.result.now l.count least (omega arith)
            l.invariant.counted w.if-number-count.true)
        | else-number-count w ↦ rw w.count-is
            (counted_same l.number-index c.as_slice-number-items.result.now l.count least (omega arith)
            l.invariant.counted w.if-number-count.false)
      ];
    }

pub returns-clause-below : goal.returns-clause-below
returns-clause-below c site lt =
    let h = c.loop-number.invariant in
    rw (← h.items) (h.counted.below site (omega (arith, ap length h.items)))

pub returns-clause-each : goal.returns-clause-each
returns-clause-each c class lt =
    let h = c.loop-number.invariant in
    let found = h.counted.each class lt in (
      found.0,
      rw (← h.items) (slice_get-get_or c.as_slice-number-items.result.now found.0 0 (omega arith)
          ∙ ap Some found.2),
    )

pub returns-clause-few : goal.returns-clause-few
returns-clause-few c =
    let parted = parted_had (record { sets = c.self.inside.points; numbers = c.self.inside.numbers.items })
    c.self.invariant.1 in
    let long = ap length c.as_slice-number-items.ensures.value in
    omega (arith, parted.sites, c.self.invariant.0, c.loop-number.invariant.counted.most, long)
