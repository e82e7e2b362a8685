use Rattle.std.proofs.Common.{length, arith, ap}
use Rattle.sect_lint.proofs.Counting.{record_step}
use Rattle.sect_lint.proofs.culprit.record_item.Goals as goal

pub loop-declared-preserved : goal.loop-declared-preserved
loop-declared-preserved c = omega (
  arith,
  c.loop-declared.invariant,
  record_step c.args.records.now c.loop-declared.declared-index c.loop-declared.left c.declared-item.result
      c.loop-declared-test.true c.declared-item.is (omega (arith, c.if-left-eq0.false)),
  ap length c.as_slice.ensures,
  c.in_ok-item.ensures,
)
