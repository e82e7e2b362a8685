use Rattle.std.proofs.Common.{length, drop, arith, sym, ap, subst}
use Rattle.sect_front.specs.{LongGaps.{IsRestOf}}
use Rattle.sect_front.proofs.shared.{Lexings.{gap_fits}, Rests.{rest_all, rest_more, rest_gap}}
use Rattle.sect_front.proofs.gaps.put_gaps.Goals as goal

pub pass_gap-requires-clause-rest : goal.pass_gap-requires-clause-rest
pass_gap-requires-clause-rest c = rest_all c.args.bytes.now

pub more-init : goal.more-init
more-init c = record {
  rest = subst (IsRestOf c.args.bytes.now) (sym c.in_ok-here.ensures.after)
      (rest_gap c.args.bytes.now c.args.bytes.now (rest_all c.args.bytes.now));
  gaps = c.pass_gap.ensures.gaps;
}

pub pass_gap-requires-in-Some-clause-rest : goal.pass_gap-requires-in-Some-clause-rest
pass_gap-requires-in-Some-clause-rest c =
    subst (IsRestOf c.args.bytes.now) (ap (drop 1) c.in-Some.ensures.cases.0)
    (rest_more c.args.bytes.now c.more.here.now 1 c.more.invariant.rest)

pub more-smaller : goal.more-smaller
more-smaller c = omega (
  arith,
  ap length c.in-Some.ensures.cases.0,
  ap length c.in_ok-here-2.ensures.after,
  gap_fits c.in-Some.others.now,
)

pub more-preserved : goal.more-preserved
more-preserved c = record {
  rest = subst (IsRestOf c.args.bytes.now) (sym c.in_ok-here-2.ensures.after)
      (rest_gap c.args.bytes.now c.in-Some.others.now
      (subst (IsRestOf c.args.bytes.now) (ap (drop 1) c.in-Some.ensures.cases.0)
      (rest_more c.args.bytes.now c.more.here.now 1 c.more.invariant.rest)));
  gaps = c.pass_gap-in-Some.ensures.gaps;
}
