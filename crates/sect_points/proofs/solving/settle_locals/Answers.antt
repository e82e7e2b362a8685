use Rattle.std.proofs.Common.{refl}
use Rattle.sect_points.proofs.RoundLaws.{span_none, span_then}
use Rattle.sect_points.proofs.solving.settle_locals.Goals as goal

pub loop-grew-init : goal.loop-grew-init
loop-grew-init c = record {
  span = span_none c.args.sets.now c.args.marks.now;
  going = c.requires.going;
  left = c.requires.left;
}

pub loop-grew-preserved : goal.loop-grew-preserved
loop-grew-preserved c =
    let l = c.loop-grew in
    let r = c.carry_locals in
    record {
      span = span_then c.args.sets.now l.sets r.new.sets c.args.marks.now l.marks r.new.marks l.grew r.result _
          l.invariant.span r.ensures.span (rw c.loop-grew-test.true refl);
      going = r.ensures.going;
      left = r.ensures.left;
    }

pub returns-clause-span : goal.returns-clause-span
returns-clause-span c =
    let l = c.loop-grew in
    let r = c.carry_locals in
    span_then c.args.sets.now l.sets r.new.sets c.args.marks.now l.marks r.new.marks l.grew r.result l.grew
    l.invariant.span r.ensures.span (rw c.loop-grew-test.false refl)
