use Rattle.std.proofs.Common.{inr, sym, ◌+◌, ◌∷◌, arith, length-append, ap, subst, length}
use Rattle.std.proofs.{lemmas.List.Splits.{length-slice_split}, lemmas.List.Sums.{count_by-le-length}}
use Rattle.std.specs.Prelude.{◌==◌}
use Rattle.sect_cert.specs.Parts.{parts}
use Rattle.sect_cert.proofs.AgainLaws.{after_line}
use Rattle.sect_cert.proofs.Verdict.{IsReading, reading_more, reading_goes_on, reading_fails, reading_closes}
use Rattle.sect_cert.proofs.reading.read_lines.Goals as goal

pub overflow_add-line : goal.overflow_add-line
overflow_add-line c =
    omega (
      arith,
      c.loop-next.invariant.reading.count,
      ap length c.loop-next.invariant.reading.split,
      length-append c.loop-next.invariant.reading.front (c.loop-next.text.now ∷ c.loop-next.others),
      ap length c.in-Some.ensures,
      length-slice_split (λ b. b == 10) c.args.bytes.now,
      count_by-le-length (λ b. b == 10) c.args.bytes.now,
    )

pub returns-then-is_finished : goal.returns-then-is_finished
returns-then-is_finished c =
    inr (reading_goes_on (parts 10 c.args.bytes.now) c.loop-next.others c.loop-next.stage c.loop-next.line
    c.loop-next.text.now c.loop-next.invariant.reading (sym c.if-is_finished.ensures)
    (λ h. let e = c.in-Some.ensures in cc))

pub returns-in-Err : goal.returns-in-Err
returns-in-Err c =
    reading_fails c.args.bytes.now c.loop-next.others c.loop-next.stage c.loop-next.line c.loop-next.text.now
    c.in-Err.fault c.fault_on.result c.loop-next.invariant.reading (λ h. let e = c.in-Some.ensures in cc)
    (sym c.if-is_finished.ensures) c.in-Err.ensures c.fault_on.ensures

pub loop-next-preserved : goal.loop-next-preserved
loop-next-preserved c = record {
  reading =
      subst (λ w. IsReading (parts 10 c.args.bytes.now) w c.in-Ok.stage (c.loop-next.line + 1)) c.in-Some.ensures
      (reading_more (parts 10 c.args.bytes.now) c.loop-next.others c.loop-next.stage c.in-Ok.stage c.loop-next.line
      c.loop-next.text.now c.loop-next.invariant.reading c.in-Ok.ensures);
  after = after_line c.loop-next.stage c.loop-next.text.now c.in-Ok.stage c.in-Ok.ensures;
}

pub returns : goal.returns
returns c =
    reading_closes c.args.bytes.now c.loop-next.stage c.loop-next.line c.loop-next.text.now c.close.result
    (subst (λ w. IsReading (parts 10 c.args.bytes.now) (c.loop-next.text.now ∷ w) c.loop-next.stage c.loop-next.line)
    c.in_default.ensures c.loop-next.invariant.reading) c.close.ensures
