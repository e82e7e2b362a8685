use Rattle.std.proofs.{Common.{◌<◌, length, get_or, arith, inl, inr}, lemmas.List.{get_or_default}}
use Rattle.sect_lemmas.proofs.Making.{last_of}
use Rattle.sect_infer.proofs.numbering.Numbering.highest_with.Goals as goal

pub loop-number-preserved : goal.loop-number-preserved
loop-number-preserved c =
    let ns = c.args.numbers.now in
    let i = c.loop-number.number-index in
    let x = get_or ns i 0 in
    let within : i < length ns = omega (arith, c.loop-number-test.true) in
    let first = c.greater.ensures.first in
    let second = c.greater.ensures.second in
    record {
      there = λ m n h. first n (c.loop-number.invariant.there m n h);
      behind = λ n h. elim (last_of ns i x n within (get_or_default ns i 0 x within) h) [
        | inl a ↦ first n (c.loop-number.invariant.behind n a)
        | inr e ↦ omega (arith, e, second)
      ];
    }
