use Rattle.std.proofs.{Common.{◌<◌, length, get_or, sym, ◌∙◌, subst, arith}, lemmas.List.{get_or_default}}
use Rattle.sect_infer.specs.Numbers.{AreApart}
use Rattle.sect_infer.proofs.Marking.{mark_within, has_at, unmark_next}
use Rattle.sect_infer.proofs.numbers.Numbers.clear.Goals as goal

pub index_mut-requires : goal.index_mut-requires
index_mut-requires c =
    let ns = c.as_slice-number-items.result.now in
    let i = c.loop-number.number-index in
    let x = get_or ns i 0 in
    let within : i < length ns = omega (arith, c.loop-number-test.true) in
    let there = mark_within c.loop-number.self-inside.1.1.0.items x
    (c.loop-number.invariant.told x ∙ has_at ns i x within (get_or_default ns i 0 x within)) in
    omega (arith, there)

pub loop-number-preserved : goal.loop-number-preserved
loop-number-preserved c =
    let ns = c.as_slice-number-items.result.now in
    let i = c.loop-number.number-index in
    let x = get_or ns i 0 in
    let within : i < length ns = omega (arith, c.loop-number-test.true) in
    record {
      told = unmark_next ns c.loop-number.self-inside.1.1.0.items i x
          (subst AreApart (sym c.as_slice-number-items.ensures.value) c.self.invariant.apart) within
          (get_or_default ns i 0 x within) c.loop-number.invariant.told;
      same = sym c.as_slice-number-items.ensures.value;
    }
