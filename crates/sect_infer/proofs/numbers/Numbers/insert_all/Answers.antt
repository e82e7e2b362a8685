use Rattle.std.proofs.{Common.{◌<◌, length, get_or, ◌∙◌, ap, arith}, lemmas.List.{get_or_default}}
use Rattle.sect_infer.specs.Numbers.{with_number}
use Rattle.sect_infer.proofs.Marking.{with_next}
use Rattle.sect_infer.proofs.numbers.Numbers.insert_all.Goals as goal

pub loop-number-preserved : goal.loop-number-preserved
loop-number-preserved c =
    let ns = c.args.numbers.now in
    let i = c.loop-number.number-index in
    let x = get_or ns i 0 in
    let within : i < length ns = omega (arith, c.loop-number-test.true) in
    c.in_ok-insert.ensures ∙ ap (λ ms. with_number ms x) c.loop-number.invariant
    ∙ with_next c.args.self.now ns i x within (get_or_default ns i 0 x within)
