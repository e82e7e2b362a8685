use Rattle.std.proofs.Common.{◌<◌, ◌≤◌, length, get_or, arith, inl, inr, sym, subst}
use Rattle.std.proofs.lemmas.List.{get_or_default, take_all}
use Rattle.sect_lemmas.specs.Lists.{Has}
use Rattle.sect_lemmas.proofs.Making.{last_of}
use Rattle.sect_infer.proofs.numbering.are_beyond.Goals as goal

pub loop-number-preserved : goal.loop-number-preserved
loop-number-preserved c = λ n h.
    let ns = c.args.numbers.now in
    let i = c.loop-number.number-index in
    let x = get_or ns i 0 in
    let within : i < length ns = omega (arith, c.loop-number-test.true) in
    elim (last_of ns i x n within (get_or_default ns i 0 x within) h) [
      | inl a ↦ c.loop-number.invariant n a
      | inr e ↦ omega (arith, e, c.if-number-most.false)
    ]

pub returns : goal.returns
returns c = λ t n h.
    let ns = c.args.numbers.now in
    let i = c.loop-number.number-index in
    let past : length ns ≤ i = omega (arith, c.loop-number-test.false) in
    c.loop-number.invariant n (subst (λ xs. Has xs n) (sym (take_all i ns past)) h)
