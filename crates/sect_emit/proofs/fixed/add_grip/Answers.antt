use Rattle.std.proofs.Common.{◌<◌, length, arith, sym, ap, ◌∙◌, slice_set}
use Rattle.sect_emit.specs.Plan.{grip, with_grip}
use Rattle.sect_emit.proofs.Adding.{same_there}
use Rattle.sect_emit.proofs.fixed.add_grip.Goals as goal

pub returns-then-is_same : goal.returns-then-is_same
returns-then-is_same c =
    let w = c.args.wish in
    let xs = c.loop-place.grips.items in
    let i = c.loop-place.place in
    let h = c.index-held.result.now in
    let within : i < length xs = omega arith in
    let same = sym c.is_same.ensures.test ∙ c.if-is_same.true in
    ap (λ m. slice_set xs i (grip h.key m)) c.join.ensures.value
    ∙ same_there w xs i h within c.index-held.ensures c.loop-place.invariant.1 same
    ∙ ap (λ v. with_grip w v.items) c.loop-place.invariant.0
