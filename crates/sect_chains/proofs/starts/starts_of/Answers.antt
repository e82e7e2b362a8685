use Rattle.std.proofs.{Common.{◌≡◌, ◌<◌, Some, length, sym, ap, ◌∙◌, arith}, lemmas.Option.{slice_get-get_or}}
use Rattle.std.specs.Prelude.{slice_get}
use Rattle.sect_lemmas.proofs.Membership.{Has-slice_get}
use Rattle.sect_chains.proofs.Starting.{starts_none, starts_put, starts_skip}
use Rattle.sect_chains.proofs.starts.starts_of.Goals.{then-step-eq0, else-step-eq0}
use Rattle.sect_chains.proofs.starts.starts_of.Goals as goal

pub index_mut-requires : goal.index_mut-requires
index_mut-requires c =
    let steps = c.args.trail.now.steps.items in
    let x = c.index-step.result.now in
    let i = c.loop-index.index in
    let within : i < length steps = omega (arith, c.loop-index-test.true, c.len-index-end.ensures) in
    let at : slice_get steps i ≡ Some x = slice_get-get_or steps i x within
    ∙ ap (λ z. Some z) (sym c.index-step.ensures) in
    let there = c.requires x (Has-slice_get steps i x at) in
    omega (arith, there, c.loop-index.invariant.counted)

pub loop-index-init : goal.loop-index-init
loop-index-init c =
    starts_none (length c.args.trail.now.numbering.keys) c.args.trail.now.steps.items c.in_ok-starts.starts.items
    (c.in_ok-starts.ensures.count ∙ c.len.ensures) c.in_ok-starts.ensures.none

pub loop-index-preserved : goal.loop-index-preserved
loop-index-preserved c =
    let count = length c.args.trail.now.numbering.keys in
    let steps = c.args.trail.now.steps.items in
    let x = c.index-step.result.now in
    let i = c.loop-index.index in
    let within : i < length steps = omega (arith, c.loop-index-test.true, c.len-index-end.ensures) in
    let at : slice_get steps i ≡ Some x = slice_get-get_or steps i x within
    ∙ ap (λ z. Some z) (sym c.index-step.ensures) in
    let there : x.number < count = c.requires x (Has-slice_get steps i x at) in
    elim c.if-step-eq0.branch [
      | then-step-eq0 w ↦ rw w.starts-is (starts_put count steps i c.loop-index.starts.items x at
          c.loop-index.invariant w.if-step-eq0.true there)
      | else-step-eq0 w ↦ rw w.starts-is (starts_skip count steps i c.loop-index.starts.items x at
          c.loop-index.invariant w.if-step-eq0.false)
    ]
