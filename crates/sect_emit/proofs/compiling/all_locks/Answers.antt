use Rattle.std.proofs.Common.{◌+◌, sym, subst}
use Rattle.sect_infer.specs.Sets.{AreInferredBelow}
use Rattle.sect_infer.proofs.shared.Sets.{one_inferred}
use Rattle.sect_emit.proofs.compiling.all_locks.Goals as goal

pub loop-section-preserved : goal.loop-section-preserved
loop-section-preserved c =
    let s = c.args.scheme.now in
    subst (AreInferredBelow s (c.loop-section.section + 1)) (sym c.in_ok-push.ensures.items)
    (one_inferred s c.loop-section.section c.loop-section.all.items c.in_ok-infer.field-0 c.loop-section.invariant
    (λ of g at graph. (c.in_ok-infer.ensures.locks of g at graph, c.in_ok-infer.ensures.lawful of at)))
