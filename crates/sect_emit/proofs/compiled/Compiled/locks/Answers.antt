use Rattle.std.proofs.Common.{subst}
use Rattle.sect_infer.specs.Sets.{AreInferredAt}
use Rattle.sect_emit.specs.Compiled.{CompiledView}
use Rattle.sect_emit.proofs.Wholes.{kept_at}
use Rattle.sect_emit.proofs.compiled.Compiled.locks.Goals as goal

pub returns-clause-inferred : goal.returns-clause-inferred
returns-clause-inferred c =
    let i = c.args.section in
    let locks = c.index.result.now in
    let kept = kept_at c.self.inside.scheme c.self.inside.locks.items _ c.self.invariant c.args.self.now
    c.self.view_is i
    locks c.requires c.index.ensures in
    subst (λ (v : CompiledView). AreInferredAt v.scheme i locks) c.self.view_is
    (c.self.invariant.inferred.each i locks kept)
