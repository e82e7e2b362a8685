use Rattle.std.proofs.Common.{◌∷◌, ◌++◌, [], ◌∙◌, ap}
use Rattle.sect_cert.proofs.SteppingLemmas.{stepped_more}
use Rattle.sect_cert.proofs.chain_steps.ChainSteps.push.Goals as goal

pub returns : goal.returns
returns c =
    rw (c.in_ok-push-2.ensures.items, c.in_ok-reserve.ensures.items, c.in_ok-push.ensures.ok)
    (stepped_more c.self.inside.nodes.items c.self.inside.locks c.args.step.node c.args.step.lock c.self.invariant
    ∙ ap (λ xs. xs ++ c.args.step ∷ []) c.self.view_is)
