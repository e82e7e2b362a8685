use Rattle.std.proofs.Common.{◌∷◌, ◌++◌, [], ◌∙◌, ap}
use Rattle.sect_names.specs.Chains.{link}
use Rattle.sect_check.proofs.Claimed.{linked_more}
use Rattle.sect_check.proofs.claimed_links.ClaimedLinks.push.Goals as goal

pub returns : goal.returns
returns c =
    rw (c.in_ok-push-2.ensures.items, c.in_ok-reserve.ensures.items, c.in_ok-push.ensures.ok)
    (linked_more c.self.inside.nodes.items c.self.inside.locks c.args.node c.args.lock c.self.invariant
    ∙ ap (λ xs. xs ++ link c.args.node c.args.lock ∷ []) c.self.view_is)
