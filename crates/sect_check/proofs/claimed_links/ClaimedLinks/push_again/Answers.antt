use Rattle.std.proofs.Common.{◌≢◌, ◌∷◌, ◌++◌, [], ◌∙◌, ap, arith, length-append, sym}
use Rattle.sect_names.specs.Chains.{link}
use Rattle.sect_check.proofs.Claimed.{linked_more, some_locks, last_lock, last_there}
use Rattle.sect_check.proofs.claimed_links.ClaimedLinks.push_again.Goals as goal

pub invariant_of-self-2 : goal.invariant_of-self-2
invariant_of-self-2 c =
    let locks = c.self.inside.locks in
    let some : locks ≢ [] = some_locks c.self.inside.nodes.items locks c.self.invariant
    (λ e. c.requires (sym c.self.view_is ∙ e)) in
    let last = last_there locks some in
    rw (c.in_ok-push.ensures.items, c.in_ok-reserve.ensures.items, c.in_ok-push_again.ensures.ok last.0 last.1)
    (omega (
      arith,
      c.self.invariant,
      length-append c.self.inside.nodes.items (c.args.node ∷ []),
      length-append locks (last.0 ∷ []),
    ))

pub returns : goal.returns
returns c = λ last at.
    let there = last_lock c.self.inside.nodes.items c.self.inside.locks c.args.self.now last c.self.invariant
    c.self.view_is at in
    rw (c.in_ok-push.ensures.items, c.in_ok-reserve.ensures.items, c.in_ok-push_again.ensures.ok last.lock there)
    (linked_more c.self.inside.nodes.items c.self.inside.locks c.args.node last.lock c.self.invariant
    ∙ ap (λ xs. xs ++ link c.args.node last.lock ∷ []) c.self.view_is)
