use Rattle.std.proofs.{Common.{rules, arith, ◌≡◌, ◌+◌, length, sym, ◌∙◌, ap, vec_len}, lemmas.List.{get_or_read}}
use Rattle.std.specs.Option.{option_map}
use Rattle.sect_table.specs.{Contents.{claim_of}, declared.claims.Grant.{Grant}}
use Rattle.sect_table.specs.steps.{Links.{list_at}, Arena.{no_node}}
use Rattle.sect_table.proofs.Shown.{queues-seen, first_claim, no_claim}
use Rattle.sect_table.proofs.arena.Arena.first_holder.Goals as goal

pub returns-in_err-node : goal.returns-in_err-node
returns-in_err-node c =
    rw (queues-seen _ _ _ _ _ _ c.args.key c.args.at c.self.invariant c.self.view_is c.requires.number c.requires.known)
    (ap (option_map (λ (g : Grant). claim_of g.thread g.mode)) c.from_residual.ensures
    ∙ no_claim c.self.inside.nodes.items (list_at c.self.inside.queues.lists (c.args.at + c.args.at + 1))
    (sym c.first.ensures.first ∙ c.in_err-node.was))

pub returns : goal.returns
returns c =
    let n : length c.self.inside.nodes.items ≡ vec_len c.self.inside.nodes = search rules in
    let sizes = c.self.invariant.sizes in
    let within = c.in_ok-node.ensures.within in
    rw (queues-seen _ _ _ _ _ _ c.args.key c.args.at c.self.invariant c.self.view_is c.requires.number c.requires.known)
    (first_claim c.self.inside.nodes.items (list_at c.self.inside.queues.lists (c.args.at + c.args.at + 1))
    c.in_ok-node.node c.index.result.now (sym c.in_ok-node.ensures.first)
    (get_or_read c.self.inside.nodes.items c.in_ok-node.node c.index.result.now (omega arith)
    c.index.ensures no_node))
