use Rattle.std.proofs.{Common.{rules, arith, ◌≡◌, ◌+◌, length, sym, ◌∙◌, vec_len}, lemmas.List.{get_or_read}}
use Rattle.sect_table.specs.steps.{Links.{list_at}, Arena.{no_node}}
use Rattle.sect_table.proofs.Shown.{seen, chain-seen, first_held, no_hold}
use Rattle.sect_table.proofs.arena.Arena.first_held.Goals as goal

pub first-requires : goal.first-requires
first-requires c =
    let s = seen _ _ _ _ _ _ c.self.invariant c.self.view_is in
    let lt = c.requires in
    let n = s.chains in
    omega arith

pub returns-in_err-node : goal.returns-in_err-node
returns-in_err-node c =
    rw (chain-seen _ _ _ _ _ _ c.args.thread c.self.invariant c.self.view_is c.requires)
    (c.from_residual.ensures
    ∙ no_hold c.self.inside.nodes.items (list_at c.self.inside.chains.lists (c.args.thread + c.args.thread + 1))
    (sym c.first.ensures.first ∙ c.in_err-node.was))

pub returns : goal.returns
returns c =
    let n : length c.self.inside.nodes.items ≡ vec_len c.self.inside.nodes = search rules in
    let sizes = c.self.invariant.sizes in
    let within = c.in_ok-node.ensures.within in
    rw (chain-seen _ _ _ _ _ _ c.args.thread c.self.invariant c.self.view_is c.requires)
    (first_held c.self.inside.nodes.items (list_at c.self.inside.chains.lists (c.args.thread + c.args.thread + 1))
    c.in_ok-node.node c.index-request.result.now (sym c.in_ok-node.ensures.first)
    (get_or_read c.self.inside.nodes.items c.in_ok-node.node c.index-request.result.now (omega arith)
    c.index-request.ensures no_node))
