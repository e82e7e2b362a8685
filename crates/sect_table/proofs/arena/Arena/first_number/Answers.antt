use Rattle.std.proofs.Common.{◌+◌, ◌<◌, length, sym, ◌∙◌, subst, arith}
use Rattle.std.specs.Prelude.{IsSome}
use Rattle.sect_table.specs.steps.Links.{list_at}
use Rattle.sect_table.proofs.{Shown.{seen, chain-seen, held_first}, Roles.{FirstHeld, first_of_thread}}
use Rattle.sect_table.proofs.arena.Arena.first_number.Goals as goal

pub first-requires : goal.first-requires
first-requires c =
    let s = seen _ _ _ _ _ _ c.self.invariant c.self.view_is in
    let lt = c.requires.thread in
    let n = s.chains in
    omega arith

pub unwrap-node-requires : goal.unwrap-node-requires
unwrap-node-requires c =
    subst IsSome (sym c.first.ensures.first)
    (held_first c.self.inside.nodes.items (list_at c.self.inside.chains.lists (c.args.thread + c.args.thread + 1))
    (subst (λ z. 0 < length z) (chain-seen _ _ _ _ _ _ c.args.thread c.self.invariant c.self.view_is c.requires.thread)
    c.requires.some))

pub list_of-requires : goal.list_of-requires
list_of-requires c =
    let there : FirstHeld c.self.inside.nodes.items c.self.inside.queues c.args.self.now c.args.thread
    c.unwrap-node.result =
    first_of_thread _ _ _ _ _ _ c.args.thread c.unwrap-node.result c.self.invariant c.self.view_is
    c.requires.thread (sym c.first.ensures.first ∙ c.unwrap-node.ensures) in
    there.within

there : (c : goal.After-list_of)
    → FirstHeld c.self.inside.nodes.items c.self.inside.queues c.args.self.now c.args.thread c.unwrap-node.result
there c = first_of_thread _ _ _ _ _ _ c.args.thread c.unwrap-node.result c.self.invariant c.self.view_is
    c.requires.thread (sym c.first.ensures.first ∙ c.unwrap-node.ensures)

pub overflow_sub-result : goal.overflow_sub-result
overflow_sub-result c =
    let t = (there c).label in
    let l = c.list_of.ensures in
    omega arith

pub returns : goal.returns
returns c h is =
    let t = (there c).label in
    let l = c.list_of.ensures in
    let n = (there c).number h is in
    omega arith
