use Rattle.std.proofs.Common.{◌∙◌, ap}
use Rattle.sect_table.specs.Contents.{Contents}
use Rattle.sect_table.specs.steps.Arena.{no_node}
use Rattle.sect_table.proofs.Growing.{NodeAdded, node_added, arena_same, shown_same}
use Rattle.sect_table.proofs.arena.Arena.add_node.Goals as goal

outcome : (c : goal.After-push_node)
    → NodeAdded c.reserve_node.new.nodes.items c.push_node.new.nodes.items c.self.inside.keys c.self.inside.threads
    c.reserve_node.new.queues c.reserve_node.new.chains c.push_node.new.queues c.push_node.new.chains
outcome c =
    let e = c.reserve_node.ensures in
    node_added _ _ no_node _ _ _ _ _ _
    (arena_same c.self.inside.nodes.items _ _ _ c.self.inside.queues c.self.inside.chains _ _ e.nodes e.queues
    e.chains c.self.invariant) c.push_node.ensures.nodes c.push_node.ensures.queues c.push_node.ensures.chains

pub invariant_of-self-2 : goal.invariant_of-self-2
invariant_of-self-2 c = (outcome c).arena

pub returns-clause-held : goal.returns-clause-held
returns-clause-held c =
    let e = c.reserve_node.ensures in
    (outcome c).held_is ∙ (ap (λ (z : Contents). z.held)
    (shown_same c.self.inside.nodes.items _ c.self.inside.keys c.self.inside.threads c.self.inside.queues
    c.self.inside.chains _ _ e.nodes e.queues e.chains) ∙ ap (λ (z : Contents). z.held) c.self.view_is)

pub returns-clause-entries : goal.returns-clause-entries
returns-clause-entries c =
    let e = c.reserve_node.ensures in
    (outcome c).entries_are ∙ (ap (λ (z : Contents). z.entries)
    (shown_same c.self.inside.nodes.items _ c.self.inside.keys c.self.inside.threads c.self.inside.queues
    c.self.inside.chains _ _ e.nodes e.queues e.chains) ∙ ap (λ (z : Contents). z.entries) c.self.view_is)
