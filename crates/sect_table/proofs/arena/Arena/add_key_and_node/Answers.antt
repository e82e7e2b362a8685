use Rattle.std.proofs.Common.{◌++◌, ◌∷◌, [], sym, ◌∙◌, ap, refl}
use Rattle.sect_table.specs.Contents.{Contents, no_entry}
use Rattle.sect_table.specs.steps.Arena.{no_node}
use Rattle.sect_table.proofs.Shown.{seen}
use Rattle.sect_table.proofs.Growing.{NodeAdded, KeyAdded, key_added, node_added, arena_same, shown_same}
use Rattle.sect_table.proofs.arena.Arena.add_key_and_node.Goals as goal

pub push_key-requires-clause-new : goal.push_key-requires-clause-new
push_key-requires-clause-new c =
    let s = seen _ _ _ _ _ _ c.self.invariant c.self.view_is in
    s.numbers c.args.key ∙ (c.requires ∙ sym s.keys_are)

key : (c : goal.After-push_node)
    → KeyAdded c.reserve_node.new.nodes.items c.self.inside.keys c.push_key.new.keys c.self.inside.threads
    c.reserve_node.new.queues c.reserve_node.new.chains c.push_key.new.queues c.reserve_node.new.chains c.args.key
key c =
    let r = c.reserve_node.ensures in
    let e = c.in_ok-push_key.ensures in
    let a = arena_same c.self.inside.nodes.items c.reserve_node.new.nodes.items c.self.inside.keys c.self.inside.threads
    c.self.inside.queues c.self.inside.chains c.reserve_node.new.queues c.reserve_node.new.chains r.nodes r.queues
    r.chains c.self.invariant in
    key_added _ _ _ _ _ _ _ _ c.args.key a e.keys e.size e.labels e.queues e.few e.placed
    (record { size = refl; labels = refl; lists = refl; placed = r.chains.placed })

node : (c : goal.After-push_node)
    → NodeAdded c.reserve_node.new.nodes.items c.push_node.new.nodes.items c.push_key.new.keys c.self.inside.threads
    c.push_key.new.queues c.reserve_node.new.chains c.push_node.new.queues c.push_node.new.chains
node c = node_added _ _ no_node _ _ _ _ _ _ (key c).arena c.push_node.ensures.nodes c.push_node.ensures.queues
    c.push_node.ensures.chains

pub invariant_of-self-2 : goal.invariant_of-self-2
invariant_of-self-2 c = (node c).arena

pub returns-clause-held : goal.returns-clause-held
returns-clause-held c =
    let e = c.reserve_node.ensures in
    (node c).held_is ∙ ((key c).held_is
    ∙ (ap (λ (z : Contents). z.held)
    (shown_same c.self.inside.nodes.items _ c.self.inside.keys c.self.inside.threads c.self.inside.queues
    c.self.inside.chains _ _ e.nodes e.queues e.chains) ∙ ap (λ (z : Contents). z.held) c.self.view_is))

pub returns-clause-entries : goal.returns-clause-entries
returns-clause-entries c =
    let e = c.reserve_node.ensures in
    (node c).entries_are ∙ ((key c).entries_are
    ∙ (ap (λ (z : Contents). z.entries ++ no_entry c.args.key ∷ [])
    (shown_same c.self.inside.nodes.items _ c.self.inside.keys c.self.inside.threads c.self.inside.queues
    c.self.inside.chains _ _ e.nodes e.queues e.chains)
    ∙ ap (λ (z : Contents). z.entries ++ no_entry c.args.key ∷ []) c.self.view_is))
