use Rattle.std.proofs.{Common.{◌≡◌, length, sym, ◌∙◌, subst}, lemmas.List.{get_or_read}}
use Rattle.std.specs.Prelude.{IsSome}
use Rattle.sect_table.specs.Contents.{put, entry_of, with_grant, claim_of, give}
use Rattle.sect_table.specs.steps.{Links.{list_at}, Arena.{no_node}}
use Rattle.sect_table.proofs.{Shown.{queues-seen, claimed_first}, Moving.{Shows, first_granted, Waiter, first_waiting}}
use Rattle.sect_table.proofs.arena.Arena.grant_first.Goals.{After-index-request}
use Rattle.sect_table.proofs.arena.Arena.grant_first.Goals as goal

-- the waiter that the function has read, before it moves its node
waiter : (c : After-index-request)
    → Waiter c.self.inside.nodes.items c.self.inside.chains c.args.self.now c.args.key c.index-request.result.now
waiter c = first_waiting _ _ _ _ _ _ c.args.key c.args.at c.unwrap-node.result c.index-request.result.now
    c.self.invariant c.self.view_is c.requires.number c.requires.known
    (sym c.first.ensures.first ∙ c.unwrap-node.ensures)
    (λ lt. get_or_read c.self.inside.nodes.items c.unwrap-node.result c.index-request.result.now lt
    c.index-request.ensures no_node)

outcome : (c : goal.After-move_to-2)
    → Shows c.self.inside.nodes.items c.self.inside.keys c.self.inside.threads c.move_to.new.self c.move_to-2.new.self
    (give c.index-request.result.now.thread c.args.key c.index-request.result.now.mode c.args.self.now.held)
    (put (with_grant (claim_of c.index-request.result.now.thread c.index-request.result.now.mode)
    (entry_of c.args.key c.args.self.now.entries)) c.args.self.now.entries)
    × (length (list_at c.move_to.new.self.lists 0) ≡ c.args.self.now.spare)
outcome c =
    first_granted _ _ _ _ _ _ _ _ c.args.key c.args.at c.unwrap-node.result c.index-request.result.now
    c.self.invariant c.self.view_is c.requires.number c.requires.known
    (sym c.first.ensures.first ∙ c.unwrap-node.ensures)
    (λ lt. get_or_read c.self.inside.nodes.items c.unwrap-node.result c.index-request.result.now lt
    c.index-request.ensures no_node)
    c.move_to.ensures c.move_to-2.ensures

pub unwrap-node-requires : goal.unwrap-node-requires
unwrap-node-requires c =
    let some = rw (queues-seen _ _ _ _ _ _ c.args.key c.args.at c.self.invariant c.self.view_is c.requires.number
    c.requires.known) at c.requires.waits in
    subst IsSome (sym c.first.ensures.first) (claimed_first c.self.inside.nodes.items _ some)

pub move_to-requires-2-clause-list : goal.move_to-requires-2-clause-list
move_to-requires-2-clause-list c = (waiter (goal.at.move_to-requires-2-clause-list c).After-index-request).list

pub invariant_of-self : goal.invariant_of-self
invariant_of-self c = (outcome c).0.arena

pub returns-clause-held : goal.returns-clause-held
returns-clause-held c = (outcome c).0.held_is

pub returns-clause-entries : goal.returns-clause-entries
returns-clause-entries c = (outcome c).0.entries_are

pub returns-clause-spare : goal.returns-clause-spare
returns-clause-spare c = (outcome c).1

pub returns-clause-key : goal.returns-clause-key
returns-clause-key c = (waiter (goal.at.returns-clause-key c).After-index-request).key

pub returns-clause-thread : goal.returns-clause-thread
returns-clause-thread c = (waiter (goal.at.returns-clause-thread c).After-index-request).thread

pub returns-clause-first : goal.returns-clause-first
returns-clause-first c = (waiter (goal.at.returns-clause-first c).After-index-request).first
