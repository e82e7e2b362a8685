use Rattle.std.proofs.Common.{◌≡◌, ◌+◌, length, set, sym, ◌∙◌}
use Rattle.sect_table.specs.Contents.{put, entry_of, with_holder, claim_of, give}
use Rattle.sect_table.specs.steps.Links.{list_at}
use Rattle.sect_table.proofs.Moving.{Shows, holder_added}
use Rattle.sect_table.proofs.arena.Arena.add_holder.Goals as goal

outcome : (c : goal.After-move_to-2)
    → Shows (set c.self.inside.nodes.items c.unwrap-node.result
    (record { thread = c.args.thread; key = c.args.key; mode = c.args.mode })) c.self.inside.keys c.self.inside.threads
    c.move_to.new.self c.move_to-2.new.self
    (give c.args.thread c.args.key c.args.mode c.args.self.now.held)
    (put (with_holder (claim_of c.args.thread c.args.mode) (entry_of c.args.key c.args.self.now.entries))
    c.args.self.now.entries) × (length (list_at c.move_to.new.self.lists 0) + 1 ≡ c.args.self.now.spare)
outcome c =
    holder_added _ _ _ _ _ _ _ _ (record { thread = c.args.thread; key = c.args.key; mode = c.args.mode }) c.args.at
    c.unwrap-node.result c.self.invariant c.self.view_is c.requires.thread c.requires.number c.requires.known
    (sym c.first.ensures.first ∙ c.unwrap-node.ensures)
    c.move_to.ensures c.move_to-2.ensures

pub invariant_of-self : goal.invariant_of-self
invariant_of-self c = (outcome c).0.arena

pub returns-clause-held : goal.returns-clause-held
returns-clause-held c = (outcome c).0.held_is

pub returns-clause-entries : goal.returns-clause-entries
returns-clause-entries c = (outcome c).0.entries_are

pub returns-clause-spare : goal.returns-clause-spare
returns-clause-spare c = (outcome c).1
