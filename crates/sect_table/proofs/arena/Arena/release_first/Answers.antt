use Rattle.std.proofs.Common.{◌≡◌, ◌+◌, length, set, drop, get_or, sym, ◌∙◌, ap, subst, None, Some, [], ◌∷◌}
use Rattle.std.specs.{Prelude.{IsSome}, Option.{option_map}}
use Rattle.sect_table.specs.{declared.claims.Hold.{Hold}, Contents.{put, entry_of, without_holder, first_hold}}
use Rattle.sect_table.specs.steps.{Links.{head_or, list_at}, Arena.{node_at}}
use Rattle.sect_table.proofs.{Shown.{chain-seen, held_key, found_first}, Moving.{Shows, first_released}}
use Rattle.sect_table.proofs.arena.Arena.release_first.Goals as goal

outcome : (c : goal.After-move_to-2)
    → Shows c.self.inside.nodes.items c.self.inside.keys c.self.inside.threads c.move_to.new.self c.move_to-2.new.self
    (set c.args.self.now.held c.args.thread (drop 1 (get_or c.args.self.now.held c.args.thread [])))
    (put (without_holder c.args.thread (entry_of c.args.key c.args.self.now.entries)) c.args.self.now.entries)
    × (length (list_at c.move_to.new.self.lists 0) ≡ c.args.self.now.spare + 1)
outcome c =
    let a = c.self.invariant in
    let x = c.unwrap-node.result in
    let list = c.args.thread + c.args.thread + 1 in
    let first : head_or (list_at c.self.inside.chains.lists list) None ≡ Some x = sym c.first.ensures.first
    ∙ c.unwrap-node.ensures in
    let found = held_key c.self.inside.nodes.items (list_at c.self.inside.chains.lists list) c.args.key
    (subst (λ z. option_map (λ (h : Hold). h.key) (first_hold z) ≡ Some c.args.key)
    (chain-seen _ _ _ _ _ _ c.args.thread a c.self.view_is c.requires.thread) c.requires.first) in
    let same : Some found.0 ≡ Some x = sym (ap (λ z. head_or z None) found.2) ∙ first in
    let is : found.0 ≡ x = (cc) in
    first_released _ _ _ _ _ _ _ _ c.args.thread c.args.key c.args.at x found.1 a c.self.view_is c.requires.thread
    c.requires.number c.requires.known
    (subst (λ z. list_at c.self.inside.chains.lists list ≡ z ∷ found.1) is found.2)
    (subst (λ z. (node_at c.self.inside.nodes.items z).key ≡ c.args.key) is found.3) c.requires.apart
    c.move_to.ensures c.move_to-2.ensures

pub unwrap-node-requires : goal.unwrap-node-requires
unwrap-node-requires c =
    let list = c.args.thread + c.args.thread + 1 in
    let found = held_key c.self.inside.nodes.items (list_at c.self.inside.chains.lists list) c.args.key
    (subst (λ z. option_map (λ (h : Hold). h.key) (first_hold z) ≡ Some c.args.key)
    (chain-seen _ _ _ _ _ _ c.args.thread c.self.invariant c.self.view_is c.requires.thread) c.requires.first) in
    subst IsSome (sym c.first.ensures.first)
    (found_first (list_at c.self.inside.chains.lists list) found.0 found.1 found.2)

pub invariant_of-self : goal.invariant_of-self
invariant_of-self c = (outcome c).0.arena

pub returns-clause-held : goal.returns-clause-held
returns-clause-held c = (outcome c).0.held_is

pub returns-clause-entries : goal.returns-clause-entries
returns-clause-entries c = (outcome c).0.entries_are

pub returns-clause-spare : goal.returns-clause-spare
returns-clause-spare c = (outcome c).1
