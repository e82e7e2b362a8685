use Rattle.std.proofs.Common.{◌++◌, ◌∷◌, [], sym, ◌∙◌, ap, refl}
use Rattle.sect_table.specs.Contents.{Contents, no_entry}
use Rattle.sect_table.proofs.{Shown.{seen}, Growing.{KeyAdded, key_added}}
use Rattle.sect_table.proofs.arena.Arena.add_key.Goals as goal

pub push_key-requires-clause-new : goal.push_key-requires-clause-new
push_key-requires-clause-new c =
    let s = seen _ _ _ _ _ _ c.self.invariant c.self.view_is in
    s.numbers c.args.key ∙ (c.requires ∙ sym s.keys_are)

outcome : (c : goal.In_ok-push_key)
    → KeyAdded c.self.inside.nodes.items c.self.inside.keys c.push_key.new.keys c.self.inside.threads
    c.self.inside.queues c.self.inside.chains c.push_key.new.queues c.self.inside.chains c.args.key
outcome c =
    let e = c.in_ok-push_key.ensures in
    key_added _ _ _ _ _ _ _ _ c.args.key c.self.invariant e.keys e.size e.labels e.queues e.few e.placed
    (record { size = refl; labels = refl; lists = refl; placed = c.self.invariant.in_chains })

pub invariant_of-self-2 : goal.invariant_of-self-2
invariant_of-self-2 c = (outcome c).arena

pub returns-clause-entries : goal.returns-clause-entries
returns-clause-entries c = (outcome c).entries_are
    ∙ ap (λ (z : Contents). z.entries ++ no_entry c.args.key ∷ []) c.self.view_is
