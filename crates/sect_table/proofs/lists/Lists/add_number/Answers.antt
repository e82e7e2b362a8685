use Rattle.std.proofs.Common.{rules, arith, ◌≡◌, ◌<◌, ◌++◌, ◌∷◌, [], length, subst, sym, ◌∙◌, ap, set, vec_len, None}
use Rattle.sect_table.specs.steps.Links.{lists_of, list_at, AreLists, Shape}
use Rattle.sect_table.proofs.Whole.{labels-added, added_all, room_added, closed, lists-found, placed_sized, last_added}
use Rattle.sect_table.proofs.lists.Lists.add_number.Goals.{After-len-node, After-append}
use Rattle.sect_table.proofs.lists.Lists.add_number.Goals as goal

-- the list is there
there : (c : After-len-node) → c.args.list < length c.self.inside.ends.items
there c =
    let lists : length (lists_of c.self.inside.links.items c.self.inside.ends.items) ≡ length c.args.self.now.lists =
    ap (λ (s : Shape). length s.lists) c.self.view_is in
    let counted : length (lists_of c.self.inside.links.items c.self.inside.ends.items) ≡ length
    c.self.inside.ends.items = c.self.invariant.counted in
    let list = c.requires.list in
    omega arith

-- the new number is how many there were
next : (c : After-len-node) → c.len-node.result ≡ length c.self.inside.links.items
next c =
    let n : length c.self.inside.links.items ≡ vec_len c.self.inside.links = search rules in c.len-node.ensures ∙ sym n

-- the lists with the new number
all_added : (c : After-append) → c.args.list < length c.self.inside.ends.items
    → c.len-node.result ≡ length c.self.inside.links.items
    → AreLists c.append.new.links.items (set c.self.inside.ends.items c.args.list c.append.new.ends)
    (set (lists_of c.self.inside.links.items c.self.inside.ends.items) c.args.list
    (list_at (lists_of c.self.inside.links.items c.self.inside.ends.items) c.args.list ++ c.len-node.result ∷ []))
    None
all_added c lt is = added_all _ _ _ _ _ _ _ _ _ c.self.invariant is c.push_reserved.ensures.items lt
    c.index_mut.ensures.value c.append.ensures.places

pub append-requires-clause-room : goal.append-requires-clause-room
append-requires-clause-room c =
    let m : length c.push_reserved.new.self.items ≡ vec_len c.push_reserved.new.self = search rules in
    subst (λ k. c.index_mut.result.now.len < k) m
    (room_added _ _ _ _ _ _ c.self.invariant c.push_reserved.ensures.items
    (there (goal.at.append-requires-clause-room c).After-len-node) c.index_mut.ensures.value)

pub invariant_of-self : goal.invariant_of-self
invariant_of-self c = let at = goal.at.invariant_of-self c in
    closed _ _ _ (all_added at.After-append (there at.After-len-node) (next at.After-len-node))

pub returns-clause-lists : goal.returns-clause-lists
returns-clause-lists c =
    let size : vec_len c.self.inside.links ≡ c.args.self.now.size = ap (λ (s : Shape). s.size) c.self.view_is in
    let at = goal.at.returns-clause-lists c in
    lists-found _ _ _ _ (all_added at.After-append (there at.After-len-node) (next at.After-len-node))
    ∙ (ap (λ (s : Shape). set s.lists c.args.list (list_at s.lists c.args.list ++ c.len-node.result ∷ []))
    c.self.view_is
    ∙ ap (λ z. set c.args.self.now.lists c.args.list (list_at c.args.self.now.lists c.args.list ++ z ∷ []))
    (c.len-node.ensures ∙ size))

pub returns-clause-labels : goal.returns-clause-labels
returns-clause-labels c =
    labels-added _ _ _ _ _ _ _ _ _ (next (goal.at.returns-clause-labels c).After-len-node)
    c.push_reserved.ensures.items c.append.ensures.places
    ∙ ap (λ (s : Shape). s.labels ++ c.args.list ∷ []) c.self.view_is

pub returns-clause-placed : goal.returns-clause-placed
returns-clause-placed c = placed_sized _ _ _ _ _ (search rules) (invariant_of-self c)

pub append-requires-clause-last : goal.append-requires-clause-last
append-requires-clause-last c =
    let m : length c.push_reserved.new.self.items ≡ vec_len c.push_reserved.new.self = search rules in
    λ a is. subst (λ k. a < k) m (last_added _ _ _ _ _ _ c.self.invariant c.push_reserved.ensures.items
    (there (goal.at.append-requires-clause-last c).After-len-node) c.index_mut.ensures.value a is)
