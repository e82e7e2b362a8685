use Rattle.std.proofs.Common.{rules, arith, ◌≡◌, ◌<◌, length, subst, ◌∙◌, ap, set, vec_len, None}
use Rattle.std.proofs.lemmas.Grind.{common_steps}
use Rattle.sect_table.specs.steps.Links.{moved, lists_of, AreLists, Shape}
use Rattle.sect_table.proofs.Whole.{labels-moved, moved_all, room_read, closed, lists-found, placed_sized}
use Rattle.sect_table.proofs.Whole.{previous_within, next_link_within, last_read, map-without}
use Rattle.sect_table.proofs.lists.Lists.move_to.Goals.{After-index, After-append}
use Rattle.sect_table.proofs.lists.Lists.move_to.Goals as goal

-- the number and the list are there
there : (c : After-index)
    → (c.args.node < length c.self.inside.links.items) × (c.args.list < length c.self.inside.ends.items)
there c =
    let n : length c.self.inside.links.items ≡ vec_len c.self.inside.links = search rules in
    let size : vec_len c.self.inside.links ≡ c.args.self.now.size = ap (λ (s : Shape). s.size) c.self.view_is in
    let lists : length (lists_of c.self.inside.links.items c.self.inside.ends.items) ≡ length c.args.self.now.lists =
    ap (λ (s : Shape). length s.lists) c.self.view_is in
    let counted : length (lists_of c.self.inside.links.items c.self.inside.ends.items) ≡ length
    c.self.inside.ends.items = c.self.invariant.counted in
    let node = c.requires.node in let list = c.requires.list in
    (omega arith, omega arith)

-- the lists after both steps
all_moved : (c : After-append)
    → (c.args.node < length c.self.inside.links.items) × (c.args.list < length c.self.inside.ends.items)
    → AreLists c.append.new.links.items
    (set (set c.self.inside.ends.items c.index.result.now.list c.detach.new.ends) c.args.list c.append.new.ends)
    (moved c.args.node c.args.list (lists_of c.self.inside.links.items c.self.inside.ends.items)) None
all_moved c t =
    moved_all c.self.inside.links.items c.detach.new.links.items c.append.new.links.items c.self.inside.ends.items
    c.args.node c.args.list c.index.result.now c.index_mut.result.now c.detach.new.ends c.index_mut-2.result.now
    c.append.new.ends c.self.invariant t.0 t.1 c.index.ensures c.index_mut.ensures.value c.detach.ensures.places
    c.index_mut-2.ensures.value c.append.ensures.places

pub append-requires-clause-room : goal.append-requires-clause-room
append-requires-clause-room c =
    let m : length c.detach.new.links.items ≡ vec_len c.detach.new.links = search rules in
    let t = there (goal.at.append-requires-clause-room c).After-index in
    subst (λ k. c.index_mut-2.result.now.len < k) m
    (room_read c.self.inside.links.items c.detach.new.links.items c.self.inside.ends.items c.args.node c.args.list
    c.index.result.now c.index_mut.result.now c.detach.new.ends c.index_mut-2.result.now c.self.invariant t.0 t.1
    c.index.ensures c.index_mut.ensures.value c.detach.ensures.places c.index_mut-2.ensures.value)

pub invariant_of-self : goal.invariant_of-self
invariant_of-self c = let at = goal.at.invariant_of-self c in
    closed _ _ _ (all_moved at.After-append (there at.After-index))

pub returns : goal.returns
returns c =
    let at = goal.at.returns c in
    let t = there at.After-index in
    let all = all_moved at.After-append t in
    record {
      size = search rules;
      count = grind (arith, common_steps);
      labels = labels-moved _ _ _ _ _ _ _ _ _ t.0 c.detach.ensures.places c.append.ensures.places
          ∙ ap (λ (s : Shape). set s.labels c.args.node c.args.list) c.self.view_is;
      lists = lists-found _ _ _ _ all ∙ ap (λ (s : Shape). moved c.args.node c.args.list s.lists) c.self.view_is;
      placed = placed_sized _ _ _ _ _ (search rules) (invariant_of-self c);
      places = λ from below h. map-without c.self.inside.links.items c.self.inside.ends.items c.args.self.now.lists
          c.args.node from
          (subst (λ (s : Shape). AreLists c.self.inside.links.items c.self.inside.ends.items s.lists None)
          c.self.view_is c.self.invariant) below h;
    }

pub detach-requires-clause-previous : goal.detach-requires-clause-previous
detach-requires-clause-previous c =
    let n : length c.self.inside.links.items ≡ vec_len c.self.inside.links = search rules in
    λ a is. subst (λ k. a < k) n (previous_within c.self.inside.links.items c.self.inside.ends.items c.args.node
    c.self.invariant (there (goal.at.detach-requires-clause-previous c).After-index).0 a is)

pub detach-requires-clause-next : goal.detach-requires-clause-next
detach-requires-clause-next c =
    let n : length c.self.inside.links.items ≡ vec_len c.self.inside.links = search rules in
    λ a is. subst (λ k. a < k) n (next_link_within c.self.inside.links.items c.self.inside.ends.items c.args.node
    c.self.invariant (there (goal.at.detach-requires-clause-next c).After-index).0 a is)

pub append-requires-clause-last : goal.append-requires-clause-last
append-requires-clause-last c =
    let m : length c.detach.new.links.items ≡ vec_len c.detach.new.links = search rules in
    let t = there (goal.at.append-requires-clause-last c).After-index in
    λ a is. subst (λ k. a < k) m (last_read c.self.inside.links.items c.detach.new.links.items c.self.inside.ends.items
    c.args.node c.args.list c.index.result.now c.index_mut.result.now c.detach.new.ends c.index_mut-2.result.now
    c.self.invariant t.0 t.1 c.index.ensures c.index_mut.ensures.value c.detach.ensures.places
    c.index_mut-2.ensures.value a is)
