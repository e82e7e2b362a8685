use Rattle.std.proofs.Common.{rules, arith, ◌≡◌, ◌<◌, length, ap, subst, ◌∙◌, vec_len, IfSome}
use Rattle.sect_table.specs.steps.Links.{Shape}
use Rattle.sect_table.proofs.Whole.{after_is, after_within}
use Rattle.sect_table.proofs.lists.Lists.after.Goals as goal

pub returns-clause-next : goal.returns-clause-next
returns-clause-next c =
    let n : length c.self.inside.links.items ≡ vec_len c.self.inside.links = search rules in
    let size : vec_len c.self.inside.links ≡ c.args.self.now.size = ap (λ (s : Shape). s.size) c.self.view_is in
    let node = c.requires in
    after_is c.self.inside.links.items c.self.inside.ends.items c.args.node c.index.result.now c.self.invariant
    (omega arith) c.index.ensures c.args.self.now.lists (ap (λ (s : Shape). s.lists) c.self.view_is)

pub returns-clause-within : goal.returns-clause-within
returns-clause-within c =
    let n : length c.self.inside.links.items ≡ vec_len c.self.inside.links = search rules in
    let size : vec_len c.self.inside.links ≡ c.args.self.now.size = ap (λ (s : Shape). s.size) c.self.view_is in
    let node = c.requires in
    subst (λ z. IfSome c.index.result.now.next (λ y. y < z)) (n ∙ size)
    (after_within c.self.inside.links.items c.self.inside.ends.items c.args.node c.index.result.now c.self.invariant
    (omega arith) c.index.ensures)
