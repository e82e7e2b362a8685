use Rattle.std.proofs.{Common.{rules, arith, ◌≡◌, length, get_or, ap, sym, ◌∙◌, vec_len}, lemmas.List.{get_or_read}}
use Rattle.sect_table.specs.declared.links.Link.{Link}
use Rattle.sect_table.specs.steps.Links.{Shape, no_link}
use Rattle.sect_table.proofs.Whole.{get_or-labels}
use Rattle.sect_table.proofs.lists.Lists.list_of.Goals as goal

pub returns : goal.returns
returns c =
    let n : length c.self.inside.links.items ≡ vec_len c.self.inside.links = search rules in
    let size : vec_len c.self.inside.links ≡ c.args.self.now.size = ap (λ (s : Shape). s.size) c.self.view_is in
    let node = c.requires in
    ap (λ (l : Link). l.list)
    (get_or_read c.self.inside.links.items c.args.node c.index.result.now (omega arith) c.index.ensures no_link)
    ∙ (sym (get_or-labels c.self.inside.links.items c.args.node 0 (omega arith))
    ∙ ap (λ (s : Shape). get_or s.labels c.args.node 0) c.self.view_is)
