use Rattle.std.proofs.Common.{◌<◌, ◌-◌, Some, length, sym, ◌∙◌, ap, subst, arith}
use Rattle.std.proofs.lemmas.Option.{slice_get-get_or, get_or_from_slice_get}
use Rattle.sect_graph.specs.Layout.{flow_nodes}
use Rattle.sect_names.specs.declared.link.Link.{Link}
use Rattle.sect_emit.specs.Explaining.{section_at}
use Rattle.sect_warnings.proofs.ClassMarks.{last_there, some_steps}
use Rattle.sect_warnings.proofs.class_mark.last_link.Goals as goal

pub bounds-links-links : goal.bounds-links-links
bounds-links-links c =
    let some = some_steps c.args.compiled.now c.facts.ensures.compiled c.args.section c.requires.section
    c.args.lock.class c.args.lock.effect c.args.links.now c.requires.reason in
    omega (arith, some)

pub returns-clause-last : goal.returns-clause-last
returns-clause-last c =
    let links = c.args.links.now in
    let some = some_steps c.args.compiled.now c.facts.ensures.compiled c.args.section c.requires.section
    c.args.lock.class c.args.lock.effect links c.requires.reason in
    slice_get-get_or links (length links - 1) c.index-links-links.result (omega (arith, some))
    ∙ ap (λ x. Some x) (sym c.index-links-links.is)

pub returns-clause-node : goal.returns-clause-node
returns-clause-node c =
    let v = c.args.compiled.now in
    let links = c.args.links.now in
    let last = last_there v c.facts.ensures.compiled c.args.section c.requires.section c.args.lock.class
    c.args.lock.effect links c.requires.reason in
    subst (λ (x : Link). x.node < length (flow_nodes (section_at v c.args.section).body))
    (sym (c.index-links-links.is
    ∙ get_or_from_slice_get links (length links - 1) last.0 c.index-links-links.result last.1)) last.2
