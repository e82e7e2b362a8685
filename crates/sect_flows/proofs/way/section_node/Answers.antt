use Rattle.std.proofs.Common.{◌≡◌, ◌<◌, ◌∙◌, length, sym, ap, arith}
use Rattle.sect_lemmas.proofs.Places.{at_of, told_of}
use Rattle.sect_graph.specs.declared.flow.Node.{Node}
use Rattle.sect_flows.specs.Flows.{is_section}
use Rattle.sect_flows.proofs.Finding.{found_first, found_none}
use Rattle.sect_flows.proofs.way.section_node.Goals as goal

pub returns-then-is_section : goal.returns-then-is_section
returns-then-is_section c =
    let nodes = c.args.flow.now in
    let n = c.loop-number.number in
    let within : n < length nodes = omega (arith, c.loop-number-test.true, c.exit-number-end.ensures.number) in
    let (x, at) = at_of nodes n within in
    let told = told_of (λ (y : Node). y.label) nodes n c.action.result c.action.ensures x at in
    c.node_at.ensures ∙ at ∙ sym (found_first c.args.section nodes n x c.loop-number.invariant at
    (ap (is_section c.args.section) told ∙ sym c.is_section.ensures ∙ c.if-is_section.true))

pub returns : goal.returns
returns c =
    let nodes = c.args.flow.now in
    let end = c.exit-number-end.ensures.number in
    sym (found_none c.args.section nodes (λ j x lt at.
    c.loop-number.invariant j x (omega (arith, lt, end, c.loop-number-test.false)) at))
