use Rattle.std.proofs.Common.{◌++◌, length, ap, ◌∙◌, arith, append_assoc}
use Rattle.std.specs.String.{string_bytes}
use Rattle.sect_lemmas.proofs.Places.{at_of}
use Rattle.sect_emit.specs.Listing.{by_number, node_line, exit_line}
use Rattle.sect_emit.proofs.shared.Numbered.{added_on, all_added, on_ok}
use Rattle.sect_emit.proofs.printing.put_graph.Goals as goal

pub loop-node-preserved : goal.loop-node-preserved
loop-node-preserved c =
    let flow = c.args.flow.now in
    let line = node_line c.args.program.now.source c.args.thread c.args.word.now in
    let of = at_of flow c.loop-node.node (omega (arith, c.loop-node-test.true, c.exit-node-end.ensures.number)) in
    added_on line flow c.loop-node.node of.0 (string_bytes c.loop-node.text) (string_bytes c.put_node.new.text)
    (string_bytes c.args.text.now ++ by_number line 0 flow) of.1 (c.in_ok-put_node.ensures of.0 of.1)
    c.loop-node.invariant

pub returns : goal.returns
returns c =
    let flow = c.args.flow.now in
    let line = node_line c.args.program.now.source c.args.thread c.args.word.now in
    let old = string_bytes c.args.text.now in
    let lines = by_number line 0 flow in
    let last = exit_line c.args.word.now c.args.exit.now in
    let all = all_added line flow c.loop-node.node (string_bytes c.loop-node.text) (old ++ lines)
    (omega (arith, c.loop-node-test.false, c.loop-node.auto.node-end, c.exit-node-end.ensures.number))
    c.loop-node.invariant in
    on_ok c.put_exit.result c.put_exit.ensures (λ put. put
    ∙ (ap (λ n. string_bytes c.loop-node.text ++ last n) c.exit.ensures.number
    ∙ (ap (λ w. w ++ last (length flow)) all ∙ append_assoc old lines (last (length flow)))))
