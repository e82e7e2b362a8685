use Rattle.std.proofs.Common.{◌++◌, arith}
use Rattle.std.specs.String.{string_bytes}
use Rattle.sect_lemmas.proofs.Places.{at_of}
use Rattle.sect_c.specs.Statements.{node_c}
use Rattle.sect_emit.specs.Listing.{by_number}
use Rattle.sect_emit.proofs.shared.Numbered.{added_on, all_added}
use Rattle.sect_c.proofs.statements.put_nodes.Goals as goal

pub loop-node-preserved : goal.loop-node-preserved
loop-node-preserved c =
    let flow = c.args.flow.now in
    let line = node_c c.args.context.now.program.now c.args.context.now.looked.now c.args.standing.now in
    let of = at_of flow c.loop-node.node (omega (arith, c.loop-node-test.true, c.exit-node-end.ensures.number)) in
    added_on line flow c.loop-node.node of.0 (string_bytes c.loop-node.text) (string_bytes c.put_node.new.text)
    (string_bytes c.args.text.now ++ by_number line 0 flow) of.1 (c.in_ok-put_node.ensures of.0 of.1) c.loop-node.invariant

pub returns : goal.returns
returns c =
    let flow = c.args.flow.now in
    let line = node_c c.args.context.now.program.now c.args.context.now.looked.now c.args.standing.now in
    all_added line flow c.loop-node.node (string_bytes c.loop-node.text)
    (string_bytes c.args.text.now ++ by_number line 0 flow)
    (omega (arith, c.loop-node-test.false, c.loop-node.auto.node-end, c.exit-node-end.ensures.number)) c.loop-node.invariant
