use Rattle.std.proofs.Common.{◌≡◌, ◌++◌, drop}
use Rattle.sect_store.specs.Printing.{by_place}
use Rattle.sect_draw.specs.Graphs.{node_text}
use Rattle.sect_draw.proofs.graphing.put_nodes.Given as goal

abbrev pub invariant-loop-node : goal.invariant-loop-node
invariant-loop-node l = (let d = l.of in
    let piece = node_text d.compiled.now d.section d.generated.now in
    record {
      added : l.text.items ++ by_place piece l.node (drop l.node d.locks.now.at) ≡ l.fn.text.items
          ++ by_place piece 0 d.locks.now.at;
    })
