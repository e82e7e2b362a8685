use Rattle.sect_chains.specs.steps.Working.{kept_of, IsGeneratedBelow}
use Rattle.sect_chains.proofs.Carrying.{generated_none, generated_next}
use Rattle.sect_chains.proofs.Spreading.{below_begin, below_before, below_next}
use Rattle.sect_chains.proofs.work.Searched.put_by_nodes.Goals as goal

pub loop-node-init : goal.loop-node-init
loop-node-init c =
    let a = c.args.self in
    let old = c.args.trail.now in
    record {
      kept = generated_none a.scheme.now a.thread a.last.now a.flow.now old.numbering (kept_of old) c.requires.work;
      order = below_begin a.scheme.now a.thread a.last.now a.flow.now old c.requires.none;
    }

pub put_by_node-requires-clause-before : goal.put_by_node-requires-clause-before
put_by_node-requires-clause-before c = λ l.
    let a = c.args.self in
    let j = c.loop-node.node in
    below_before a.scheme.now a.thread a.last.now a.flow.now c.args.trail.now c.loop-node.trail c.requires.none j
    (IsGeneratedBelow a.scheme.now a.thread a.flow.now j) c.loop-node.invariant.order l

pub loop-node-preserved : goal.loop-node-preserved
loop-node-preserved c =
    let a = c.args.self in
    let old = c.args.trail.now in
    let mid = c.loop-node.trail in
    let new = c.put_by_node.new.trail in
    record {
      kept = generated_next a.scheme.now a.thread a.last.now a.flow.now old.numbering (kept_of old) mid.numbering
          (kept_of mid) new.numbering (kept_of new) c.loop-node.node c.loop-node.invariant.kept
          c.in_ok-put_by_node.ensures.kept;
      order = below_next a.scheme.now a.thread a.last.now a.flow.now old mid new c.loop-node.node
          c.loop-node.invariant.order c.in_ok-put_by_node.ensures.order;
    }
