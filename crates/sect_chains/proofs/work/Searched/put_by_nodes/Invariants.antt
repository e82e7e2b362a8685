use Rattle.sect_chains.specs.steps.Working.{GoesOn, IsGeneratedBelow}
use Rattle.sect_chains.proofs.Spreading.{AddsBelow}
use Rattle.sect_chains.proofs.work.Searched.put_by_nodes.Given as goal

abbrev pub invariant-loop-node : goal.invariant-loop-node
invariant-loop-node l = record {
  kept : GoesOn l.self.scheme.now l.self.thread l.self.last.now l.self.flow.now l.fn.trail l.trail
      (IsGeneratedBelow l.self.scheme.now l.self.thread l.self.flow.now l.node);
  order : AddsBelow l.self.scheme.now l.self.thread l.self.last.now l.self.flow.now l.fn.trail l.trail
      l.node;
}
