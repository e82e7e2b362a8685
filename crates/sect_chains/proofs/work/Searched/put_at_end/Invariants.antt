use Rattle.std.proofs.Common.{take}
use Rattle.sect_chains.specs.steps.Working.{GoesOn}
use Rattle.sect_chains.proofs.{Carrying.{IsOfEnd}, Spreading.{AddsAtEnd}}
use Rattle.sect_chains.proofs.work.Searched.put_at_end.Given as goal

abbrev pub invariant-loop-lock : goal.invariant-loop-lock
invariant-loop-lock l = record {
  kept : GoesOn l.self.scheme.now l.self.thread l.self.last.now l.self.flow.now l.fn.trail l.trail
      (IsOfEnd l.self.scheme.now l.self.thread l.self.last.now l.self.flow.now
      (take l.lock-index l.self.last.now));
  order : AddsAtEnd l.self.scheme.now l.self.thread l.self.last.now l.self.flow.now l.fn.trail l.trail
      l.lock-index;
}
