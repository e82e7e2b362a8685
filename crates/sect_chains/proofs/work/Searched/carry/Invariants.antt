use Rattle.std.proofs.Common.{◌≡◌, Some, take}
use Rattle.std.specs.Prelude.{slice_get}
use Rattle.sect_lemmas.specs.Lists.{Has}
use Rattle.sect_names.specs.{declared.link.Link.{Link}, Chains.{LinksTo}}
use Rattle.sect_chains.specs.steps.Working.{links_of, GoesOn}
use Rattle.sect_chains.proofs.Spreading.{AddsFirst}
use Rattle.sect_chains.proofs.work.Searched.carry.Given as goal

abbrev pub invariant-loop-node : goal.invariant-loop-node
invariant-loop-node l = record {
  kept : (b : Link) → slice_get (links_of l.fn.trail.numbering.keys l.fn.trail.steps.items) l.index ≡ Some b
      → GoesOn l.self.scheme.now l.self.thread l.self.last.now l.self.flow.now l.fn.trail l.trail
      (λ a. Has (take l.node-index l.predecessors) a.node
      × LinksTo l.self.scheme.now l.self.thread l.self.flow.now a b);
  order : (b : Link) → slice_get (links_of l.fn.trail.numbering.keys l.fn.trail.steps.items) l.index ≡ Some b
      → AddsFirst l.self.scheme.now l.self.thread l.self.last.now l.self.flow.now b l.predecessors l.index
      l.fn.trail l.trail l.node-index;
}
