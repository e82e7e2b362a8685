use Rattle.std.proofs.Common.{◌<◌, ℕ, take, map, length}
use Rattle.sect_lemmas.specs.Lists.{Has}
use Rattle.sect_chains.specs.{Chains.{AreChains}, Numbered.{links_by}, steps.Following.{chain_from}}
use Rattle.sect_chains.proofs.section.found.Given as goal

abbrev pub invariant-loop-lock : goal.invariant-loop-lock
invariant-loop-lock l = record {
  chains : AreChains l.section.scheme.now l.section.thread l.section.last.now l.section.flow.now
      (take l.lock-index l.locks)
      (map (links_by l.trail.numbering.keys) (map (chain_from l.trail.steps.items) l.chains.items));
  there : (i : ℕ) → Has l.chains.items i → i < length l.trail.steps.items;
}
