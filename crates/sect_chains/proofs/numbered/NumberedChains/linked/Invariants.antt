use Rattle.std.proofs.Common.{◌≡◌, take, map}
use Rattle.sect_chains.specs.Numbered.{links_by}
use Rattle.sect_chains.proofs.numbered.NumberedChains.linked.Given as goal

abbrev pub invariant-loop-index : goal.invariant-loop-index
invariant-loop-index l = l.chains.items ≡ map (links_by l.self.keys) (take l.index l.self.chains)
