use Rattle.std.proofs.Common.{◌≡◌, take}
use Rattle.sect_chains.specs.Numbered.{links_by}
use Rattle.sect_chains.proofs.numbered.NumberedChains.links.Given as goal

abbrev pub invariant-loop-step : goal.invariant-loop-step
invariant-loop-step l = l.links.items ≡ links_by l.self.keys (take l.step-index l.steps)
