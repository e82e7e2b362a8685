use Rattle.std.proofs.Common.{length}
use Rattle.sect_chains.specs.steps.Starting.{AreStarts}
use Rattle.sect_chains.proofs.starts.starts_of.Given as goal

abbrev pub invariant-loop-index : goal.invariant-loop-index
invariant-loop-index l = AreStarts (length l.trail.numbering.keys) l.trail.steps.items l.index l.starts.items
