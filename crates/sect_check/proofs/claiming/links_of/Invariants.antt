use Rattle.std.proofs.Common.{take}
use Rattle.std.specs.List.{AllZip}
use Rattle.sect_check.specs.Meaning.{DenotesStep}
use Rattle.sect_check.proofs.claiming.links_of.Given as goal

abbrev pub invariant-loop-index : goal.invariant-loop-index
invariant-loop-index l = AllZip (DenotesStep l.naming.scheme l.naming.thread) (take l.index l.steps) l.links
