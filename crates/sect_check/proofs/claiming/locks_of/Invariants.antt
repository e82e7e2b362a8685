use Rattle.std.proofs.Common.{take}
use Rattle.std.specs.List.{AllZip}
use Rattle.sect_check.specs.Names.{Denotes}
use Rattle.sect_check.proofs.claiming.locks_of.Given as goal

abbrev pub invariant-loop-named : goal.invariant-loop-named
invariant-loop-named l = AllZip (Denotes l.naming.scheme l.naming.thread) (take l.named-index l.list) l.locks.items
