use Rattle.std.proofs.Common.{take}
use Rattle.sect_names.specs.Carrying.{LockOn}
use Rattle.sect_lemmas.proofs.Making.{Makes}
use Rattle.sect_names.proofs.scheme.Scheme.locks_on.Given as goal

abbrev pub invariant-loop-path : goal.invariant-loop-path
invariant-loop-path l = Makes (LockOn l.self l.effect) (take l.path-index l.paths) l.locks.items
