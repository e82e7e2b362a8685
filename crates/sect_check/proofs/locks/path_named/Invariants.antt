use Rattle.std.proofs.Common.{◌≡◌, drop}
use Rattle.sect_check.specs.Names.{path_named, path_from}
use Rattle.sect_check.proofs.locks.path_named.Given as goal

abbrev pub invariant-loop-name : goal.invariant-loop-name
invariant-loop-name l =
    path_named l.naming.scheme.program l.naming.thread l.named ≡ path_from l.program l.path l.reached
    (drop l.name-index l.named.fields)
