use Rattle.std.proofs.Common.{◌≡◌, ◌++◌, drop}
use Rattle.std.specs.List.{flat_map}
use Rattle.sect_cert.specs.steps.Writes.{next_lock}
use Rattle.sect_cert.proofs.writing.put_list.Given as goal

abbrev pub invariant-loop-lock : goal.invariant-loop-lock
invariant-loop-lock l = l.out.items ++ flat_map next_lock (drop l.lock-index l.others) ≡ l.initial.out.items
    ++ flat_map next_lock l.others
