use Rattle.std.proofs.Common.{◌≡◌, ◌++◌, take}
use Rattle.std.specs.List.{flat_map}
use Rattle.sect_warnings.specs.Warnings.{class_at}
use Rattle.sect_warnings.proofs.judge.put_classes.Given as goal

abbrev pub invariant-loop-lock : goal.invariant-loop-lock
invariant-loop-lock l =
    l.found.items ≡ l.fn.found.items ++ flat_map (class_at l.section l.item) (take l.lock-index l.locks)
