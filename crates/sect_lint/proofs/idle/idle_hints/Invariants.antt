use Rattle.std.proofs.Common.{◌≡◌, ◌≤◌, ◌++◌, drop}
use Rattle.sect_lint.specs.Idle.{idle_from}
use Rattle.sect_lint.proofs.idle.idle_hints.Given as goal

abbrev pub invariant-loop-named : goal.invariant-loop-named
invariant-loop-named l = record {
  so_far : l.list.items ++ idle_from l.scheme l.number (drop l.named-index l.names) ≡ idle_from l.scheme 0 l.names;
  few : l.number ≤ l.named-index;
}
