use Rattle.std.proofs.Common.{◌≡◌, ◌++◌, drop}
use Rattle.sect_warnings.specs.Apart.{firsts_behind, firsts}
use Rattle.sect_warnings.proofs.apart.firsts.Given as goal

abbrev pub invariant-loop-warning : goal.invariant-loop-warning
invariant-loop-warning l = l.list.items ++ firsts_behind l.last (drop l.warning-index l.all) ≡ firsts l.all
