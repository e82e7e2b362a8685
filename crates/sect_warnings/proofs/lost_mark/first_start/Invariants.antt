use Rattle.std.proofs.Common.{◌≡◌, drop}
use Rattle.sect_warnings.specs.Labels.{first_start}
use Rattle.sect_warnings.proofs.lost_mark.first_start.Given as goal

abbrev pub invariant-loop-named : goal.invariant-loop-named
invariant-loop-named l = first_start l.item (drop l.named-index l.names) ≡ first_start l.item l.names
