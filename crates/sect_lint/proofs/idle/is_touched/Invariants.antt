use Rattle.std.proofs.Common.{◌≡◌, take, false}
use Rattle.std.specs.List.{list_any}
use Rattle.sect_lint.specs.Idle.{is_touched_in}
use Rattle.sect_lint.proofs.idle.is_touched.Given as goal

abbrev pub invariant-loop-section : goal.invariant-loop-section
invariant-loop-section l = list_any (is_touched_in l.of) (take l.section l.scheme.graphs.sections) ≡ false
