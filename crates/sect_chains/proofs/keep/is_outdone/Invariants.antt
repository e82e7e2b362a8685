use Rattle.std.proofs.Common.{◌≡◌, take, false}
use Rattle.std.specs.List.{list_any}
use Rattle.sect_chains.specs.steps.Marking.{is_marked}
use Rattle.sect_chains.proofs.keep.is_outdone.Given as goal

abbrev pub invariant-loop-big : goal.invariant-loop-big
invariant-loop-big l = list_any (is_marked l.found) (take l.big-index l.big-items) ≡ false
