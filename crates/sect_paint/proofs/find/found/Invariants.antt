use Rattle.std.proofs.Common.{◌≡◌, drop}
use Rattle.sect_paint.specs.Looks.{found as found_by}
use Rattle.sect_paint.proofs.find.found.Given as goal

abbrev pub invariant-loop-place : goal.invariant-loop-place
invariant-loop-place l = found_by l.words l.place (drop l.place l.line) ≡ found_by l.words 0 l.line
