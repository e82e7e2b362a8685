use Rattle.std.proofs.Common.{◌≡◌, ◌++◌, List, length}
use Rattle.sect_points.specs.Paths.{PathView}
use Rattle.sect_infer.specs.{Numberings.{Finds}, steps.Putting.{AreOn}}
use Rattle.sect_infer.proofs.carry.Transfer.find_all_on.Given as goal

abbrev pub invariant-loop-path : goal.invariant-loop-path
invariant-loop-path l = (gone : List PathView) × (l.fn.paths.items ≡ l.paths.items ++ gone)
    × Finds l.self.scheme.now l.fn.numbering l.fn.found l.numbering l.found (AreOn l.self.scheme.now l.effect gone)

abbrev pub decreases-loop-path : goal.decreases-loop-path
decreases-loop-path l = length l.paths.items
