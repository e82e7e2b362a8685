use Rattle.std.proofs.Common.{◌≡◌, length}
use Rattle.sect_names.specs.Comparing.{fields_eq}
use Rattle.sect_names.proofs.path.same_fields.Given as goal

abbrev pub invariant-loop-first : goal.invariant-loop-first
invariant-loop-first l = fields_eq l.left l.right ≡ fields_eq l.fields l.others

abbrev pub decreases-loop-first : goal.decreases-loop-first
decreases-loop-first l = length l.left
