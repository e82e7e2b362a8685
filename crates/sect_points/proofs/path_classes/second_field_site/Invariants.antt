use Rattle.std.proofs.Common.{◌-◌}
use Rattle.sect_types.specs.declared.declarations.limits.TheConstants.{MOST_SITES}
use Rattle.sect_points.proofs.FilledLaws.{NothingBelow}
use Rattle.sect_points.proofs.path_classes.second_field_site.Given as goal

abbrev pub invariant-loop-base : goal.invariant-loop-base
invariant-loop-base l = NothingBelow l.from l.classes.sets l.bases.words l.first l.second

abbrev pub decreases-loop-base : goal.decreases-loop-base
decreases-loop-base l = MOST_SITES - l.from
