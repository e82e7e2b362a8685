use Rattle.std.proofs.Common.{◌<◌, take}
use Rattle.sect_points.specs.{Sets.{InSets}, Paths.{path_of, PathHas}}
use Rattle.sect_points.proofs.path_classes.leading_site.Given as goal

abbrev pub invariant-loop-field : goal.invariant-loop-field
invariant-loop-field l = PathHas (InSets l.points) (path_of l.fn.base (take l.field-index l.fields)) l.site
    × (l.site < l.points.sites)
