use Rattle.std.proofs.Common.{take}
use Rattle.sect_points.specs.Paths.{path_of}
use Rattle.sect_points.proofs.ClassLaws.{ArePathSites}
use Rattle.sect_points.proofs.path_classes.path_sites.Given as goal

abbrev pub invariant-loop-field : goal.invariant-loop-field
invariant-loop-field l = ArePathSites l.points (path_of l.fn.base (take l.field-index l.fields)) l.sites.words
