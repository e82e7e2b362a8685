-- The paths that may denote before a node what a path denotes after it. `earlier` cites it.
use Rattle.std.specs.Prelude.{◌≡◌}
use Rattle.sect_lemmas.specs.Lists.{Has}
use Rattle.sect_points.specs.Paths.{PathView}
use Rattle.sect_names.specs.declared.carry.Earlier.{Earlier}
use Rattle.sect_names.specs.declared.carry.Earlier.TheVariants as earlier

-- the path is one of these
abbrev pub IsOneOf : Earlier → PathView → Type 0
IsOneOf earlier.Nothing q = ⊥
IsOneOf (earlier.Alone p) q = q ≡ p
IsOneOf (earlier.Any paths) q = Has paths.items q
