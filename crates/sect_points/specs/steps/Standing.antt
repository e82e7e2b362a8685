-- The statements of a row.
use Rattle.std.specs.{Prelude.{List, [], ◌∷◌}}
use Rattle.sect_points.specs.{declared.holders.ThreadAction.{ThreadAction}, declared.row.Standing.{Standing}}
use Rattle.sect_points.specs.declared.row.Standing.TheVariants as standing

abbrev pub standing_there : Standing → List ThreadAction
standing_there standing.Nothing = []
standing_there (standing.Alone p) = p ∷ []
standing_there (standing.Many many) = many.items
