-- The object that one lock asks for. `wish_of` cites it.
use Rattle.std.specs.Prelude.{List, [], ◌∷◌, Option, Some, None}
use Rattle.sect_emit.specs.declared.plan.Grip.{Grip}

-- what is wanted, if something is
abbrev pub wishes_in : Option Grip → List Grip
wishes_in None = []
wishes_in (Some g) = g ∷ []
