-- Elements that are chosen, one after another.
use Rattle.std.specs.Prelude.{◌≡◌, List, ◌++◌}
use Rattle.sect_conflicts.specs.Conflicts.{Selects}

-- what is chosen of these elements has come to the list
abbrev pub Adds : {X : Type 0} → (X → Type 0) → List X → List X → List X → Type 0
Adds {X} P xs old new = (more : List X) × (new ≡ old ++ more) × Selects P xs more
