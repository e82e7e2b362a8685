-- What is added to a list.
use Rattle.std.specs.Prelude.{◌≡◌, List, ◌++◌}

-- the list has gained what is given before that of what follows
abbrev pub Adds : {A : Type 0} → List A → List A → (List A → List A) → Type 0
Adds {A} old new more = (w : List A) → new ++ w ≡ old ++ more w
